-- The reasons and the numbers of the table stand for each other: each reason has a number of its own, from 1 to 11. So an outcome tells 0 where nothing is refused, and only there.
use mathlib.Core.Path.{◌≡◌, refl, sym, ap, ◌∙◌}
use mathlib.Core.Bool.{true, false, cond, ◌&&◌}
use mathlib.Core.Logic.{◌≢◌}
use Prim.Native.Nat.{ℕ, zero, suc, ◌+◌, ◌-◌, ◌≤◌}
use native.Mathlib.Omega.{arith}
use lib.Dec.{eqb, leb}
use lib.Ieee.{Float}
use borrow.Author.Tests.{eqb-true, leb-true, ne_eqb}
use Rattle.std.specs.declared.result.Result.{Result}
use Rattle.std.specs.declared.result.Result.TheVariants.{Ok, Err}
use Rattle.std.specs.Result.{IsErrAnd}
use Rattle.matrix.specs.Parts.{table}
use Rattle.matrix.specs.System.{every}
use Rattle.matrix.proofs.Every.{and_left, every_at}
use Rattle.bench.specs.declared.refusal.Refusal.{Refusal}
use Rattle.bench.specs.declared.refusal.Refusal.TheVariants.{Lent, Seat, Occupancy, Lists, Index, Number, Edge, System, Solution, Turn, Drape}
use Rattle.bench.specs.declared.seats.Record.{Record}
use Rattle.bench.specs.declared.answers.Numbers.{Numbers}
use Rattle.bench.specs.declared.answers.StepAnswer.TheVariants.{Refused}
use Rattle.bench.specs.Rows.{last_number}
use Rattle.bench.specs.Step.{report_by}
use Rattle.bench.specs.Refusals.{refusal_number, refusal_of, told, record_after, answered}

-- ---- a reason's number
record Numbered (r : Refusal) : Type 0 where
  pub in_table : (leb 1 (refusal_number r) && leb (refusal_number r) last_number) ≡ true
  pub back : refusal_of (refusal_number r) ≡ r

numbered : (r : Refusal) → Numbered r
unfolding refusal_number refusal_of
numbered Lent = record { in_table = refl; back = refl }
numbered Seat = record { in_table = refl; back = refl }
numbered Occupancy = record { in_table = refl; back = refl }
numbered Lists = record { in_table = refl; back = refl }
numbered Index = record { in_table = refl; back = refl }
numbered Number = record { in_table = refl; back = refl }
numbered Edge = record { in_table = refl; back = refl }
numbered System = record { in_table = refl; back = refl }
numbered Solution = record { in_table = refl; back = refl }
numbered Turn = record { in_table = refl; back = refl }
numbered Drape = record { in_table = refl; back = refl }

pub number_least : (r : Refusal) → 1 ≤ refusal_number r
number_least r = leb-true 1 (refusal_number r) (and_left (leb 1 (refusal_number r)) (leb (refusal_number r) last_number) (numbered r).in_table)

pub number_not_0 : (r : Refusal) → refusal_number r ≢ 0
number_not_0 r = λ e. absurd (omega (arith, number_least r))

pub number_eqb_0 : (r : Refusal) → eqb (refusal_number r) 0 ≡ false
number_eqb_0 r = ne_eqb (refusal_number r) 0 (number_not_0 r)

-- ---- there and back
pub reason_of_number : (r : Refusal) → refusal_of (refusal_number r) ≡ r
reason_of_number r = (numbered r).back

counted : every (λ (k : ℕ). eqb (refusal_number (refusal_of (k + 1))) (k + 1)) (table last_number (λ k. k)) ≡ true
unfolding refusal_number refusal_of every table
counted = refl

pub number_of_reason : (k : ℕ) → 1 ≤ k → k ≤ last_number → refusal_number (refusal_of k) ≡ k
number_of_reason k l m =
    let e : k - 1 + 1 ≡ k = omega arith in
    rw e at (eqb-true _ _ (every_at (λ (i : ℕ). eqb (refusal_number (refusal_of (i + 1))) (i + 1)) last_number (λ i. i) counted (k - 1) (omega arith)))

-- ---- an outcome
-- what `?` hands on is refused for the same reason
pub told_on : {A : Type 0} (o : Result A Refusal) (r : Refusal) → IsErrAnd o (λ x. x ≡ r) → told o ≡ refusal_number r
unfolding told
told_on (Ok x) r h = absurd h
told_on (Err x) r h = ap refusal_number h

-- and so is a table that goes by the number of that reason, where it is not 0
pub refused_on : {A : Type 0} (o : Result A Refusal) (r : Refusal) (m n : ℕ) → IsErrAnd o (λ x. x ≡ r) → n ≡ cond (eqb (refusal_number r) 0) m (refusal_number r) → told o ≡ n
refused_on o r m n h e = told_on o r h ∙ sym (e ∙ rw (number_eqb_0 r))

-- ---- a record, and a step's answer
pub record_kept : (s : Record) (o : Result Record Refusal) (r : Refusal) → IsErrAnd o (λ x. x ≡ r) → record_after s o ≡ s
unfolding record_after
record_kept s (Ok x) r h = absurd h
record_kept s (Err x) r h = refl

pub answered_on : (o : Result Numbers Refusal) (r : Refusal) → IsErrAnd o (λ x. x ≡ r) → answered o ≡ Refused r
unfolding answered
answered_on (Ok x) r h = absurd h
answered_on (Err x) r h = ap Refused h

report_by_number : (k : ℕ) (energy ratio : Float) (count : ℕ) → k ≢ 0 → report_by k energy ratio count ≡ Refused (refusal_of k)
report_by_number zero e x c h = absurd (h refl)
report_by_number (suc k) e x c h = refl

pub report_refused : (r : Refusal) (energy ratio : Float) (count : ℕ) → report_by (refusal_number r) energy ratio count ≡ Refused r
report_refused r e x c = report_by_number (refusal_number r) e x c (number_not_0 r) ∙ ap Refused (reason_of_number r)
