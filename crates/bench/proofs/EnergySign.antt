-- A step that is accepted has a taken seat, so refusal 1 has tested its stiffnesses, and the energy has the sign plus or is NaN; 8 declines what is not finite.
-- The proof is about the energy that any answer tells: all others tell +0.
use mathlib.Core.Path.{◌≡◌, refl, sym, subst}
use mathlib.Core.Bool.{true}
use mathlib.Core.List.{List}
use mathlib.Core.Logic.{◌≢◌}
use Prim.Native.Nat.{ℕ, ◌<◌}
use native.Mathlib.Omega.{arith}
use lib.ListN.{length, get_or}
use lib.Ieee.{Float}
use borrow.Author.Tests.{not-true, eqb-false}
use Rattle.vectors.specs.Number.{plus_zero}
use Rattle.vectors.specs.Signs.{plus, Sign, Side, signed}
use Rattle.vectors.specs.Finite.{is_finite}
use Rattle.vectors.proofs.Signs.{not_minus_zero, zero_sign, plus_side, side_not_below}
use Rattle.matrix.specs.HairSystem.{Shape}
use Rattle.matrix.proofs.Cases.{by_equality}
use Rattle.matrix.proofs.Every.{and_right}
use Rattle.matrix.proofs.EnergySign.{energy_has_plus}
use Rattle.bench.specs.declared.answers.Pick.{Pick}
use Rattle.bench.specs.declared.seats.Settings.{Settings}
use Rattle.bench.specs.Strand.{Strand, setting_numbers, Bench, strand_of}
use Rattle.bench.specs.Given.{not_negative, good_settings}
use Rattle.bench.specs.Rows.{first}
use Rattle.bench.specs.Step.{Time, energy_of, begun_with, update_of}
use Rattle.bench.specs.Answers.{Answer, step_numbers, numbers_told}
use Rattle.bench.specs.Asks.{Request, load, unload, pin, look, companion, step, refusal_at, Asks, of, call_with, lent_of}
use Rattle.bench.specs.Requests.{case_at}
use Rattle.bench.specs.Calls.{case_of, done_of, number_of, answer_of}
use Rattle.bench.specs.EnergySign.{NoMinus, EnergyHasNoMinus}
use Rattle.bench.proofs.EveryNumber.{every_get_or}
use Rattle.bench.proofs.RowLaws.{demands_of}
use Rattle.bench.proofs.Entered.{answer_refused, entered}
use Rattle.bench.proofs.SeatParts.{finite_zero}
use Rattle.bench.proofs.Requests.{shown, asked_then}
use Rattle.bench.proofs.Accepting.{energy_finite}

no_minus : {x : Float} → Sign plus x → is_finite x ≡ true → NoMinus x
no_minus p f = record { finite = f; not_below = side_not_below (signed p); not_minus_zero = not_minus_zero p }

zero_no_minus : NoMinus plus_zero
zero_no_minus = no_minus zero_sign finite_zero

-- ---- a step
tested : (x : Float) → not_negative x ≡ true → Side plus x
tested x h = plus_side x (not-true _ (and_right (is_finite x) _ h))

energy_sign : (n : ℕ) (g : Settings) (rest : List Float) (staged : Shape) → good_settings g ≡ true → Sign plus (energy_of n g rest staged)
unfolding energy_of good_settings
energy_sign n g rest staged h =
    let at : (i : ℕ) → i < length (setting_numbers g) → Side plus (get_or (setting_numbers g) i plus_zero) = λ i b. tested _ (every_get_or not_negative plus_zero (setting_numbers g) h i b) in
    energy_has_plus n _ staged _ _ (at 0 (omega arith)) (at 1 (omega arith)) (at 2 (omega arith)) (at 3 (omega arith))

step_energy : (t : Strand) (p : Pick) (d : Time) → good_settings t.settings ≡ true → first (update_of t p d).rows ≡ 0 → NoMinus (update_of t p d).energy
unfolding update_of begun_with
step_energy t p d g h = no_minus (energy_sign t.count t.settings t.rest _ g) (energy_finite t p d h)

-- ---- a request
abbrev told : Answer → Float
told r = (numbers_told r).energy

refusal_energy : (a : Request) (k : ℕ) → told (refusal_at a k) ≡ plus_zero
unfolding numbers_told step_numbers
refusal_energy (load g) k = refl
refusal_energy unload k = refl
refusal_energy (pin v c x) k = refl
refusal_energy (look j) k = refl
refusal_energy (companion j) k = refl
refusal_energy (step p d) k = refl

step_taken : (p : Pick) (d : Time) (t : Strand) → first (case_at (step p d) t).rows ≡ 0 → t.count ≢ 0
unfolding case_at demands_of
step_taken p d t e = eqb-false t.count 0 (not-true _ (shown (step p d) t e 3 0))

answer_energy : (a : Request) (t : Strand) → (t.count ≢ 0 → good_settings t.settings ≡ true) → first (case_at a t).rows ≡ 0 → NoMinus (told (case_at a t).answer)
unfolding case_at numbers_told step_numbers
answer_energy (load g) t s e = zero_no_minus
answer_energy unload t s e = zero_no_minus
answer_energy (pin v c x) t s e = zero_no_minus
answer_energy (look k) t s e = zero_no_minus
answer_energy (companion k) t s e = zero_no_minus
answer_energy (step p d) t s e = step_energy t p d (s (step_taken p d t e)) (asked_then p d t e)

-- ---- a call
energy_one : (s : ℕ) (a : Request) (w : List Float) (b : Bench) → NoMinus (told (answer_of (call_with w s a) b))
unfolding done_of case_of strand_of
energy_one s a w b =
    let c = call_with w s a in
    by_equality (number_of c b) 0
    (λ e. let h = entered w s a b 0 (sym e) refl in rw e (answer_energy a (strand_of s b) h.settings h.rows))
    (λ n. rw (answer_refused (of s a) (number_of c b) (case_of (of s a) (lent_of c) b).answer n, refusal_energy a (number_of c b)) zero_no_minus)

energy_by : (a : Asks) (w : List Float) (b : Bench) → NoMinus (told (answer_of (record { asks = a; work = w }) b))
energy_by (of s a) w b = energy_one s a w b

pub energy_has_no_minus : EnergyHasNoMinus
unfolding numbers_told step_numbers
energy_has_no_minus c b e ratio count h = subst (λ (r : Answer). NoMinus (told r)) h (energy_by c.asks c.work b)
