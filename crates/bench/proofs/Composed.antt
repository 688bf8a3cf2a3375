-- A step is its beginning, its solve and its end: what each part promises of the work area is what the next one takes.
-- So the first row of the whole that fails is the beginning's, or, where that has none, the end's.
use mathlib.Core.Path.{◌≡◌, refl, sym, ◌∙◌}
use mathlib.Core.Bool.{true}
use mathlib.Core.List.{List}
use mathlib.Core.Logic.{◌≢◌}
use Prim.Native.Nat.{ℕ, zero, suc}
use lib.Ieee.{Float}
use Rattle.std.specs.declared.result.Result.{Result}
use Rattle.std.specs.Result.{IsErrAnd}
use Rattle.matrix.specs.Area.{after_vectors}
use Rattle.matrix.specs.System.{every, system_at}
use Rattle.matrix.specs.HairSystem.{staged_shape}
use Rattle.matrix.specs.ConjugateGradient.{Outcome}
use Rattle.matrix.proofs.Shapes.{shape_kept}
use Rattle.bench.specs.declared.answers.Pick.{Pick}
use Rattle.bench.specs.declared.answers.Numbers.{Numbers}
use Rattle.bench.specs.declared.answers.StepAnswer.TheVariants.{Accepted}
use Rattle.bench.specs.declared.refusal.Refusal.{Refusal}
use Rattle.bench.specs.Strand.{Strand}
use Rattle.bench.specs.Rows.{Row, first, in_table}
use Rattle.bench.specs.Refusals.{refusal_number, answered}
use Rattle.bench.specs.Update.{update_solution_hair}
use Rattle.bench.specs.Step.{Time, shape_by, Begun, begun_with, begin_rows, solved, drape_after, finish_rows, update_of, report_by, drape_by, step_answer, step_drape}
use Rattle.bench.proofs.Refusals.{number_not_0, answered_on, report_refused}
use Rattle.bench.proofs.RowLaws.{first_before, first_behind}

drape_refused : (k : ℕ) (old new : List Float) → k ≢ 0 → drape_by k old new ≡ old
drape_refused zero old new h = absurd (h refl)
drape_refused (suc k) old new h = refl

begin_rows_lem : (n : ℕ) (b : Begun) → every in_table (begin_rows n b) ≡ true
unfolding every begin_rows
begin_rows_lem n b = refl

module _ (t : Strand) (pick : Pick) (time : Time) where
  -- what the step begins with
  abbrev pub begun_of : Begun
  begun_of = begun_with time t.count t.settings t.rest pick (shape_by time t.count t.pins t.drape)

  -- ---- a step that does not begin, for the reason r
  module _ (r : Refusal) (e : refusal_number r ≡ first (begin_rows t.count begun_of)) where
    declined : first (update_of t pick time).rows ≡ refusal_number r
    unfolding update_of
    declined = first_before (begin_rows t.count begun_of) _ (λ z. number_not_0 r (e ∙ z)) ∙ sym e

    pub answer_declined : (o : Result Numbers Refusal) → IsErrAnd o (λ x. x ≡ r) → answered o ≡ step_answer (update_of t pick time)
    answer_declined o h = answered_on o r h ∙ rw declined (sym (report_refused r _ _ _))

    pub drape_declined : t.drape ≡ step_drape t.drape (update_of t pick time)
    drape_declined = rw declined (sym (drape_refused (refusal_number r) t.drape _ (number_not_0 r)))

  -- ---- a step that does, with the energy e and the work area w: o is what the solve found, and v the work area after it
  module _ (e : Float) (w v : List Float) (o : Outcome) (z : 0 ≡ first (begin_rows t.count begun_of)) (f : e ≡ begun_of.energy) (y : system_at t.count w ≡ begun_of.system) (h : staged_shape t.count w ≡ begun_of.staged)
      (a : after_vectors v ≡ after_vectors w) (q : o ≡ solved t.count t.pins t.settings.conv_ratio (system_at t.count w)) where
    abbrev drape_on : List Float
    drape_on = drape_after time t.count t.pins t.drape (update_solution_hair t.count t.pins (staged_shape t.count v) o.left.u)

    abbrev rows_on : List Row
    rows_on = finish_rows t.count t.pins (staged_shape t.count v) o drape_on

    rows_on_lem : first (update_of t pick time).rows ≡ first rows_on
    unfolding update_of
    rows_on_lem = first_behind (begin_rows t.count begun_of) _ (begin_rows_lem t.count begun_of) (sym z) ∙ rw (q, y, shape_kept w v a t.count, h)

    report_on : report_by (first rows_on) e o.ratio o.count ≡ step_answer (update_of t pick time)
    unfolding update_of
    report_on = rw (rows_on_lem, q, f, y)

    -- refused for the reason r
    pub answer_on : (x : Result Numbers Refusal) (r : Refusal) → IsErrAnd x (λ s. s ≡ r) → refusal_number r ≡ first rows_on → answered x ≡ step_answer (update_of t pick time)
    answer_on x r d m = answered_on x r d ∙ sym (report_refused r e o.ratio o.count) ∙ rw m report_on

    pub accepted_on : 0 ≡ first rows_on → Accepted e o.ratio o.count ≡ step_answer (update_of t pick time)
    accepted_on m = rw (← m) at report_on

    pub drape_on_lem : drape_by (first rows_on) t.drape drape_on ≡ step_drape t.drape (update_of t pick time)
    unfolding update_of
    drape_on_lem = rw (rows_on_lem, q, y, shape_kept w v a t.count, h)
