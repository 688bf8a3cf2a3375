-- The chain asks every vector, as the test of all does.
use Rattle.std.proofs.Common.{◌≡◌, Bool, ℕ, ◌+◌, ◌*◌, refl, ◌∙◌, arith, rules, tests}
use Rattle.std.proofs.lemmas.Iterator.{YieldsList-from_range}
use Rattle.std.proofs.lemmas.Iterator.Search.{all_from_yields_List}
use Rattle.vectors.specs.Finite.{vec3_is_finite}
use Rattle.matrix.specs.Rows.{row3}
use Rattle.matrix.specs.Area as area
use Rattle.matrix.proofs.Shapes.{vec3_at_lem}
use Rattle.bench.specs.Areas.{place_positions}
use Rattle.bench.specs.Update.{vec3_unless_pinned}
use Rattle.bench.specs.Step.{positions_after}
use Rattle.bench.proofs.Ranges.{every_range}
use Rattle.bench.proofs.FiniteVectors.{finite_all}
use Rattle.bench.proofs.positions.positions_are_finite.Goals as goal

pub returns : goal.returns
unfolding positions_after
returns c =
    let a = c.args in
    let n = a.n.count in
    let t : ℕ → Bool = λ i. vec3_is_finite (vec3_unless_pinned a.pins.now (4 * i) (row3 a.drape.now (3 * i)) (row3 a.work.now (area.place_positions + 3 * i))) in
    finite_all _ n _
    (all_from_yields_List t _ _ _ c.all.ensures.ran (YieldsList-from_range 0 n n refl (omega arith)) (λ x b q k. search (rules, tests))
    ∙ every_range t vec3_is_finite 0 n _ (λ i k l e. let z : k ≡ i = omega (arith, e) in rw (z, vec3_at_lem a.drape.now place_positions n i (3 * i) l (omega arith), vec3_at_lem a.work.now area.place_positions n i (area.place_positions + 3 * i) l refl)))
