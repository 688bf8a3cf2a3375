-- The chain asks every edge, as the test of all does.
use Rattle.std.proofs.Common.{Bool, ℕ, ◌+◌, ◌-◌, ◌*◌, refl, ◌∙◌, arith, rules, tests}
use Rattle.std.proofs.lemmas.Iterator.{YieldsList-from_range}
use Rattle.std.proofs.lemmas.Iterator.Search.{all_from_yields_List}
use Rattle.vectors.specs.Edge.{edge_length}
use Rattle.matrix.specs.Rows.{row3}
use Rattle.matrix.proofs.Shapes.{vec3_at_lem}
use Rattle.bench.specs.Given.{edges_fit}
use Rattle.bench.proofs.Ranges.{every_range}
use Rattle.bench.proofs.given.edges_fit.Goals as goal

pub returns : goal.returns
unfolding edges_fit
returns c =
    let p = c.args.positions.now in
    let n = c.args.n.count in
    let t : ℕ → Bool = λ i. (edge_length (row3 p (3 * i)) (row3 p (3 * i + 3))).acceptable in
    all_from_yields_List t _ _ _ c.all.ensures.ran (YieldsList-from_range 0 (n - 1) (n - 1) refl (omega arith)) (λ x b q k. search (rules, tests))
    ∙ every_range t _ 0 (n - 1) _ (λ i k l e. rw (vec3_at_lem p 0 n i (3 * k) (omega (arith, e)) (omega (arith, e)), vec3_at_lem p 0 n (i + 1) (3 * k + 3) (omega (arith, l, e)) (omega (arith, e))))
