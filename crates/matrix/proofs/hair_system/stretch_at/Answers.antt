-- Both vectors stand where the shape says. The edge is measured the other way round, which makes the same length.
use Rattle.std.proofs.Common.{◌+◌, ◌*◌, ◌∙◌, arith}
use Rattle.vectors.proofs.Reversed.{norm_reversed}
use Rattle.elements.proofs.OwnLength.{stretch_of_own_length}
use Rattle.matrix.specs.Area.{place_positions}
use Rattle.matrix.specs.Edges.{length_at, stretch_by}
use Rattle.matrix.proofs.Shapes.{vec3_at_lem}
use Rattle.matrix.proofs.hair_system.stretch_at.Goals as goal

pub returns : goal.returns
unfolding stretch_by length_at
returns c =
    let w = c.args.work.now in
    let n = c.args.e.n.count in
    let i = c.args.e.from in
    simp (
      c.stretch_of_length.ensures,
      c.pair.ensures.second,
      c.pair.ensures.first,
      vec3_at_lem w place_positions n i (place_positions + 3 * i) (omega arith) (omega arith),
      vec3_at_lem w place_positions n (i + 1) (place_positions + 3 * i + 3) (omega arith) (omega arith),
    )
    (stretch_of_own_length _ _ _ _ _ (c.requires ∙ norm_reversed _ _))
