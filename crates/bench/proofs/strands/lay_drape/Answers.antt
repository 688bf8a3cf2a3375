-- Velocities and working copy stand behind positions and frames.
use mathlib.Core.List.{append_assoc}
use Rattle.std.proofs.Common.{◌≡◌, ◌++◌, length, replicate, arith}
use Rattle.vectors.specs.Number.{plus_zero}
use Rattle.bench.specs.Areas.{vector_part}
use Rattle.bench.specs.Requests.{padded}
use Rattle.bench.proofs.strands.lay_drape.Goals as goal

pub returns : goal.returns
returns c =
    let e : length c.split_at_mut-velocities.result.0.now ≡ vector_part = omega arith in
    rw (c.lay_rest.ensures, c.fill.ensures.after (λ y e. e), e, c.pad.ensures) (append_assoc (padded c.args.lists.positions.now) (padded c.args.lists.frames.now) (replicate vector_part plus_zero ++ padded c.args.lists.positions.now))
