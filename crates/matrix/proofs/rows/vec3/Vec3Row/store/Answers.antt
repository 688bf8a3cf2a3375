-- Three stores one behind the other are one store of the vector.
use Rattle.matrix.specs.Rows.{numbers3}
use Rattle.matrix.proofs.Parts.{put_three}
use Rattle.matrix.proofs.rows.vec3.Vec3Row.store.Goals as goal

pub returns : goal.returns
unfolding numbers3
returns c = put_three _ _ _ _ _
