-- Four stores one behind the other are one store of the row.
use Rattle.matrix.specs.Rows.{numbers4}
use Rattle.matrix.proofs.Parts.{put_four}
use Rattle.matrix.proofs.rows.vec4.Vec4Row.store.Goals as goal

pub returns : goal.returns
unfolding numbers4
returns c = put_four _ _ _ _ _ _
