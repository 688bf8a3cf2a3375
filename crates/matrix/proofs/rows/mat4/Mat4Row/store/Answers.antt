-- Four rows one behind the other are one store of the block.
use Rattle.matrix.specs.Rows.{numbers16}
use Rattle.matrix.proofs.RowLaws.{put_rows}
use Rattle.matrix.proofs.rows.mat4.Mat4Row.store.Goals as goal

pub returns : goal.returns
unfolding numbers16
returns c = put_rows _ c.args.at _ _ _ _ c.store.ensures c.store-2.ensures c.store-3.ensures c.store-4.ensures
