-- A turn of the loop asks one more, as the test of one more does.
use Rattle.std.proofs.Common.{sym}
use Rattle.matrix.proofs.Every.{every_more}
use Rattle.matrix.proofs.system.rows_are_finite.Goals as goal

pub loop-i-preserved : goal.loop-i-preserved
loop-i-preserved g c = rw (c.loop-i.invariant, c.is_finite-all.ensures, c.load.ensures, c.WIDTH.ensures) (sym (every_more g.R.Finite.finite c.loop-i.i _))
