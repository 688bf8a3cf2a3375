-- The invariant: the blocks of row i before column j are pinned.
use Rattle.matrix.proofs.Fixing.{Fixed, columns_before}
use Rattle.matrix.proofs.pins.fix_row.Given as goal

abbrev pub invariant-loop-j : goal.invariant-loop-j
invariant-loop-j l = Fixed l.pins.n.count l.pins.bytes.now (columns_before l.i l.j) l.initial.work l.work
