-- The invariant: the blocks of the rows before row i are pinned.
use Rattle.std.proofs.Common.{ltb}
use Rattle.matrix.proofs.Fixing.{Fixed}
use Rattle.matrix.proofs.pins.set_fixed_bc.Given as goal

abbrev pub invariant-loop-i : goal.invariant-loop-i
invariant-loop-i l = Fixed l.pins.n.count l.pins.bytes.now (λ p q. ltb p l.i) l.initial.work l.work
