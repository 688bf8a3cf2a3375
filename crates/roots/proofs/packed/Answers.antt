-- The radicand is 16 * (m * 2 ^ 52), so the digits are those of the whole number nearest to its root, at most 2 ^ 53, and `root_bits` reads the sum.
use Rattle.std.proofs.Common.{◌*◌, ◌^◌, arith}
use Rattle.roots.proofs.Bits.{root_bits}
use Rattle.roots.proofs.Digit.{bounded}
use Rattle.roots.proofs.packed.Goals as goal

pub overflow_add-result : goal.overflow_add-result
overflow_add-result c = omega (arith, bounded _ _ (2 ^ 53) (c.nearest_root.ensures (c.args.m * 2 ^ 52) (omega arith)) (omega arith))

pub returns : goal.returns
returns c = root_bits _ _ _ (omega arith) (omega arith) (omega arith) (c.nearest_root.ensures (c.args.m * 2 ^ 52) (omega arith))
