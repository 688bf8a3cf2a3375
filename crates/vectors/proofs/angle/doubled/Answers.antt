-- Doubling what is left of whole turns leaves what doubling the whole would.
use Rattle.std.proofs.Common.{◌*◌, ◌^◌, ◌≡◌, arith}
use native.Mathlib.Nat.{mul-one, mod-lt}
use Rattle.vectors.proofs.Remainder.{turn, doubled}
use Rattle.vectors.proofs.angle.doubled.Goals as goal

pub loop-init : goal.loop-init
loop-init c = rw mul-one

pub overflow_mul-r : goal.overflow_mul-r
overflow_mul-r c = omega (arith, mod-lt (c.args.s * 2 ^ c.loop.counter) {m = turn} (omega arith), c.loop.invariant)

pub loop-preserved : goal.loop-preserved
loop-preserved c = doubled c.args.s c.loop.counter c.loop.r c.loop.invariant

pub returns : goal.returns
returns c = let e : c.loop.counter ≡ c.args.k = omega arith in rw (← e) c.loop.invariant
