-- A number above 0 whose bits are below those of +infinity has the root that `positive` finds, and Sides knows the roots of all others.
use Rattle.std.proofs.Common.{◌∙◌, ap, rules}
use Rattle.std.specs.Float.{binary64}
use lib.Ieee.Bits.{of_bits-to_bits}
use Rattle.roots.specs.Sqrt.{sqrt_of}
use Rattle.roots.proofs.Sides.{above_zero, infinite, zeros, others}
use Rattle.roots.proofs.sqrt.Goals as goal

pub positive-requires : goal.positive-requires
positive-requires c = (above_zero c.args.x (search rules) c.if-x.true, c.if-b-lt9218868437227405312.true)

pub returns-then-b-lt9218868437227405312 : goal.returns-then-b-lt9218868437227405312
returns-then-b-lt9218868437227405312 c = c.positive.ensures.0 ∙ ap sqrt_of (of_bits-to_bits binary64 c.args.x (search rules))

pub returns-then-x : goal.returns-then-x
returns-then-x c = infinite c.args.x (search rules) c.if-x.true c.if-b-lt9218868437227405312.false

pub returns-then-x-2 : goal.returns-then-x-2
returns-then-x-2 c = zeros c.args.x c.if-x-2.true

pub returns : goal.returns
returns c = others c.args.x c.if-x.false c.if-x-2.false
