-- With a field of 0 the fraction alone counts smallest values. Any other field puts the leading digit before it and stands for one power of 2 less than it says.
-- Steps has a law for each, and one for the two that an odd power gives to m.
use Rattle.std.proofs.Common.{◌+◌, ◌-◌, ◌/◌, ◌%◌, ◌^◌, arith}
use Rattle.roots.proofs.Steps.{Doubled, doubled, subnormal, normal}
use Rattle.roots.proofs.positive.Goals as goal

pub returns-then-field-eq0 : goal.returns-then-field-eq0
returns-then-field-eq0 c = subnormal c.args.b c.scaled.result (omega arith) c.if-field-eq0.true (omega arith) c.scaled.ensures

pub returns : goal.returns
returns c =
    let taken : Doubled ((c.args.b / 2 ^ 52 - 1) % 2) (c.args.b % 2 ^ 52 + 2 ^ 52) c.chosen.result = doubled _ _ _ (omega arith) c.chosen.ensures in
    normal c.args.b c.packed.result (omega arith) c.chosen.result c.if-field-eq0.false taken.by c.packed.ensures
