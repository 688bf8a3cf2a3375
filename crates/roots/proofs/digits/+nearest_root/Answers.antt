-- The laws of Digit give what the next call asks, and round at the end.
use Rattle.std.proofs.Common.{◌∙◌, arith}
use Rattle.roots.proofs.Digit.{Step, step, nearest}
use Rattle.roots.proofs.digits.+nearest_root.Goals as goal

pub returns-then-left-eq0 : goal.returns-then-left-eq0
returns-then-left-eq0 t c n = nearest _ _ _ _ c.requires c.if-left-eq0.true c.rounded.result n c.rounded.ensures

pub nearest_root-requires : goal.nearest_root-requires
nearest_root-requires t c =
    let s : Step c.args.root c.args.rem c.args.unit c.args.left c.chosen.result c.chosen-2.result =
    step _ _ _ _ c.requires c.if-left-eq0.false _ _ _ c.digit-bit.ensures c.chosen.ensures c.chosen-2.ensures in
    (omega arith, s.partial)

pub returns : goal.returns
returns t c n e =
    let s : Step c.args.root c.args.rem c.args.unit c.args.left c.chosen.result c.chosen-2.result =
    step _ _ _ _ c.requires c.if-left-eq0.false _ _ _ c.digit-bit.ensures c.chosen.ensures c.chosen-2.ensures in
    c.nearest_root.ensures n (s.same ∙ e)
