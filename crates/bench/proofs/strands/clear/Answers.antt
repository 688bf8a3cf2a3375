-- Each part is filled where it lies.
use Rattle.std.proofs.Common.{◌*◌, arith}
use Rattle.vectors.specs.Number.{plus_zero}
use Rattle.bench.specs.Areas.{rest_part, drape_part, pin_part}
use Rattle.bench.proofs.PutBack.{put_filled}
use Rattle.bench.proofs.strands.clear.Goals as goal

pub returns-clause-rest_after : goal.returns-clause-rest_after
returns-clause-rest_after c =
    let a = c.args in
    put_filled a.rest.now (rest_part * a.seat) rest_part _ _ (omega arith) (omega arith) plus_zero (c.fill.ensures.after (λ y e. e))

pub returns-clause-drape_after : goal.returns-clause-drape_after
returns-clause-drape_after c =
    let a = c.args in
    put_filled a.drape.now (drape_part * a.seat) drape_part _ _ (omega arith) (omega arith) plus_zero (c.fill-2.ensures.after (λ y e. e))

pub returns-clause-pins_after : goal.returns-clause-pins_after
returns-clause-pins_after c =
    let a = c.args in
    put_filled a.pins.now (pin_part * a.seat) pin_part _ _ (omega arith) (omega arith) 0 (c.fill-3.ensures.after (λ y e. e))
