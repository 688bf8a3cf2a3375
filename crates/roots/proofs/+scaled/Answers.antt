-- Each call moves a 4 from the power to m, and the number stays.
use Rattle.std.proofs.Common.{◌^◌, ◌≤◌, arith}
use Rattle.roots.proofs.Steps.{some_left, moved}
use Rattle.roots.proofs.+scaled.Goals as goal

pub scaled-requires : goal.scaled-requires
scaled-requires t c =
    let some : 1 ≤ c.args.h = some_left c.args.m _ (omega arith) (omega arith) in
    omega (arith, moved c.args.m 1 c.args.h some)

pub returns-else-m-ge4503599627370496 : goal.returns-else-m-ge4503599627370496
returns-else-m-ge4503599627370496 t c =
    let some : 1 ≤ c.args.h = some_left c.args.m _ (omega arith) (omega arith) in
    rw (← moved c.args.m (2 ^ 52) c.args.h some) c.scaled.ensures
