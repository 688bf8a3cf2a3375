-- Behind the list, zeros are stored as far as the area goes.
use Rattle.std.proofs.Common.{◌≡◌, ◌-◌, length, arith}
use Rattle.bench.specs.Areas.{vector_part}
use Rattle.bench.specs.Requests.{padded}
use Rattle.bench.proofs.strands.pad.Goals as goal

pub returns : goal.returns
unfolding padded
returns c =
    let e : length c.split_at_mut-front.result.1.now ≡ vector_part - length c.args.list.now = omega arith in
    rw (c.store.ensures, c.fill.ensures.after (λ y e. e), e)
