-- Each part comes back laid, and is stored where it lies; all vectors of 32 vertices have their length.
use Rattle.std.proofs.Common.{◌≡◌, ◌*◌, ◌++◌, length, replicate, arith}
use Rattle.std.proofs.lemmas.List.{length-append}
use Rattle.vectors.specs.Number.{plus_zero}
use Rattle.bench.specs.Areas.{rest_part, drape_part, pin_part, vector_part}
use Rattle.bench.specs.Requests.{padded}
use Rattle.bench.proofs.Padded.{length_padded}
use Rattle.bench.proofs.PutBack.{put_over, put_filled}
use Rattle.bench.proofs.strands.lay.Goals as goal

pub returns-clause-rest_after : goal.returns-clause-rest_after
returns-clause-rest_after c =
    let a = c.args in
    let p = length_padded a.lists.positions.now a.lists.positions_fit in
    let f = length_padded a.lists.frames.now a.lists.frames_fit in
    let long : length (padded a.lists.positions.now ++ padded a.lists.frames.now) ≡ rest_part = simp (length-append, p, f) in
    put_over a.rest.now (rest_part * a.seat) rest_part _ _ (omega arith) (omega arith) _ c.lay_rest.ensures long

pub returns-clause-drape_after : goal.returns-clause-drape_after
returns-clause-drape_after c =
    let a = c.args in
    let p = length_padded a.lists.positions.now a.lists.positions_fit in
    let f = length_padded a.lists.frames.now a.lists.frames_fit in
    let long : length (padded a.lists.positions.now ++ (padded a.lists.frames.now ++ (replicate vector_part plus_zero ++ padded a.lists.positions.now))) ≡ drape_part = simp (length-append, p, f) in
    put_over a.drape.now (drape_part * a.seat) drape_part _ _ (omega arith) (omega arith) _ c.lay_drape.ensures long

pub returns-clause-pins_after : goal.returns-clause-pins_after
returns-clause-pins_after c =
    let a = c.args in
    put_filled a.pins.now (pin_part * a.seat) pin_part _ _ (omega arith) (omega arith) 0 (c.fill.ensures.after (λ y e. e))
