-- The parts of rest and pins are arrays at the seat's index; that of the drape is lent, and comes back changed.
use Rattle.std.proofs.Common.{◌≡◌, ◌+◌, ◌-◌, ◌*◌, ◌/◌, length, ap, ◌∙◌, rules}
use native.Mathlib.Nat.{add-sub_cancel_left}
use Rattle.matrix.specs.Parts.{part, put}
use Rattle.bench.specs.Areas.{rest_part, drape_part, pin_part}
use Rattle.bench.proofs.Chunks.{chunk_at}
use Rattle.bench.proofs.PutBack.{put_back}
use Rattle.bench.proofs.steps.on_seat.Goals as goal

pub returns : goal.returns
unfolding part
returns g c =
    let a = c.args in
    let z : drape_part * a.seat + drape_part - drape_part * a.seat ≡ drape_part = add-sub_cancel_left (drape_part * a.seat) drape_part in
    let r = chunk_at rest_part (length a.rest.now / rest_part) a.seat a.rest.now (search rules) in
    let p = chunk_at pin_part (length a.pins.now / pin_part) a.seat a.pins.now (search rules) in
    let e = rw (c.as_chunks.ensures.front, c.as_chunks-2.ensures.front, r, z, p) at c.on_parts.ensures in
    record {
      value = e.value;
      drape_after = rw z (put_back a.drape.now (drape_part * a.seat) drape_part _ (search rules) (search rules) ∙ ap (put a.drape.now (drape_part * a.seat)) e.drape_after);
    }
