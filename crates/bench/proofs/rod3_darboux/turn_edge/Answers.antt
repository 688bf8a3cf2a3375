-- A pinned twist leaves the area, which is to store the frame that stands there; else the turned frame is stored.
use Rattle.std.proofs.Common.{◌∙◌, arith}
use Rattle.matrix.specs.Area.{place_u, place_positions, place_frames}
use Rattle.matrix.specs.HairSystem.{staged_shape}
use Rattle.bench.proofs.TurnLaws.{pinned_twist, free_twist, frame_stays}
use Rattle.bench.proofs.rod3_darboux.turn_edge.Goals as goal

pub returns-then-pins-e-ne0 : goal.returns-then-pins-e-ne0
unfolding staged_shape
returns-then-pins-e-ne0 c =
    let a = c.args in
    let e = pinned_twist a.e.n.count a.pins.now a.e.from c.if-pins-e-ne0.true c.args.e.there in
    record { value = rw e; work_after = frame_stays _ place_positions place_frames place_u _ _ _ (omega arith) (omega arith) e }

pub returns : goal.returns
returns c =
    let a = c.args in
    let t = c.turned_frame-t.ensures in
    let e = free_twist a.e.n.count a.pins.now a.e.from c.if-pins-e-ne0.false c.args.e.there in
    record { value = rw (e, t); work_after = c.store.ensures ∙ rw (e, t) }
