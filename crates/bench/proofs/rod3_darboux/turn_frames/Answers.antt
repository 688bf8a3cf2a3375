-- A turn of the loop turns one edge more and tests it. The last vertex has no edge, and its frame stays.
use Rattle.std.proofs.Common.{◌≤◌, ◌*◌, ℕ, refl, arith}
use Rattle.matrix.specs.Parts.{Apart, table}
use Rattle.matrix.specs.Area.{place_u, place_positions, place_frames}
use Rattle.matrix.specs.System.{every}
use Rattle.matrix.specs.HairSystem.{staged_shape}
use Rattle.matrix.proofs.Widths.{stored_none}
use Rattle.bench.proofs.TurnLaws.{turns_more, frames_more, turns_all, frames_all}
use Rattle.bench.proofs.rod3_darboux.turn_frames.Goals as goal

from_positions : (n : ℕ) → n ≤ 32 → Apart place_frames (3 * n) place_positions (3 * n)
from_positions n h k a b d e = omega arith

from_solution : (n : ℕ) → n ≤ 32 → Apart place_frames (3 * n) place_u (4 * n)
from_solution n h k a b d e = omega arith

pub loop-i-init : goal.loop-i-init
unfolding every table
loop-i-init c = record { tested = refl; stored = stored_none _ _ _ }

pub loop-i-preserved : goal.loop-i-preserved
unfolding staged_shape
loop-i-preserved c =
    let l = c.loop-i.invariant in
    let r = c.args.n.in_range.1 in
    let e = c.turn_edge-fit.ensures in
    let p = from_positions c.args.n.count r in
    let q = from_solution c.args.n.count r in
    record {
      tested = turns_more _ _ _ _ _ _ _ _ l.stored (omega arith) p q l.tested e.value;
      stored = frames_more _ _ _ _ _ _ _ _ l.stored (omega arith) p q e.work_after;
    }

pub returns : goal.returns
unfolding staged_shape
returns c =
    let l = c.loop-i in
    record {
      value = turns_all _ _ _ _ l.i (omega arith) l.invariant.tested;
      work_after = frames_all _ _ _ _ _ _ _ _ l.invariant.stored (omega arith) (omega arith);
    }
