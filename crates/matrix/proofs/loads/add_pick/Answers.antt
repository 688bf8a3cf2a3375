-- The pull, then the spring's block; the position is the staged one.
use Rattle.std.proofs.Common.{◌+◌, ◌*◌, refl}
use Rattle.matrix.specs.Area.{place_positions}
use Rattle.matrix.specs.Loads.{pick_force, with_pick}
use Rattle.matrix.proofs.Shapes.{vec3_at_lem}
use Rattle.matrix.proofs.loads.add_pick.Goals as goal

pub returns-clause-work_after : goal.returns-clause-work_after
unfolding with_pick pick_force
returns-clause-work_after c =
    let a = c.args in
    let at = vec3_at_lem a.work.now place_positions a.n.count a.v (place_positions + 3 * a.v) c.requires.v_lt_n refl in
    rw (c.add_block.ensures.work_after, c.pull.ensures.work_after, c.mul-c.ensures, c.sub.ensures, c.load-p.ensures, at, c.pick_block.ensures)
