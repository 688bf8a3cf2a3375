-- The rows one after the other are the element's parts one after the other.
use Rattle.matrix.proofs.SystemLaws.{bend_added}
use Rattle.matrix.proofs.hair_system.add_bend.Goals as goal

pub returns-clause-work_after : goal.returns-clause-work_after
returns-clause-work_after c =
    rw (c.add_bend_row-3.ensures.work_after, c.add_bend_row-2.ensures.work_after, c.add_bend_row.ensures.work_after) (bend_added _ _ _ _)
