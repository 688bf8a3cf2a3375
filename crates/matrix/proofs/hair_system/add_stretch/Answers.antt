-- The rows one after the other are the element's parts one after the other.
use Rattle.matrix.proofs.SystemLaws.{stretch_added}
use Rattle.matrix.proofs.hair_system.add_stretch.Goals as goal

pub returns-clause-work_after : goal.returns-clause-work_after
returns-clause-work_after c =
    rw (c.add_stretch_row-2.ensures.work_after, c.add_stretch_row.ensures.work_after, c.from_mat3_adding_w-other.ensures, c.from_mat3_adding_w-same.ensures)
    (stretch_added _ _ _ _)
