-- The parts of the work area follow one another without a gap, by counting.
use mathlib.Core.Path.{refl}
use Rattle.matrix.specs.Area.{Consecutive}

pub consecutive : Consecutive
consecutive = record { blocks = refl; r = refl; u = refl; p = refl; ap = refl; positions = refl; frames = refl; velocities = refl; end = refl }
