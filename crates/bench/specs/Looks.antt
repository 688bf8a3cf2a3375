-- Where the numbers of a look stand: the kinds' numbers, the area that each is of, and its place there.
use Rattle.std.specs.Prelude.{cond, List, ℕ, ◌+◌, ◌-◌, ◌*◌, ltb, Float}
use Rattle.bench.specs.declared.look.Shown.{Shown}
use Rattle.bench.specs.declared.look.Shown.TheVariants.{RestPositions, RestFrames, Positions, Frames, Velocities}
use Rattle.bench.specs.declared.look.Area.{Area}
use Rattle.bench.specs.declared.look.Area.TheVariants.{Rest, Drape}
use Rattle.bench.specs.declared.look.Place.{Place}
use Rattle.bench.specs.Areas.{rest_part, drape_part, vector_part}

-- "kind 0 rest positions, 1 rest frames, 2 drape positions, 3 drape frames, 4 velocities"
abbrev pub kind_number : Shown → ℕ
kind_number RestPositions = 0
kind_number RestFrames = 1
kind_number Positions = 2
kind_number Frames = 3
kind_number Velocities = 4

-- "that part of the rest area or of the drape area itself": the numbers of an area.
abbrev pub numbers_in : Area → List Float → List Float → List Float
numbers_in Rest rest drape = rest
numbers_in Drape rest drape = drape

-- The area that a kind chooses.
abbrev pub area_of : ℕ → Area
area_of kind = cond (ltb kind 2) Rest Drape

-- Where the numbers of a kind begin there, of the strand on seat s.
abbrev pub begins_at : ℕ → ℕ → ℕ
begins_at s kind = cond (ltb kind 2) (rest_part * s + vector_part * kind) (drape_part * s + vector_part * (kind - 2))

-- "hands back that part .., 3n numbers": the place of the kind, of a strand of n vertices on seat s.
abbrev pub place_on : ℕ → ℕ → ℕ → Place
place_on s kind n = record { area = area_of kind; at = begins_at s kind; count = 3 * n }
