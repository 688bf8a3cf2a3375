-- The map of the work area, of which document 01 ("The areas") gives the length. Where each part begins: the blocks of the matrix first, then vectors with room for 32 rows of four, then staged parts of 96 numbers.
use Rattle.std.specs.Prelude.{◌≡◌, List, ℕ, ◌+◌, ◌-◌, ◌*◌, drop, Float}
use Rattle.matrix.specs.Layout.{matrix_numbers}

-- the residual, the solution, the direction and its product with the matrix
abbrev pub place_r : ℕ
place_r = 2464

abbrev pub place_u : ℕ
place_u = 2592

abbrev pub place_p : ℕ
place_p = 2720

abbrev pub place_ap : ℕ
place_ap = 2848

-- the positions, frames and velocities as they would be after the step
abbrev pub place_positions : ℕ
place_positions = 2976

abbrev pub place_frames : ℕ
place_frames = 3072

abbrev pub place_velocities : ℕ
place_velocities = 3168

abbrev pub work_numbers : ℕ
work_numbers = 3264

-- What stands after the vectors.
unfoldable pub after_vectors : List Float → List Float
after_vectors w = drop place_positions w

-- Each part ends where the next begins, so none overlaps another, and the last ends with the area.
pub record Consecutive : Type 0 where
  pub blocks : 16 * (5 * 32 - 6) ≡ matrix_numbers
  pub r : matrix_numbers ≡ place_r
  pub u : place_r + 4 * 32 ≡ place_u
  pub p : place_u + 4 * 32 ≡ place_p
  pub ap : place_p + 4 * 32 ≡ place_ap
  pub positions : place_ap + 4 * 32 ≡ place_positions
  pub frames : place_positions + 3 * 32 ≡ place_frames
  pub velocities : place_frames + 3 * 32 ≡ place_velocities
  pub end : place_velocities + 3 * 32 ≡ work_numbers
