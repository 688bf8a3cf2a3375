-- What holds of every step that is accepted.
use Rattle.std.specs.Prelude.{◌≡◌, true, ◌≢◌, ℕ, ◌+◌, ◌*◌, ◌≤◌, ◌<◌, length, get_or}
use Rattle.std.specs.Float.{nan}
use Rattle.vectors.specs.Finite.{is_finite}
use Rattle.matrix.specs.Parts.{part}
use Rattle.matrix.specs.System.{every}
use Rattle.bench.specs.declared.answers.Pick.{Pick}
use Rattle.bench.specs.Areas.{drape_part, vector_part, place_velocities}
use Rattle.bench.specs.Strand.{Strand}
use Rattle.bench.specs.Rows.{first}
use Rattle.bench.specs.Step.{Time, still, Update, update_of}
use Rattle.bench.specs.PinStory.{position}

-- A strand of at most 32 vertices, with a whole drape part; of any contents.
pub record Whole (t : Strand) : Type 0 where
  pub count : t.count ≤ 32
  pub drape : length t.drape ≡ drape_part

-- The step u of t. Of a drape, part p is its positions (0), frames (1), velocities (2) or working copy (3).
pub record StepLeaves (t : Strand) (u : Update) : Type 0 where
  -- what it answers is finite, and so is every position, frame and velocity number of its vertices
  pub energy_finite : is_finite u.energy ≡ true
  pub ratio_finite : is_finite u.ratio ≡ true
  pub drape_finite : (p k : ℕ) → p < 3 → k < 3 * t.count → is_finite (get_or u.drape (vector_part * p + k) nan) ≡ true
  -- where every number of the drape was finite, it is so again, working copy and entries past the last vertex included
  pub all_finite : every is_finite t.drape ≡ true → every is_finite u.drape ≡ true
  -- a component whose pin is set keeps its drape position
  pub pinned : (i j : ℕ) → i < t.count → j < 3 → get_or t.pins (4 * i + j) 0 ≢ 0 → position i j u.drape ≡ position i j t.drape
  -- entries past the last vertex stay, in all four parts
  pub past : (p k : ℕ) → p < 4 → 3 * t.count ≤ k → k < vector_part → get_or u.drape (vector_part * p + k) nan ≡ get_or t.drape (vector_part * p + k) nan
  -- its length stays
  pub long : length u.drape ≡ length t.drape

abbrev pub StepAccepts : Type 0
StepAccepts = (t : Strand) (pick : Pick) (time : Time) → Whole t → first (update_of t pick time).rows ≡ 0 → StepLeaves t (update_of t pick time)

-- "A static step changes neither velocities nor working copy."
abbrev pub StaticKeeps : Type 0
StaticKeeps = (t : Strand) (pick : Pick) → Whole t → part (update_of t pick still).drape place_velocities (2 * vector_part) ≡ part t.drape place_velocities (2 * vector_part)
