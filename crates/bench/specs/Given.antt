-- Which counts, settings, numbers and edges are taken: document 01, "When the bench declines".
use Rattle.std.specs.Prelude.{Bool, not, ◌&&◌, ◌||◌, List, [], ◌∷◌, ℕ, ◌+◌, ◌-◌, eqb, leb, Float}
use Rattle.std.specs.Float.Ieee.{lt}
use Rattle.vectors.specs.Number.{plus_zero}
use Rattle.vectors.specs.Finite.{is_finite}
use Rattle.vectors.specs.Edge.{edge_length}
use Rattle.vectors.specs.declared.vec3.Vec3.{Vec3}
use Rattle.matrix.specs.Parts.{table}
use Rattle.matrix.specs.System.{every}
use Rattle.matrix.specs.HairSystem.{vec3_at}
use Rattle.bench.specs.declared.seats.Settings.{Settings}
use Rattle.bench.specs.declared.seats.Record.{Record}
use Rattle.bench.specs.Areas.{seats}
use Rattle.bench.specs.Rows.{all}
use Rattle.bench.specs.Strand.{setting_numbers, Entry, entry_of}

-- "n outside 2 to 32" is declined
abbrev pub good_count : ℕ → Bool
good_count n = leb 2 n && leb n 32

-- "a given number not finite, stiffness or ratio below 0" is declined; -0 is not below 0
abbrev pub not_negative : Float → Bool
not_negative x = is_finite x && not (lt x plus_zero)

unfoldable pub good_settings : Settings → Bool
good_settings g = every not_negative (setting_numbers g)

-- Whether a seat of count n is empty.
abbrev pub is_empty : ℕ → Bool
is_empty n = eqb n 0

-- "a count that is neither 0 nor 2 to 32, or at a taken seat a setting that load declines" is declined
unfoldable pub good_seat : Entry → Bool
good_seat e = is_empty e.count || all (good_count e.count ∷ good_settings e.settings ∷ [])

unfoldable pub good_record : Record → Bool
good_record r = every (λ (s : ℕ). good_seat (entry_of s r)) (table seats (λ s. s))

-- "some edge's computed squared length not finite or not above 0" is declined: no edge between n vertices is so
unfoldable pub edges_fit : ℕ → List Vec3 → Bool
edges_fit n ps = every (λ (i : ℕ). (edge_length (vec3_at ps i) (vec3_at ps (i + 1))).acceptable) (table (n - 1) (λ i. i))
