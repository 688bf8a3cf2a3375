-- What a step's stores leave of the drape. Each stores a vector for every vertex from the start of a part, so what stands past the last vertex stays.
-- The positions are stored first: the pinned components as they were, the others new.
use mathlib.Core.Path.{◌≡◌, refl, sym, ap, ◌∙◌}
use mathlib.Core.List.{List}
use Prim.Native.Nat.{ℕ, ◌+◌, ◌*◌, ◌≤◌, ◌<◌}
use native.Mathlib.Omega.{arith}
use lib.ListN.{length, get_or}
use lib.Ieee.{Float, nan}
use Rattle.vectors.specs.declared.vec3.Vec3.{Vec3}
use Rattle.elements.specs.Darboux.{zero_vec3}
use Rattle.matrix.specs.Parts.{put, table}
use Rattle.matrix.specs.Rows.{row3, flat3}
use Rattle.matrix.specs.HairSystem.{vec3_at}
use Rattle.matrix.proofs.Parts.{length_table, get_or_table, length_put, get_or_outside}
use Rattle.matrix.proofs.RowLaws.{rows3_put, length_flat3}
use Rattle.matrix.proofs.RowWidths.{row3_same}
use Rattle.matrix.proofs.Shapes.{vec3_at_lem}
use Rattle.bench.specs.Areas.{vector_part, place_positions}
use Rattle.bench.specs.Strand.{Strand}
use Rattle.bench.specs.Update.{vec3_unless_pinned}
use Rattle.bench.specs.Step.{positions_in}
use Rattle.bench.specs.Accepted.{Whole}

module _ (t : Strand) (whole : Whole t) where
  -- d is the drape after some stores; new are the positions that it has where they are not pinned
  pub record Stays (new : ℕ → Vec3) (d : List Float) : Type 0 where
    pub positions : (i : ℕ) → i < t.count → row3 d (3 * i) ≡ vec3_unless_pinned t.pins (4 * i) (row3 t.drape (3 * i)) (new i)
    pub past : (p k : ℕ) → 3 * t.count ≤ k → k < vector_part → get_or d (vector_part * p + k) nan ≡ get_or t.drape (vector_part * p + k) nan
    pub long : length d ≡ length t.drape

  -- the vector of vertex i, where x is stored in part q of w
  pub stored_row : (w : List Float) (q : ℕ) (x : List Vec3) (i k : ℕ) → q < 4 → length x ≡ t.count → length w ≡ length t.drape → i < t.count → k ≡ vector_part * q + 3 * i → row3 (put w (vector_part * q) (flat3 x)) k ≡ vec3_at x i
  stored_row w q x i k b l m h e =
      let v = put w (vector_part * q) (flat3 x) in
      vec3_at_lem v (vector_part * q) t.count i k h e
      ∙ ap (λ (y : List Vec3). vec3_at y i) (rows3_put w v (vector_part * q) t.count x refl l (omega (arith, whole.count, whole.drape))).there

  store_past : (w : List Float) (q : ℕ) (x : List Vec3) → length x ≡ t.count → (p k : ℕ) → 3 * t.count ≤ k → k < vector_part → get_or (put w (vector_part * q) (flat3 x)) (vector_part * p + k) nan ≡ get_or w (vector_part * p + k) nan
  store_past w q x l p k a b = get_or_outside w (vector_part * q) (flat3 x) (vector_part * p + k) nan (λ c d. omega (arith, length_flat3 x, whole.count))

  abbrev pub kept_positions : (ℕ → Vec3) → List Vec3
  kept_positions new = table t.count (λ i. vec3_unless_pinned t.pins (4 * i) (vec3_at (positions_in t.count t.drape) i) (new i))

  pub positions_stored : (new : ℕ → Vec3) → Stays new (put t.drape place_positions (flat3 (kept_positions new)))
  positions_stored new = record { positions = there; past = store_past t.drape 0 (kept_positions new) many; long = length_put t.drape place_positions (flat3 (kept_positions new)) }
    where
      many : length (kept_positions new) ≡ t.count
      many = length_table t.count _

      there : (i : ℕ) → i < t.count → row3 (put t.drape place_positions (flat3 (kept_positions new))) (3 * i) ≡ vec3_unless_pinned t.pins (4 * i) (row3 t.drape (3 * i)) (new i)
      there i h =
          stored_row t.drape 0 (kept_positions new) i (3 * i) (omega arith) many refl h (omega arith)
          ∙ get_or_table t.count _ i zero_vec3 h
          ∙ ap (λ (x : Vec3). vec3_unless_pinned t.pins (4 * i) x (new i)) (sym (vec3_at_lem t.drape place_positions t.count i (3 * i) h (omega arith)))

  -- a store behind the positions
  pub behind_stored : {new : ℕ → Vec3} {d : List Float} (q : ℕ) (x : List Vec3) → 1 ≤ q → length x ≡ t.count → Stays new d → Stays new (put d (vector_part * q) (flat3 x))
  behind_stored {new} {d} q x h l s = record {
    positions = λ i b. row3_same (put d (vector_part * q) (flat3 x)) d (3 * i) (3 * i) (λ k m f g e. let a : k ≡ m = omega arith in rw a (get_or_outside d (vector_part * q) (flat3 x) m nan (λ c y. omega (arith, whole.count)))) ∙ s.positions i b;
    past = λ p k a b. store_past d q x l p k a b ∙ s.past p k a b;
    long = length_put d (vector_part * q) (flat3 x) ∙ s.long;
  }
