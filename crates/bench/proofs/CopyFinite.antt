-- Where every number of a drape was finite and the step is accepted, every number of the drape after it is finite.
-- Past the last vertex the numbers stay, and before it all but the working copy are tested. A static step leaves the working copy.
-- In a dynamic one, a component that is not pinned is also the position, which is tested, and a pinned one stays as it was.
use mathlib.Core.Path.{◌≡◌, refl, sym, ap, ◌∙◌}
use mathlib.Core.Bool.{true}
use mathlib.Core.List.{List}
use mathlib.Core.Logic.{◌≢◌}
use Prim.Native.Nat.{ℕ, ◌+◌, ◌*◌, ◌/◌, ◌%◌, ◌≤◌, ◌<◌}
use native.Mathlib.Omega.{arith}
use lib.ListN.{length, get_or}
use lib.Ieee.{Float, nan}
use Rattle.vectors.specs.Finite.{is_finite}
use Rattle.vectors.specs.declared.vec4.Vec4.{Vec4}
use Rattle.elements.specs.Darboux.{zero_vec3}
use Rattle.matrix.specs.Parts.{part}
use Rattle.matrix.specs.Rows.{row3}
use Rattle.matrix.specs.System.{every}
use Rattle.matrix.specs.HairSystem.{vec3_at, Shape}
use Rattle.matrix.proofs.Cases.{by_order, by_equality}
use Rattle.matrix.proofs.Every.{every_all}
use Rattle.matrix.proofs.Parts.{table_of, length_table, get_or_table, get_or_part, length_put}
use Rattle.matrix.proofs.Shapes.{vec3_at_lem}
use Rattle.bench.specs.Areas.{vector_part, place_velocities, place_working_copy}
use Rattle.bench.specs.Strand.{Strand}
use Rattle.bench.specs.Update.{vec3_unless_pinned, moved_at, update_solution_hair}
use Rattle.bench.specs.Step.{predicted, predicted_copy, predicted_shape, working_copy_in, dynamic_drape}
use Rattle.bench.specs.Accepted.{Whole}
use Rattle.bench.proofs.EveryNumber.{every_get_or}
use Rattle.bench.proofs.Components.{component, row_component, pinned_component, free_component}
use Rattle.bench.proofs.StoredDrape.{Stays, stored_row}

-- ---- the numbers of a list
numbers_finite : (l : List Float) → ((k : ℕ) → k < length l → is_finite (get_or l k nan) ≡ true) → every is_finite l ≡ true
numbers_finite l h = sym (ap (every is_finite) (table_of nan l)) ∙ every_all is_finite (length l) (λ i. get_or l i nan) h

-- ---- the whole drape, from its working copy
-- Where d has finite positions and t had a finite drape, the working copy in d is finite.
abbrev pub CopyIsFinite : Strand → List Float → Type 0
CopyIsFinite t d =
    ((k : ℕ) → k < 3 * t.count → is_finite (get_or d k nan) ≡ true) → every is_finite t.drape ≡ true → (k : ℕ) → k < 3 * t.count → is_finite (get_or d (place_working_copy + k) nan) ≡ true

module _ (t : Strand) (w : Whole t) (d : List Float) (long : length d ≡ length t.drape)
    (tested : (p k : ℕ) → p < 3 → k < 3 * t.count → is_finite (get_or d (vector_part * p + k) nan) ≡ true)
    (past : (p k : ℕ) → 3 * t.count ≤ k → k < vector_part → get_or d (vector_part * p + k) nan ≡ get_or t.drape (vector_part * p + k) nan)
    (copy : CopyIsFinite t d) (h : every is_finite t.drape ≡ true) where
  positions_finite : (k : ℕ) → k < 3 * t.count → is_finite (get_or d k nan) ≡ true
  positions_finite k b = let e : k ≡ vector_part * 0 + k = omega arith in rw e (tested 0 k (omega arith) b)

  vertex_finite : (p k : ℕ) → p < 4 → k < 3 * t.count → is_finite (get_or d (vector_part * p + k) nan) ≡ true
  vertex_finite p k a b = by_order p 3 (λ c. tested p k c b) (λ c. let e : vector_part * p + k ≡ place_working_copy + k = omega arith in rw e (copy positions_finite h k b))

  past_finite : (p k : ℕ) → p < 4 → 3 * t.count ≤ k → k < vector_part → is_finite (get_or d (vector_part * p + k) nan) ≡ true
  past_finite p k a b c = rw (past p k b c) (every_get_or is_finite nan t.drape h (vector_part * p + k) (omega (arith, w.drape)))

  placed_finite : (m : ℕ) → m < length d → is_finite (get_or d m nan) ≡ true
  placed_finite m b =
      let e : m ≡ vector_part * (m / vector_part) + m % vector_part = omega arith in
      let a : m / vector_part < 4 = omega (arith, long, w.drape) in
      rw e (by_order (m % vector_part) (3 * t.count) (vertex_finite (m / vector_part) (m % vector_part) a) (λ c. past_finite (m / vector_part) (m % vector_part) a c (omega arith)))

  pub all_finite : every is_finite d ≡ true
  all_finite = numbers_finite d placed_finite

-- ---- a static step: velocities and working copy stay
pub kept_copy : (t : Strand) (w : Whole t) (d : List Float) → part d place_velocities (2 * vector_part) ≡ part t.drape place_velocities (2 * vector_part) → CopyIsFinite t d
kept_copy t w d e _ h k b =
    let same : (l : List Float) → get_or l (place_working_copy + k) nan ≡ get_or (part l place_velocities (2 * vector_part)) (vector_part + k) nan = λ l. sym (get_or_part l place_velocities (2 * vector_part) (vector_part + k) nan (omega (arith, w.count)) ∙ ap (λ (m : ℕ). get_or l m nan) (omega arith)) in
    rw (same d, e, sym (same t.drape)) (every_get_or is_finite nan t.drape h (place_working_copy + k) (omega (arith, w.drape, w.count)))

-- ---- a dynamic step
module _ (t : Strand) (w : Whole t) (dt : Float) (u : List Vec4) where
  abbrev moved : Shape
  moved = update_solution_hair t.count t.pins (predicted_shape dt t.count t.pins t.drape) u

  abbrev after : List Float
  after = dynamic_drape dt t.count t.pins t.drape moved

  many : length moved.positions ≡ t.count
  unfolding update_solution_hair
  many = length_table t.count _

  module _ (i j : ℕ) (a : i < t.count) (b : j < 3) where
    copy_row : row3 after (place_working_copy + 3 * i) ≡ vec3_at moved.positions i
    unfolding dynamic_drape
    copy_row = stored_row t w _ 3 moved.positions i (place_working_copy + 3 * i) (omega arith) many (length_put _ _ _ ∙ length_put _ _ _ ∙ length_put _ _ _) a (omega arith)

    -- where it is pinned, the new working copy is the predicted one, and this the old one
    module _ (p : get_or t.pins (4 * i + j) 0 ≢ 0) where
      moved_pinned : component j (vec3_at moved.positions i) ≡ component j (vec3_at (predicted_copy dt t.count t.pins t.drape) i)
      unfolding update_solution_hair moved_at predicted_shape
      moved_pinned = ap (component j) (get_or_table t.count _ i zero_vec3 a) ∙ pinned_component t.pins (4 * i) _ _ j b p

      predicted_pinned : component j (vec3_at (predicted_copy dt t.count t.pins t.drape) i) ≡ component j (vec3_at (working_copy_in t.count t.drape) i)
      unfolding predicted_copy predicted vec3_unless_pinned
      predicted_pinned = ap (component j) (get_or_table t.count _ i zero_vec3 a) ∙ pinned_component t.pins (4 * i) (vec3_at (working_copy_in t.count t.drape) i) _ j b p

      copy_pinned : get_or after (place_working_copy + 3 * i + j) nan ≡ get_or t.drape (place_working_copy + 3 * i + j) nan
      copy_pinned =
          row_component after (place_working_copy + 3 * i) j b
          ∙ ap (component j) copy_row
          ∙ moved_pinned
          ∙ predicted_pinned
          ∙ ap (component j) (sym (vec3_at_lem t.drape place_working_copy t.count i (place_working_copy + 3 * i) a refl))
          ∙ sym (row_component t.drape (place_working_copy + 3 * i) j b)

    -- where it is not, the position takes it
    copy_free : Stays t w (vec3_at moved.positions) after → get_or t.pins (4 * i + j) 0 ≡ 0 → get_or after (place_working_copy + 3 * i + j) nan ≡ get_or after (3 * i + j) nan
    copy_free s p =
        row_component after (place_working_copy + 3 * i) j b
        ∙ ap (component j) copy_row
        ∙ sym (ap (component j) (s.positions i a) ∙ free_component t.pins (4 * i) (row3 t.drape (3 * i)) (vec3_at moved.positions i) j b p)
        ∙ sym (row_component after (3 * i) j b)

  pub taken_copy : Stays t w (vec3_at moved.positions) after → CopyIsFinite t after
  taken_copy s positions h k c =
      let e : place_working_copy + k ≡ place_working_copy + 3 * (k / 3) + k % 3 = omega arith in
      let a : k / 3 < t.count = omega arith in
      let b : k % 3 < 3 = omega arith in
      rw e
      (by_equality (get_or t.pins (4 * (k / 3) + k % 3) 0) 0
      (λ p. rw (copy_free (k / 3) (k % 3) a b s p) (positions (3 * (k / 3) + k % 3) (omega arith)))
      (λ p. rw (copy_pinned (k / 3) (k % 3) a b p) (every_get_or is_finite nan t.drape h (place_working_copy + 3 * (k / 3) + k % 3) (omega (arith, w.drape, w.count)))))
