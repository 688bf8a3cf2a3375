-- Vectors read from a list of numbers are those of its shape. The staged shape stays while what stands after the vectors does.
use mathlib.Core.Path.{◌≡◌, sym, ap, ◌∙◌}
use mathlib.Core.List.{List}
use Prim.Native.Nat.{ℕ, ◌+◌, ◌-◌, ◌*◌, ◌≤◌, ◌<◌}
use lib.Ieee.{Float, nan}
use lib.ListN.{length, get_or}
use lib.Seq.{get_or-drop}
use native.Mathlib.Nat.{zero-add}
use native.Mathlib.Omega.{arith}
use Rattle.elements.specs.Darboux.{zero_vec3}
use Rattle.matrix.specs.Rows.{row3, rows3}
use Rattle.matrix.specs.Area.{place_positions, place_frames, after_vectors}
use Rattle.matrix.specs.HairSystem.{vec3_at, staged_shape}
use Rattle.matrix.specs.Parts.{part, put}
use Rattle.matrix.proofs.Parts.{table_ext, length_part, get_or_part, get_or_inside}
use Rattle.matrix.proofs.Widths.{row_of}
use Rattle.matrix.proofs.RowWidths.{three, row3_same}

pub vec3_at_lem : (l : List Float) (o n i k : ℕ) → i < n → k ≡ o + 3 * i → row3 l k ≡ vec3_at (rows3 l o n) i
vec3_at_lem l o n i k h e = sym (row_of three zero_vec3 l o n i k h e)

-- vectors of the same numbers
pub rows3_same : (w v : List Float) (a b n : ℕ) → ((i : ℕ) → i < 3 * n → get_or w (a + i) nan ≡ get_or v (b + i) nan) → rows3 w a n ≡ rows3 v b n
unfolding rows3
rows3_same w v a b n h =
    table_ext n _ _
    (λ k l. row3_same w v (a + 3 * k) (b + 3 * k) (λ i j f g e. let d : i ≡ a + (i - a) = omega arith in let c : j ≡ b + (i - a) = omega arith in rw (d, c) (h (i - a) (omega arith))))

pub rows3_part : (l : List Float) (o m n : ℕ) → 3 * n ≤ m → rows3 (part l o m) 0 n ≡ rows3 l o n
rows3_part l o m n h = rows3_same (part l o m) l 0 o n (λ i f. rw (zero-add i) (get_or_part l o m i nan (omega arith)))

pub rows3_stored : (w : List Float) (o : ℕ) (l : List Float) (k n : ℕ) → o + 3 * n ≤ length w → k + 3 * n ≤ length l → rows3 (put w o (part l k (3 * n))) o n ≡ rows3 l k n
rows3_stored w o l k n h g =
    let e = length_part l k (3 * n) g in
    rows3_same (put w o (part l k (3 * n))) l o k n (λ i f. get_or_inside w o (part l k (3 * n)) i nan (omega arith) (omega arith) ∙ get_or_part l k (3 * n) i nan f)

module _ (w v : List Float) (e : after_vectors v ≡ after_vectors w) where
  number_kept : (k : ℕ) → place_positions ≤ k → get_or v k nan ≡ get_or w k nan
  unfolding after_vectors
  number_kept k h =
      let d : k ≡ place_positions + (k - place_positions) = omega arith in
      rw d (sym (get_or-drop place_positions v (k - place_positions) nan) ∙ ap (λ (l : List Float). get_or l (k - place_positions) nan) e ∙ get_or-drop place_positions w (k - place_positions) nan)

  pub rows3_kept : (o n : ℕ) → place_positions ≤ o → rows3 v o n ≡ rows3 w o n
  unfolding rows3 row3
  rows3_kept o n h = table_ext n _ _ (λ i b. rw (number_kept (o + 3 * i) (omega arith), number_kept (o + 3 * i + 1) (omega arith), number_kept (o + 3 * i + 2) (omega arith)))

  pub shape_kept : (n : ℕ) → staged_shape n v ≡ staged_shape n w
  unfolding staged_shape
  shape_kept n = rw (rows3_kept place_positions n (omega arith), rows3_kept place_frames n (omega arith))
