-- A vector stored in the area: read back it is itself, and the vectors and blocks apart from it are as before.
use mathlib.Core.Path.{◌≡◌, sym, ◌∙◌}
use mathlib.Core.List.{List}
use Prim.Native.Nat.{ℕ, ◌+◌, ◌*◌, ◌≤◌}
use native.Mathlib.Omega.{arith}
use lib.ListN.{length, drop, length-drop}
use lib.Seq.{ext_get_or, get_or-drop}
use lib.Ieee.{Float, nan}
use Rattle.vectors.specs.declared.vec4.Vec4.{Vec4}
use Rattle.matrix.specs.Parts.{put}
use Rattle.matrix.specs.Rows.{zero_row, flat4}
use Rattle.matrix.specs.Layout.{row_start, row_length, matrix_numbers}
use Rattle.matrix.specs.Area.{place_positions, after_vectors}
use Rattle.matrix.specs.SparseSquare.{matrix_rows}
use Rattle.matrix.specs.ConjugateGradient.{Kept}
use Rattle.matrix.proofs.Parts.{table_ext}
use Rattle.matrix.proofs.Widths.{PutAs, put_as, number_unstored}
use Rattle.matrix.proofs.RowWidths.{four}
use Rattle.matrix.proofs.RowLaws.{Stored}
use Rattle.matrix.proofs.RowPlaces.{row_fits}
use Rattle.matrix.proofs.Products.{blocks_unstored}

-- the vector x of n rows was stored in w from o on, which made v
abbrev pub RowsPut : List Float → List Float → ℕ → ℕ → List Vec4 → Type 0
RowsPut = PutAs four zero_row

pub rows_put : (w v : List Float) (o n : ℕ) (x : List Vec4) → v ≡ put w o (flat4 x) → length x ≡ n → o + 4 * n ≤ length w → RowsPut w v o n x
rows_put = put_as four zero_row

-- the matrix stands before every vector
pub matrix_kept : {w v : List Float} {o : ℕ} {f : ℕ → Vec4} {m : ℕ} → Stored w v o f m → (n : ℕ) → matrix_numbers ≤ o → 2 ≤ n → n ≤ 32 → matrix_rows v n ≡ matrix_rows w n
unfolding matrix_rows
matrix_kept s n h a b = table_ext n _ _ (λ i c. blocks_unstored s (16 * row_start n i) (row_length n i) (omega (arith, row_fits n i c a b)))

-- what stands after the vectors
pub after_kept : {w v : List Float} {o : ℕ} {f : ℕ → Vec4} {n : ℕ} → Stored w v o f n → o + 4 * n ≤ place_positions → after_vectors v ≡ after_vectors w
unfolding after_vectors
after_kept {w} {v} {o} {f} {n} s h =
    ext_get_or nan (drop place_positions v) (drop place_positions w) (rw (length-drop place_positions v, length-drop place_positions w, s.long))
    (λ i b. get_or-drop place_positions v i nan ∙ number_unstored s (place_positions + i) (λ l m. omega arith) ∙ sym (get_or-drop place_positions w i nan))

pub kept : {w v : List Float} {o : ℕ} {f : ℕ → Vec4} {n : ℕ} → Stored w v o f n → (2 ≤ n) × (n ≤ 32) → matrix_numbers ≤ o → o + 4 * n ≤ place_positions → Kept n w v
kept s h a b = record { matrix = matrix_kept s _ a h.0 h.1; after = after_kept s b }

pub kept_on : {n : ℕ} {w v u : List Float} → Kept n w v → Kept n v u → Kept n w u
kept_on a b = record { matrix = b.matrix ∙ a.matrix; after = b.after ∙ a.after }
