-- The matrix in the area by row and column: a block is read where its place says, and a matrix is known by its blocks.
-- What is stored at one block's place, or at one vertex's gradient, changes that one and nothing else of the system.
use mathlib.Core.Path.{◌≡◌, refl, sym, ap, ◌∙◌}
use mathlib.Core.Bool.{Bool, true, false, cond, ◌&&◌}
use mathlib.Core.List.{List, [], ◌∷◌}
use Prim.Native.Nat.{ℕ, ◌+◌, ◌*◌, ◌≤◌, ◌<◌}
use native.Mathlib.Omega.{arith}
use lib.ListN.{length, get_or}
use lib.Dec.{eqb}
use lib.Ieee.{Float}
use borrow.Author.Tests.{eq-eqb, ne_eqb}
use Rattle.vectors.specs.declared.vec4.Vec4.{Vec4}
use Rattle.vectors.specs.declared.mat4.Mat4.{Mat4}
use Rattle.matrix.specs.Parts.{put, table}
use Rattle.matrix.specs.Rows.{zero_row, zero_block, row4, rows4, block16, blocks16, numbers4, flat4, numbers16}
use Rattle.matrix.specs.Layout.{row_length, column_at, column_place, block_place, Near}
use Rattle.matrix.specs.SparseSquare.{matrix_rows}
use Rattle.matrix.specs.Blocks.{matrix_of, block_in}
use Rattle.matrix.specs.Area.{place_r, work_numbers, after_vectors}
use Rattle.matrix.specs.System.{system_at}
use Rattle.matrix.specs.HairSystem.{same_pair}
use Rattle.matrix.proofs.Parts.{table_ext, get_or_table}
use Rattle.matrix.proofs.Products.{row_at_lem, block_unstored}
use Rattle.matrix.proofs.RowLaws.{unstored}
use Rattle.matrix.proofs.RowsPut.{RowsPut, rows_put, after_kept}
use Rattle.matrix.proofs.Cases.{by_equality}
use Rattle.matrix.proofs.Columns.{place_of_column, column_of_place, column_near, place_within, place_fits, place_injective}

-- ---- a matrix by its blocks
pub matrix_ext : (n : ℕ) (f g : ℕ → ℕ → Mat4) → ((i j : ℕ) → Near n i j → f i j ≡ g i j) → matrix_of n f ≡ matrix_of n g
unfolding matrix_of
matrix_ext n f g h = table_ext n _ _ (λ i a. table_ext (row_length n i) _ _ (λ c b. h i (column_at n i c) (column_near n i c a b)))

pub block_in_lem : (n : ℕ) (f : ℕ → ℕ → Mat4) {i j : ℕ} → Near n i j → block_in n (matrix_of n f) i j ≡ f i j
unfolding block_in matrix_of
block_in_lem n f {i} {j} near =
    ap (λ (l : List Mat4). get_or l (column_place n i j) zero_block) (get_or_table n (λ k. table (row_length n k) (λ c. f k (column_at n k c))) i [] near.row)
    ∙ get_or_table (row_length n i) (λ c. f i (column_at n i c)) (column_place n i j) zero_block (place_within near)
    ∙ ap (f i) (column_of_place near)

-- ---- the blocks of the area
abbrev pub block_at : ℕ → List Float → ℕ → ℕ → Mat4
block_at n w i j = block16 w (16 * block_place n i j)

pub matrix_at : (n : ℕ) (w : List Float) → matrix_rows w n ≡ matrix_of n (block_at n w)
unfolding matrix_rows matrix_of blocks16 block_place
matrix_at n w =
    table_ext n _ _
    (λ i a. table_ext (row_length n i) _ _
    (λ c b. ap (block16 w) (omega (arith, place_of_column n i c a b))))

-- ---- what the area holds: g is the gradient of each vertex, f the block of each pair
pub record Holds (n : ℕ) (w : List Float) (g : ℕ → Vec4) (f : ℕ → ℕ → Mat4) : Type 0 where
  pub gradient : (i : ℕ) → i < n → row4 w (place_r + 4 * i) ≡ g i
  pub block : (i j : ℕ) → Near n i j → block_at n w i j ≡ f i j

pub holds_system : {n : ℕ} {w : List Float} {g : ℕ → Vec4} {f : ℕ → ℕ → Mat4} → Holds n w g f → system_at n w ≡ record { gradient = table n g; rows = matrix_of n f }
unfolding system_at rows4
holds_system {n} {w} {g} {f} h = rw (matrix_at n w, table_ext n (λ i. row4 w (place_r + 4 * i)) g h.gradient, matrix_ext n (block_at n w) f h.block)

pub holds_ext : {n : ℕ} {w : List Float} {g : ℕ → Vec4} {f : ℕ → ℕ → Mat4} (g₁ : ℕ → Vec4) (f₁ : ℕ → ℕ → Mat4) → Holds n w g f → ((i : ℕ) → i < n → g i ≡ g₁ i) → ((i j : ℕ) → Near n i j → f i j ≡ f₁ i j) → Holds n w g₁ f₁
holds_ext g₁ f₁ h a b = record { gradient = λ i l. h.gradient i l ∙ a i l; block = λ i j near. h.block i j near ∙ b i j near }

-- ---- a block stored
block_stored : {w v : List Float} {o : ℕ} {m : Mat4} → v ≡ put w o (numbers16 m) → o + 16 ≤ length w → RowsPut w v o 4 (m.c0 ∷ m.c1 ∷ m.c2 ∷ m.c3 ∷ [])
unfolding numbers16
block_stored {w} {v} {o} {m} e room = rows_put w v o 4 (m.c0 ∷ m.c1 ∷ m.c2 ∷ m.c3 ∷ []) e refl room

block_there : {w v : List Float} {o : ℕ} {m : Mat4} → RowsPut w v o 4 (m.c0 ∷ m.c1 ∷ m.c2 ∷ m.c3 ∷ []) → block16 v o ≡ m
unfolding block16
block_there {w} {v} {o} {m} p = rw (column 0 o (omega arith) (omega arith), column 1 (o + 4) (omega arith) (omega arith), column 2 (o + 8) (omega arith) (omega arith), column 3 (o + 12) (omega arith) (omega arith))
  where
    column : (k a : ℕ) → k < 4 → a ≡ o + 4 * k → row4 v a ≡ get_or (m.c0 ∷ m.c1 ∷ m.c2 ∷ m.c3 ∷ []) k zero_row
    column k a h e = sym (row_at_lem zero_row v o 4 k a h e) ∙ ap (λ (l : List Vec4). get_or l k zero_row) p.there

module _ (n p q : ℕ) (m : Mat4) (w v : List Float) (h : (2 ≤ n) × (n ≤ 32)) (long : length w ≡ work_numbers) (near : Near n p q) (e : v ≡ put w (16 * block_place n p q) (numbers16 m)) where
  there : RowsPut w v (16 * block_place n p q) 4 (m.c0 ∷ m.c1 ∷ m.c2 ∷ m.c3 ∷ [])
  there = block_stored e (omega (arith, place_fits near h.0 h.1))

  pub holds_block : {g : ℕ → Vec4} {f : ℕ → ℕ → Mat4} → Holds n w g f → Holds n v g (λ i j. cond (same_pair p q i j) m (f i j))
  holds_block {g} {f} k = record {
    gradient = λ i l. unstored there.stored (place_r + 4 * i) (λ j a b x y. omega (arith, place_fits near h.0 h.1)) ∙ k.gradient i l;
    block = λ i j mear. by_equality (block_place n p q) (block_place n i j) (here i j mear) (other i j mear);
  }
    where
      here : (i j : ℕ) → Near n i j → block_place n p q ≡ block_place n i j → block_at n v i j ≡ cond (same_pair p q i j) m (f i j)
      here i j mear d =
          let s = place_injective near mear d in
          rw (eq-eqb p i s.0, eq-eqb q j s.1, ← d) (block_there (there))

      other : (i j : ℕ) → Near n i j → (block_place n p q ≡ block_place n i j → ⊥) → block_at n v i j ≡ cond (same_pair p q i j) m (f i j)
      other i j mear d = block_unstored there.stored (16 * block_place n i j) (λ t a b x y. d (omega arith)) ∙ k.block i j mear ∙ rw differ
        where
          differ : same_pair p q i j ≡ false
          differ = by_equality p i (λ a. by_equality q j (λ b. absurd (d (rw (a, b)))) (λ b. rw (ne_eqb q j b) (and_false (eqb p i)))) (λ a. rw (ne_eqb p i a))
            where
              and_false : (t : Bool) → (t && false) ≡ false
              and_false true = refl
              and_false false = refl

  pub block_after : after_vectors v ≡ after_vectors w
  block_after = after_kept there.stored (omega (arith, place_fits near h.0 h.1))

-- ---- a vertex's gradient stored
module _ (n p : ℕ) (r : Vec4) (w v : List Float) (h : (2 ≤ n) × (n ≤ 32)) (long : length w ≡ work_numbers) (b : p < n) (e : v ≡ put w (place_r + 4 * p) (numbers4 r)) where
  row_there : RowsPut w v (place_r + 4 * p) 1 (r ∷ [])
  unfolding flat4 numbers4
  row_there = rows_put w v (place_r + 4 * p) 1 (r ∷ []) e refl (omega arith)

  pub holds_row : {g : ℕ → Vec4} {f : ℕ → ℕ → Mat4} → Holds n w g f → Holds n v (λ i. cond (eqb p i) r (g i)) f
  holds_row {g} {f} k = record {
    gradient = λ i l. by_equality p i (λ d. rw (eq-eqb p i d, ← d) here) (λ d. rw (ne_eqb p i d) (unstored row_there.stored (place_r + 4 * i) (λ j x y z t. d (omega arith)) ∙ k.gradient i l));
    block = λ i j near. block_unstored row_there.stored (16 * block_place n i j) (λ t a x y z. omega (arith, place_fits near h.0 h.1)) ∙ k.block i j near;
  }
    where
      here : row4 v (place_r + 4 * p) ≡ r
      here = sym (row_at_lem zero_row v (place_r + 4 * p) 1 0 (place_r + 4 * p) (omega arith) (omega arith)) ∙ ap (λ (l : List Vec4). get_or l 0 zero_row) row_there.there

  pub row_after : after_vectors v ≡ after_vectors w
  row_after = after_kept row_there.stored (omega arith)
