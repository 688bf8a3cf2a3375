-- Products of blocks and rows: a sum of up to two, and a row of the matrix in terms of where its blocks and the vector's rows stand.
use mathlib.Core.Path.{◌≡◌, refl}
use mathlib.Core.List.{List, [], ◌∷◌}
use Prim.Native.Nat.{ℕ, ◌+◌, ◌-◌, ◌*◌, ◌≤◌, ◌<◌}
use native.Mathlib.Omega.{arith}
use lib.ListN.{length, get_or, take, drop}
use lib.Ieee.{Float}
use Rattle.std.specs.Simd.{first_chunks}
use Rattle.std.proofs.lemmas.List.{get_or-map}
use Rattle.vectors.specs.Number.{plus_zero, plus_one}
use Rattle.vectors.specs.Vec4.{vec4_add, vec4_scale}
use Rattle.vectors.specs.Mat4.{mat4_times_vec4}
use Rattle.vectors.specs.declared.vec4.Vec4.{Vec4}
use Rattle.matrix.specs.Parts.{part, table}
use Rattle.matrix.specs.Rows.{zero_row, zero_block, row4, rows4, cut_rows, block16, blocks16, cut_blocks}
use Rattle.matrix.specs.Layout.{before, after, row_length, row_start}
use Rattle.matrix.specs.SparseSquare.{add_products, row_times, matrix_rows, mult_vec}
use Rattle.matrix.proofs.Parts.{table_ext, get_or_table}
use Rattle.matrix.proofs.Widths.{row_of, rows_unstored_as}
use Rattle.matrix.proofs.RowWidths.{four}
use Rattle.matrix.proofs.RowLaws.{Stored, unstored}
use Rattle.matrix.proofs.RowArrays.{rows_lent, blocks_lent, part_map}
use Rattle.matrix.proofs.RowPlaces.{before_le, after_le}
use Rattle.matrix.proofs.FromFirst.{row_begun}

-- none, one or two products
abbrev plus_product : Float → List Float → List Float → Vec4 → Vec4
plus_product alpha b x s = vec4_add s (vec4_scale (mat4_times_vec4 (block16 b 0) (row4 x 0)) alpha)

pub no_products : (alpha : Float) (s : Vec4) (bs xs : List (List Float)) → length bs < 1 → s ≡ add_products alpha s (cut_blocks bs) (cut_rows xs)
unfolding add_products
no_products alpha s [] xs h = refl
no_products alpha s (b ∷ bs) xs h = absurd (omega arith)

pub one_product : (alpha : Float) (s : Vec4) (bs xs : List (List Float)) {r : Vec4} → length bs ≡ 1 → length xs ≡ 1 → r ≡ plus_product alpha (get_or bs 0 []) (get_or xs 0 []) s → r ≡ add_products alpha s (cut_blocks bs) (cut_rows xs)
unfolding add_products
one_product alpha s (b ∷ []) (x ∷ []) e f h = h
one_product alpha s bs xs e f h = absurd (omega arith)

pub two_products : (alpha : Float) (s : Vec4) (bs xs : List (List Float)) {t r : Vec4} → length bs ≡ 2 → length xs ≡ 2 → t ≡ plus_product alpha (get_or bs 0 []) (get_or xs 0 []) s → r ≡ plus_product alpha (get_or bs 1 []) (get_or xs 1 []) t
    → r ≡ add_products alpha s (cut_blocks bs) (cut_rows xs)
unfolding add_products
two_products alpha s (b ∷ c ∷ []) (x ∷ y ∷ []) e f h k = rw h at k
two_products alpha s bs xs e f h k = absurd (omega arith)

-- ---- a row of rows
pub row_at_lem : (d : Vec4) (l : List Float) (a k o b : ℕ) → o < k → b ≡ a + 4 * o → get_or (rows4 l a k) o d ≡ row4 l b
row_at_lem = row_of four

-- ---- what `row_product` works out
module _ (n i : ℕ) (row x : List (List Float)) (old : Vec4) (h : i < n) (long : length row ≡ row_length n i) (wide : length x ≡ n) where
  pub row_times_lem : {s0 s1 s2 r : Vec4} → s0 ≡ vec4_add zero_row (vec4_scale old plus_zero)
      → s1 ≡ add_products plus_one s0 (cut_blocks (take (before i) row)) (cut_rows (take (i - (i - before i)) (drop (i - before i) x)))
      → s2 ≡ add_products plus_one s1 (cut_blocks (take (before i + after n i - before i) (drop (before i) row))) (cut_rows (take (i + 1 + after n i - (i + 1)) (drop (i + 1) x)))
      → r ≡ vec4_add s2 (vec4_scale (mat4_times_vec4 (block16 (get_or row (before i + after n i) []) 0) (row4 (get_or x i []) 0)) plus_one)
      → r ≡ row_times n i plus_zero plus_one (cut_blocks row) (cut_rows x) old
  unfolding row_times row_length part
  row_times_lem e0 e1 e2 e =
      let b = before_le i in
      let a = after_le n i h in
      let wide_before : i - (i - before i) ≡ before i = omega arith in
      let long_after : before i + after n i - before i ≡ after n i = omega arith in
      let wide_after : i + 1 + after n i - (i + 1) ≡ after n i = omega arith in
      rw (
        e,
        e2,
        e1,
        e0,
        wide_before,
        long_after,
        wide_after,
        part_map (λ c. block16 c 0) row 0 (before i),
        part_map (λ c. row4 c 0) x (i - before i) (before i),
        part_map (λ c. block16 c 0) row (before i) (after n i),
        part_map (λ c. row4 c 0) x (i + 1) (after n i),
        get_or-map (λ c. block16 c 0) row (before i + after n i) [] zero_block (omega arith),
        get_or-map (λ c. row4 c 0) x i [] zero_row (omega arith),
      ) (row_begun old plus_one _ _ _ _ _ _)

-- what `row_times` lends, where at and len are the row's place and its number of blocks
pub lent_product : (w : List Float) (n i p at len k m : ℕ) (old r : Vec4) → at ≡ 16 * row_start n i → len ≡ row_length n i → k ≡ row_length n i → m ≡ n
    → r ≡ row_times n i plus_zero plus_one (cut_blocks (first_chunks 16 k (take (at + 16 * len - at) (drop at w)))) (cut_rows (first_chunks 4 m (take (p + 4 * n - p) (drop p w)))) old
    → r ≡ row_times n i plus_zero plus_one (blocks16 w (16 * row_start n i) (row_length n i)) (rows4 w p n) old
unfolding part
lent_product w n i p at len k m old r es el ek em e = rw (blocks_lent w at (at + 16 * len - at) k (omega arith), rows_lent w p (p + 4 * n - p) m (omega arith), ek, em, es) at e

-- ---- the whole product, stored row by row
pub rows_unstored : {w v : List Float} {o : ℕ} {f : ℕ → Vec4} {i : ℕ} → Stored w v o f i → (a m : ℕ) → ((j : ℕ) → a ≤ j → j < a + 4 * m → o ≤ j → j < o + 4 * i → ⊥) → rows4 v a m ≡ rows4 w a m
rows_unstored s a m h = rows_unstored_as four s a m h

pub block_unstored : {w v : List Float} {o : ℕ} {f : ℕ → Vec4} {i : ℕ} → Stored w v o f i → (k : ℕ) → ((j : ℕ) → k ≤ j → j < k + 16 → o ≤ j → j < o + 4 * i → ⊥) → block16 v k ≡ block16 w k
unfolding block16
block_unstored s k h =
    rw (
      unstored s k (λ j x y. h j (omega arith) (omega arith)),
      unstored s (k + 4) (λ j x y. h j (omega arith) (omega arith)),
      unstored s (k + 8) (λ j x y. h j (omega arith) (omega arith)),
      unstored s (k + 12) (λ j x y. h j (omega arith) (omega arith)),
    )

pub blocks_unstored : {w v : List Float} {o : ℕ} {f : ℕ → Vec4} {i : ℕ} → Stored w v o f i → (a m : ℕ) → a + 16 * m ≤ o → blocks16 v a m ≡ blocks16 w a m
unfolding blocks16
blocks_unstored s a m h = table_ext m _ _ (λ k b. block_unstored s (a + 16 * k) (λ j x y z t. omega arith))

-- row k of the product, by where things stand in the area
abbrev pub row_at : List Float → ℕ → ℕ → ℕ → ℕ → Vec4
row_at w n p ap k = row_times n k plus_zero plus_one (blocks16 w (16 * row_start n k) (row_length n k)) (rows4 w p n) (row4 w (ap + 4 * k))

pub product_rows : (w : List Float) (n p ap : ℕ) → table n (row_at w n p ap) ≡ mult_vec n plus_zero plus_one (matrix_rows w n) (rows4 w p n) (rows4 w ap n)
unfolding mult_vec matrix_rows
product_rows w n p ap = table_ext n _ _ (λ k b. rw (get_or_table n (λ (i : ℕ). blocks16 w (16 * row_start n i) (row_length n i)) k [] b, row_at_lem zero_row w ap n k (ap + 4 * k) b refl))
