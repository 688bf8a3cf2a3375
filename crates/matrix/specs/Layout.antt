-- The blocks of the matrix in the area. Which columns a row has, and their order, is document 01's ("Assembly", stand-in for `vtx2vtx_rods`); where they stand is ours.
use Rattle.std.specs.Prelude.{◌≡◌, cond, ℕ, zero, suc, ◌+◌, ◌-◌, ◌*◌, ◌≤◌, ◌<◌, ltb}

-- Row i holds columns i-2, i-1, i+1, i+2 that exist, upward: so many before the row's own column.
unfoldable pub before : ℕ → ℕ
before zero = 0
before (suc zero) = 1
before (suc (suc i)) = 2

-- So many after it, of n.
unfoldable pub after : ℕ → ℕ → ℕ
after n i = before (n - suc i)

-- With the diagonal block, which the Rust keeps apart (`row2val`) and multiplies last (sparse_square.rs, lines 442 to 445).
unfoldable pub row_length : ℕ → ℕ → ℕ
row_length n i = before i + after n i + 1

-- The blocks that stand before row i, as `row2idx` counts those beside the diagonal.
unfoldable pub row_start : ℕ → ℕ → ℕ
row_start n zero = 0
row_start n (suc i) = row_start n i + row_length n i

-- The column of the c-th block of row i, as `idx2col` has it: those before, those after, then its own.
unfoldable pub column_at : ℕ → ℕ → ℕ → ℕ
column_at n i c = cond (ltb c (before i)) (i - before i + c) (cond (ltb c (before i + after n i)) (i + 1 + (c - before i)) i)

-- Where in row i the block of column j stands, as `col2idx` finds it (sparse_square.rs, lines 376 to 379), and where it stands among all blocks.
unfoldable pub column_place : ℕ → ℕ → ℕ → ℕ
column_place n i j = cond (ltb j i) (before i + j - i) (cond (ltb i j) (before i + (j - suc i)) (before i + after n i))

unfoldable pub block_place : ℕ → ℕ → ℕ → ℕ
block_place n i j = row_start n i + column_place n i j

-- Vertices i and j of n have a block: they are at most two apart.
pub record Near (n i j : ℕ) : Type 0 where
  pub row : i < n
  pub column : j < n
  pub low : i ≤ j + 2
  pub high : j ≤ i + 2

-- The numbers that the blocks of at most 32 rows take in the work area: 16 for each of 5 * 32 - 6 blocks.
abbrev pub matrix_numbers : ℕ
matrix_numbers = 2464

-- The place s where row i begins, in numbers, as the code works it out.
pub record Placed (n i s : ℕ) : Type 0 where
  pub first : i < 2 → suc i < n → s ≡ 3 * i
  pub first_last : i < 2 → n ≤ suc i → s ≡ 3 * i - 1
  pub later : 2 ≤ i → suc i < n → s ≡ 5 * i - 3
  pub later_last : 2 ≤ i → n ≤ suc i → s ≡ 5 * i - 4

-- That is the sum's closed form.
abbrev pub RowStartPlaced : Type 0
RowStartPlaced = (n i : ℕ) → i < n → 2 ≤ n → Placed n i (row_start n i)

-- There are 5n - 6 blocks in all.
abbrev pub AllBlocks : Type 0
AllBlocks = (n : ℕ) → 2 ≤ n → row_start n n ≡ 5 * n - 6

-- No two pairs of vertices share a block's place.
abbrev pub OnePair : Type 0
OnePair = (n p q i j : ℕ) → Near n p q → Near n i j → block_place n p q ≡ block_place n i j → (p ≡ i) × (q ≡ j)
