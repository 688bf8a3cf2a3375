-- Rows and blocks as arrays of four and of sixteen numbers: a part of a list that is cut into arrays holds the rows or blocks that stand in it.
-- By induction on the arrays: each reads as the row or block at its place.
use mathlib.Core.Path.{◌≡◌, refl, ap, ◌∙◌}
use mathlib.Core.List.{List, ◌∷◌, map}
use Prim.Native.Nat.{ℕ, zero, suc, ◌+◌, ◌*◌, ◌≤◌}
use native.Mathlib.Nat.{add_assoc}
use native.Mathlib.Omega.{arith}
use lib.ListN.{drop}
use lib.Ieee.{Float, nan}
use Rattle.std.specs.Simd.{first_chunks}
use Rattle.std.proofs.lemmas.List.{drop-drop, take-map, drop-map}
use Rattle.std.proofs.Math.Nat.{mul-suc}
use Rattle.matrix.specs.Parts.{part, table}
use Rattle.matrix.specs.Rows.{row4, rows4, cut_rows, block16, blocks16, cut_blocks}
use Rattle.matrix.proofs.Parts.{table_ext, get_or_part}

-- ---- a part of the list on its own
row_part : (w : List Float) (o m k : ℕ) → k + 4 ≤ m → row4 (part w o m) k ≡ row4 w (o + k)
unfolding row4
row_part w o m k h =
    rw (
      get_or_part w o m k nan (omega arith),
      get_or_part w o m (k + 1) nan (omega arith),
      get_or_part w o m (k + 2) nan (omega arith),
      get_or_part w o m (k + 3) nan (omega arith),
      add_assoc o k 1,
      add_assoc o k 2,
      add_assoc o k 3,
    )

rows_part : (w : List Float) (o m n : ℕ) → 4 * n ≤ m → rows4 (part w o m) 0 n ≡ rows4 w o n
unfolding rows4
rows_part w o m n h = table_ext n _ _ (λ i b. row_part w o m (0 + 4 * i) (omega arith) ∙ ap (row4 w) (omega arith))

block_part : (w : List Float) (o m k j : ℕ) → k + 16 ≤ m → o + k ≡ j → block16 (part w o m) k ≡ block16 w j
unfolding block16
block_part w o m k j b e =
    rw (
      row_part w o m k (omega arith),
      row_part w o m (k + 4) (omega arith),
      row_part w o m (k + 8) (omega arith),
      row_part w o m (k + 12) (omega arith),
      ← e,
      add_assoc o k 4,
      add_assoc o k 8,
      add_assoc o k 12,
    )

blocks_part : (w : List Float) (o m n : ℕ) → 16 * n ≤ m → blocks16 (part w o m) 0 n ≡ blocks16 w o n
unfolding blocks16
blocks_part w o m n h = table_ext n _ _ (λ i b. block_part w o m (0 + 16 * i) (o + 16 * i) (omega arith) (omega arith))

-- ---- a list cut into arrays
-- of any width, where f reads the things of it
module _ {A : Type 0} (w : ℕ) (f : List Float → ℕ → A) (l : List Float) (each : (o : ℕ) → f (part l o w) 0 ≡ f l o) where
  cut : (n o : ℕ) → map (λ c. f c 0) (first_chunks w n (drop o l)) ≡ table n (λ i. f l (o + w * i))
  unfolding part table
  cut zero o = refl
  cut (suc n) o =
      let rest : map (λ c. f c 0) (first_chunks w n (drop w (drop o l))) ≡ table n (λ i. f l (o + w * suc i))
      = rw (drop-drop w o l) (cut n (o + w) ∙ table_ext n _ _ (λ i b. ap (f l) (omega (arith, mul-suc w i)))) in
      ap (λ (x : A). x ∷ map (λ c. f c 0) (first_chunks w n (drop w (drop o l)))) (each o ∙ ap (f l) (omega arith)) ∙ ap (λ (xs : List A). f l (o + w * 0) ∷ xs) rest

rows_cut : (l : List Float) (n : ℕ) → cut_rows (first_chunks 4 n l) ≡ rows4 l 0 n
unfolding rows4
rows_cut l n = cut 4 row4 l (λ o. row_part l o 4 0 (omega arith) ∙ ap (row4 l) (omega arith)) n 0

blocks_cut : (l : List Float) (n : ℕ) → cut_blocks (first_chunks 16 n l) ≡ blocks16 l 0 n
unfolding blocks16
blocks_cut l n = cut 16 block16 l (λ o. block_part l o 16 0 o (omega arith) (omega arith)) n 0

-- of a part
pub rows_lent : (w : List Float) (o m n : ℕ) → 4 * n ≤ m → cut_rows (first_chunks 4 n (part w o m)) ≡ rows4 w o n
rows_lent w o m n h = rows_cut (part w o m) n ∙ rows_part w o m n h

pub blocks_lent : (w : List Float) (o m n : ℕ) → 16 * n ≤ m → cut_blocks (first_chunks 16 n (part w o m)) ≡ blocks16 w o n
blocks_lent w o m n h = blocks_cut (part w o m) n ∙ blocks_part w o m n h

-- ---- some of the arrays
pub part_map : {A B : Type 0} (f : A → B) (l : List A) (o m : ℕ) → part (map f l) o m ≡ map f (part l o m)
unfolding part
part_map f l o m = rw (drop-map f o l) (take-map f m (drop o l))
