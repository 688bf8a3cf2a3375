-- The blocks of the matrix by row and column: every block of a row has a column at most two away, each such column has its block, and no two pairs share a place.
-- By cases: a column stands before the row's own, after it, or is its own.
use mathlib.Core.Path.{◌≡◌, sym, ap, ◌∙◌}
use Prim.Native.Nat.{ℕ, suc, ◌+◌, ◌-◌, ◌*◌, ◌≤◌, ◌<◌}
use native.Mathlib.Omega.{arith}
use borrow.Author.Tests.{lt-ltb, le-ltb}
use Rattle.matrix.specs.Layout.{before, after, row_length, row_start, column_at, column_place, block_place, Near}
use Rattle.matrix.proofs.Cases.{by_order}
use Rattle.matrix.proofs.RowPlaces.{before_one, before_two, before_le, after_le, row_within, row_fits, all_blocks}

-- ---- a column by its place, and a place by its column
module _ (n i c : ℕ) where
  at_before : c < before i → column_at n i c ≡ i - before i + c
  unfolding column_at
  at_before h = simp (lt-ltb c (before i) h)

  at_after : before i ≤ c → c < before i + after n i → column_at n i c ≡ i + 1 + (c - before i)
  unfolding column_at
  at_after h k = simp (le-ltb c (before i) h, lt-ltb c (before i + after n i) k)

  at_own : before i + after n i ≤ c → column_at n i c ≡ i
  unfolding column_at
  at_own h = let b : before i ≤ c = omega arith in simp (le-ltb c (before i) b, le-ltb c (before i + after n i) h)

module _ (n i j : ℕ) where
  pub place_before : j < i → column_place n i j ≡ before i + j - i
  unfolding column_place
  place_before h = simp (lt-ltb j i h)

  pub place_after : i < j → column_place n i j ≡ before i + (j - suc i)
  unfolding column_place
  place_after h = let b : i ≤ j = omega arith in simp (le-ltb j i b, lt-ltb i j h)

  pub place_own : i ≡ j → column_place n i j ≡ before i + after n i
  unfolding column_place
  place_own e = let b : i ≤ j = omega arith in let d : j ≤ i = omega arith in simp (le-ltb j i b, le-ltb i j d)

-- ---- a row reaches two columns to either side
pub reaches_back : (i j : ℕ) → j < i → i ≤ j + 2 → i ≤ before i + j
reaches_back i j h k = by_order i 2 (λ b. omega (arith, before_one i b)) (λ b. omega (arith, before_two i b))

pub reaches_on : (n i j : ℕ) → i < j → j < n → j ≤ i + 2 → j ≤ i + after n i
unfolding after
reaches_on n i j h b k = by_order (n - suc i) 2 (λ d. omega (arith, before_one (n - suc i) d)) (λ d. omega (arith, before_two (n - suc i) d))

-- what a search for a block's place needs
pub ruleset row_places = (before_le, after_le, row_fits, reaches_back, place_before, place_after, place_own)

module _ {n i j : ℕ} (near : Near n i j) where
  pub place_within : column_place n i j < row_length n i
  unfolding row_length
  place_within =
      by_order j i
      (λ b. omega (arith, place_before n i j b))
      (λ b. by_order i j (λ d. omega (arith, place_after n i j d, reaches_on n i j d near.column near.high)) (λ d. omega (arith, place_own n i j (omega arith))))

  pub column_of_place : column_at n i (column_place n i j) ≡ j
  column_of_place =
      by_order j i
      (λ b. let e = place_before n i j b in let r = reaches_back i j b near.low in let l = before_le i in rw e (at_before n i (before i + j - i) (omega arith) ∙ omega arith))
      (λ b. by_order i j
      (λ d. let e = place_after n i j d in let r = reaches_on n i j d near.column near.high in rw e (at_after n i (before i + (j - suc i)) (omega arith) (omega arith) ∙ omega arith))
      (λ d. let f : i ≡ j = omega arith in let e = place_own n i j f in rw e (at_own n i (before i + after n i) (omega arith) ∙ f)))

module _ (n i c : ℕ) (h : i < n) (b : c < row_length n i) where
  inside : c < before i + after n i + 1
  unfolding row_length
  inside = b

  pub place_of_column : column_place n i (column_at n i c) ≡ c
  place_of_column =
      let l = before_le i in
      let m = inside in
      by_order c (before i)
      (λ d. let e = at_before n i c d in rw e (place_before n i (i - before i + c) (omega arith) ∙ omega arith))
      (λ d. by_order c (before i + after n i)
      (λ f. let e = at_after n i c d f in rw e (place_after n i (i + 1 + (c - before i)) (omega arith) ∙ omega arith))
      (λ f. let e = at_own n i c f in rw e (place_own n i i (omega arith) ∙ omega arith)))

  pub column_near : Near n i (column_at n i c)
  column_near =
      let l = before_le i in
      let a = after_le n i h in
      let m = inside in
      by_order c (before i)
      (λ d. let e = at_before n i c d in record { row = h; column = omega arith; low = omega arith; high = omega arith })
      (λ d. by_order c (before i + after n i)
      (λ f. let e = at_after n i c d f in record { row = h; column = omega arith; low = omega arith; high = omega arith })
      (λ f. let e = at_own n i c f in record { row = h; column = omega arith; low = omega arith; high = omega arith }))

-- ---- places among all blocks
pub place_in_use : {n i j : ℕ} → Near n i j → 2 ≤ n → block_place n i j < 5 * n - 6
unfolding block_place
place_in_use {n} {i} {j} near a = omega (arith, place_within near, row_within n i n near.row, all_blocks n a)

pub place_fits : {n i j : ℕ} → Near n i j → 2 ≤ n → n ≤ 32 → block_place n i j < 154
place_fits near a b = omega (arith, place_in_use near a)

pub own_place_fits : (n i : ℕ) → i < n → 2 ≤ n → n ≤ 32 → block_place n i i < 154
own_place_fits n i h a b = place_fits (record { row = h; column = h; low = omega arith; high = omega arith }) a b

apart_rows : {n p q : ℕ} → Near n p q → (i j : ℕ) → p < i → block_place n p q < block_place n i j
unfolding block_place
apart_rows {n} {p} {q} near i j h = omega (arith, place_within near, row_within n p i h)

same_row : {n p q i j : ℕ} → Near n p q → Near n i j → p ≡ i → block_place n p q ≡ block_place n i j → q ≡ j
unfolding block_place
same_row {n} {p} {q} {i} {j} near mear f e =
    let g : column_place n p q ≡ column_place n i j = omega (arith, ap (row_start n) f) in
    sym (column_of_place near) ∙ rw (f, rw f at g) (column_of_place mear)

pub place_injective : {n p q i j : ℕ} → Near n p q → Near n i j → block_place n p q ≡ block_place n i j → (p ≡ i) × (q ≡ j)
place_injective {n} {p} {q} {i} {j} near mear e =
    by_order p i
    (λ h. absurd (omega (arith, apart_rows near i j h)))
    (λ h. by_order i p (λ k. absurd (omega (arith, apart_rows mear p q k))) (λ k. let f : p ≡ i = omega arith in (f, same_row near mear f e)))
