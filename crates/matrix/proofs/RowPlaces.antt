-- The sum that says where a row starts, in closed form, and the number of all blocks.
-- By induction on the row: each row adds its own length, and only the last two lack blocks after their own.
use mathlib.Core.Path.{◌≡◌, refl}
use mathlib.Core.Logic.{inl, inr}
use Prim.Native.Nat.{ℕ, zero, suc, ◌+◌, ◌-◌, ◌*◌, ◌≤◌, ◌<◌}
use native.Mathlib.Nat.{le_refl, le_trans, le-add_right, eq-or-lt_of_le}
use native.Mathlib.Numerals.{add-one}
use native.Mathlib.Omega.{arith}
use Rattle.matrix.specs.Layout.{before, after, row_length, row_start, Placed}

pub before_one : (i : ℕ) → i < 2 → before i ≡ i
unfolding before
before_one zero h = refl
before_one (suc zero) h = refl
before_one (suc (suc i)) h = absurd (omega arith)

pub before_two : (i : ℕ) → 2 ≤ i → before i ≡ 2
unfolding before
before_two zero h = absurd (omega arith)
before_two (suc zero) h = absurd (omega arith)
before_two (suc (suc i)) h = refl

-- rows before the last
inner : (n i : ℕ) → suc i < n → (i < 2 → row_start n i ≡ 3 * i) × (2 ≤ i → row_start n i + 3 ≡ 5 * i)
unfolding row_start row_length after
inner n zero h = (λ l. refl, λ l. absurd (omega arith))
inner n (suc zero) h = (λ l. omega (arith, before_two (n - 1) (omega arith), before_one 0 (omega arith)), λ l. absurd (omega arith))
inner n (suc (suc i)) h =
    let k = inner n (suc i) (omega arith) in
    let a : before (n - suc (suc i)) ≡ 2 = before_two (n - suc (suc i)) (omega arith) in
    (λ l. absurd (omega arith), λ l. by_size i a k)
  where
    by_size : (i : ℕ) → before (n - suc (suc i)) ≡ 2 → (suc i < 2 → row_start n (suc i) ≡ 3 * suc i) × (2 ≤ suc i → row_start n (suc i) + 3 ≡ 5 * suc i) → row_start n (suc i) + (before (suc i) + before (n - suc (suc i)) + 1) + 3 ≡ 5 * suc (suc i)
    by_size zero a k = omega (arith, k.0 (omega arith), before_one 1 (omega arith))
    by_size (suc i) a k = omega (arith, k.1 (omega arith), before_two (suc (suc i)) (omega arith))

-- the last row
last : (n i : ℕ) → suc i ≡ n → 2 ≤ n → (i < 2 → row_start n i + 1 ≡ 3 * i) × (2 ≤ i → row_start n i + 4 ≡ 5 * i)
unfolding row_start row_length after
last n zero e h = absurd (omega arith)
last n (suc j) e h = by_size j (omega (arith, before_one (n - suc j) (omega arith))) (inner n j (omega arith))
  where
    by_size : (j : ℕ) → before (n - suc j) ≡ 1 → (j < 2 → row_start n j ≡ 3 * j) × (2 ≤ j → row_start n j + 3 ≡ 5 * j)
        → (suc j < 2 → row_start n j + (before j + before (n - suc j) + 1) + 1 ≡ 3 * suc j) × (2 ≤ suc j → row_start n j + (before j + before (n - suc j) + 1) + 4 ≡ 5 * suc j)
    by_size zero o k = (λ l. omega (arith, k.0 (omega arith), before_one 0 (omega arith)), λ l. absurd (omega arith))
    by_size (suc zero) o k = (λ l. absurd (omega arith), λ l. omega (arith, k.0 (omega arith), before_one 1 (omega arith)))
    by_size (suc (suc j)) o k = (λ l. absurd (omega arith), λ l. omega (arith, k.1 (omega arith), before_two (suc (suc j)) (omega arith)))

-- the next row
pub row_start_next : (n i : ℕ) → row_start n (i + 1) ≡ row_start n i + row_length n i
unfolding row_start
row_start_next n i = rw (add-one i)

-- in numbers, as the code works it out
pub placed : (n i : ℕ) → i < n → 2 ≤ n → Placed n i (row_start n i)
placed n i b h = record {
  first = λ l m. (inner n i m).0 l;
  first_last = λ l m. omega (arith, (last n i (omega arith) h).0 l);
  later = λ l m. omega (arith, (inner n i m).1 l);
  later_last = λ l m. omega (arith, (last n i (omega arith) h).1 l);
}

-- all rows together
pub all_blocks : (n : ℕ) → 2 ≤ n → row_start n n ≡ 5 * n - 6
unfolding row_start row_length after
all_blocks zero h = absurd (omega arith)
all_blocks (suc zero) h = absurd (omega arith)
all_blocks (suc (suc m)) h =
    let n = suc (suc m) in
    let none : before (n - n) ≡ 0 = omega (arith, before_one (n - n) (omega arith)) in
    by_size m none (last n (suc m) refl h)
  where
    by_size : (m : ℕ) → before (suc (suc m) - suc (suc m)) ≡ 0 → (suc m < 2 → row_start (suc (suc m)) (suc m) + 1 ≡ 3 * suc m) × (2 ≤ suc m → row_start (suc (suc m)) (suc m) + 4 ≡ 5 * suc m)
        → row_start (suc (suc m)) (suc m) + (before (suc m) + before (suc (suc m) - suc (suc m)) + 1) ≡ 5 * suc (suc m) - 6
    by_size zero o k = omega (arith, k.0 (omega arith), before_one 1 (omega arith))
    by_size (suc m) o k = omega (arith, k.1 (omega arith), before_two (suc (suc m)) (omega arith))

-- a row lies within them
pub row_within : (n i j : ℕ) → i < j → row_start n i + row_length n i ≤ row_start n j
unfolding row_start
row_within n i zero h = absurd (omega arith)
row_within n i (suc j) h = elim (eq-or-lt_of_le h) [ inl e ↦ (let f : i ≡ j = omega arith in rw f (le_refl _)) | inr l ↦ le_trans (row_within n i j (omega arith)) (le-add_right _ _) ]

-- how far a row's columns reach
pub before_le : (i : ℕ) → (before i ≤ i) × (before i ≤ 2)
unfolding before
before_le zero = (omega arith, omega arith)
before_le (suc zero) = (omega arith, omega arith)
before_le (suc (suc i)) = (omega arith, omega arith)

pub after_le : (n i : ℕ) → i < n → (i + 1 + after n i ≤ n) × (after n i ≤ 2)
unfolding after
after_le n i h = let b = before_le (n - suc i) in (omega arith, b.1)

-- a row ends within the area's blocks
pub row_fits : (n i : ℕ) → i < n → 2 ≤ n → n ≤ 32 → row_start n i + row_length n i ≤ 154
row_fits n i b h m = omega (arith, row_within n i n b, all_blocks n h)
