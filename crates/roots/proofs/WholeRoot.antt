-- `whole_root n` is the largest whole number whose square is at most n.
-- By induction on the digits: the root of n / 4 has all digits of the root of n but the last, which is 1 where the larger square still fits.
use mathlib.Core.Path.{◌≡◌, refl, sym, ap, ◌∙◌}
use mathlib.Core.Bool.{Bool, true, false, not, cond}
use Prim.Native.Nat.{ℕ, zero, suc, ◌+◌, ◌*◌, ◌/◌, ◌^◌, ◌≤◌, ◌<◌, zero-le}
use native.Mathlib.Nat.{le_trans, le_of_eq, lt_of_lt_of_le, lt_of_not-le, not-le_of_lt, le_of_suc-le-suc, mul-le-mul, pow-suc, div-lt_iff_lt-mul, div-mul-le_self, zero-lt-suc}
use native.Mathlib.Omega.{arith}
use lib.Dec.{T, leb, leb→le, nleb→lt}
use lib.Pow.{pow_mono, pow-add}
use lib.Ieee.{size}
use lib.Ieee.Digits.{size-lt}
use Rattle.roots.specs.WholeRoot.{extended, root_digits, whole_root}

-- r is the whole part of the root of n
abbrev pub IsRoot : ℕ → ℕ → Type 0
IsRoot n r = (r * r ≤ n) × (n < (r + 1) * (r + 1))

extended_is : (n r : ℕ) → IsRoot (n / 4) r → IsRoot n (extended n r)
extended_is n r (lo, hi) = by_test (leb ((2 * r + 1) * (2 * r + 1)) n) (leb→le ((2 * r + 1) * (2 * r + 1)) n) (nleb→lt ((2 * r + 1) * (2 * r + 1)) n)
  where
    quadrupled : (r : ℕ) → (r + 1) * (r + 1) * 4 ≡ (2 * r + 1 + 1) * (2 * r + 1 + 1)
    quadrupled r = omega arith

    doubled : (r q : ℕ) → r * r ≤ q → 2 * r * (2 * r) ≤ q * 4
    doubled r q h = omega arith

    by_test : (b : Bool) → (T b → (2 * r + 1) * (2 * r + 1) ≤ n) → (T (not b) → n < (2 * r + 1) * (2 * r + 1)) → IsRoot n (cond b (2 * r + 1) (2 * r))
    by_test true y z = (y tt, lt_of_lt_of_le ((div-lt_iff_lt-mul (zero-lt-suc 3)).0 hi) (le_of_eq (quadrupled r)))
    by_test false y z = (le_trans (doubled r (n / 4) lo) (div-mul-le_self n 4), z tt)

root_digits_is : (k n : ℕ) → n < 4 ^ k → IsRoot n (root_digits k n)
unfolding root_digits
root_digits_is zero n h = (zero-le, h)
root_digits_is (suc k) n h = extended_is n (root_digits k (n / 4)) (root_digits_is k (n / 4) ((div-lt_iff_lt-mul (zero-lt-suc 3)).1 (lt_of_lt_of_le h (le_of_eq (pow-suc 4 k)))))

-- a power of four is the square of a power of two
pub four_pow : (k : ℕ) → 4 ^ k ≡ 2 ^ k * 2 ^ k
four_pow zero = refl
four_pow (suc k) = pow-suc 4 k ∙ ap (λ (x : ℕ). x * 4) (four_pow k) ∙ rearranged (2 ^ k) (2 ^ suc k) (pow-suc 2 k)
  where
    rearranged : (p q : ℕ) → q ≡ p * 2 → p * p * 4 ≡ q * q
    rearranged p q e = rw e (omega arith)

pub whole_root_is : (n : ℕ) → IsRoot n (whole_root n)
unfolding whole_root
whole_root_is n =
    let k = suc (size n) / 2 in
    root_digits_is k n (lt_of_lt_of_le (size-lt n) (le_trans (pow_mono (halved (size n))) (le_of_eq (pow-add 2 k k ∙ sym (four_pow k)))))
  where
    halved : (s : ℕ) → s ≤ suc s / 2 + suc s / 2
    halved s = omega arith

-- a root from below is at most a root from above
pub at_most : (n r q : ℕ) → r * r ≤ n → n < (q + 1) * (q + 1) → r ≤ q
at_most n r q lo hi = le_of_suc-le-suc (lt_of_not-le λ (g : suc q ≤ r). not-le_of_lt (lt_of_lt_of_le hi (mul-le-mul (next g) (next g))) lo)
  where
    next : suc q ≤ r → q + 1 ≤ r
    next g = omega arith
