-- How a bit pattern becomes what `packed` takes: m of 53 or 54 binary digits, times 2 ^ 52 and a power of 4.
-- `scaled` moves fours from the power to m, and `positive` gives m the two that makes an exponent even. The number stays the same.
use mathlib.Core.Path.{◌≡◌, refl, ap, ◌∙◌}
use mathlib.Core.Bool.{false, not}
use Prim.Native.Nat.{ℕ, zero, suc, ◌+◌, ◌-◌, ◌*◌, ◌/◌, ◌%◌, ◌^◌, ◌≤◌, ◌<◌}
use native.Mathlib.Nat.{add_comm, pow-suc, mul-pos, mul-le-mul_right, le_trans, mod-eq_of_lt}
use native.Mathlib.Omega.{arith}
use lib.Dec.{T, leb, eqb, eqb→eq, not_T, lit≤, lit<}
use lib.Arith.{lt→nleb}
use lib.Pow.{pow-add, pow_pos}
use lib.Ieee.{binary64, odd, of_bits, of_fields, nan_bits}
use lib.Ieee.Exact.{odd_sign}
use lib.Ieee.Bits.{is_false, cond_no}
use Rattle.roots.specs.Sqrt.{sqrt_of}
use Rattle.roots.specs.Steps.{RootBits}
use Rattle.roots.proofs.WholeRoot.{four_pow}

-- As long as m has fewer digits there is a 4 left to move.
pub some_left : (m h : ℕ) → m < 2 ^ 52 → 2 ^ 54 ≤ m * 4 ^ h → 0 < h
some_left m zero a b = omega arith
some_left m (suc h) a b = omega arith

-- A 4 moved from the power to the number, beside a factor k.
pub moved : (m k h : ℕ) → 0 < h → m * 4 * k * 4 ^ (h - 1) ≡ m * k * 4 ^ h
moved m k zero l = omega arith
moved m k (suc h) l =
    let back : suc h - 1 ≡ h = omega arith in
    rw (back, pow-suc 4 h) (omega arith)

-- Any m above 0 has enough of them beside 4 ^ 511.
pub large : (m : ℕ) → 0 < m → 2 ^ 54 ≤ m * 4 ^ 511
large m h = le_trans (lit≤ tt) (mul-le-mul_right (4 ^ 511) h)

-- What `chosen` makes of s by the digit d: s, or twice s.
pub record Doubled (d s m : ℕ) : Type 0 where
  pub by : m ≡ s * 2 ^ d
  pub least : s ≤ m
  pub most : m ≤ s * 2

pub doubled : (d s m : ℕ) → d < 2 → (d ≡ 0 → m ≡ s) × (0 < d → m ≡ s * 2) → Doubled d s m
doubled zero s m l c = omega (arith, c.0 refl)
doubled (suc zero) s m l c = omega (arith, c.1 (lit< tt))
doubled (suc (suc d)) s m l c = absurd (omega arith)

-- s * 2 ^ k smallest values, written as the radicand that `packed` takes.
balanced : (k s m : ℕ) → m ≡ s * 2 ^ (k % 2) → s * 2 ^ k * 2 ^ 1074 ≡ m * 2 ^ 52 * 4 ^ (k / 2 + 511)
balanced k s m e =
    let f : k ≡ k % 2 + (k / 2 + k / 2) = omega arith in
    let g : 2 ^ k ≡ 2 ^ (k % 2) * (2 ^ (k / 2) * 2 ^ (k / 2)) = ap (λ (x : ℕ). 2 ^ x) f ∙ pow-add 2 (k % 2) (k / 2 + k / 2) ∙ ap (λ (x : ℕ). 2 ^ (k % 2) * x) (pow-add 2 (k / 2) (k / 2)) in
    rw (g, e, pow-add 4 (k / 2) 511, four_pow (k / 2)) (regrouped s (2 ^ (k % 2)) (2 ^ (k / 2)) (2 ^ 52) (4 ^ 511))
  where
    regrouped : (s p q a c : ℕ) → s * (p * (q * q)) * (a * c) ≡ s * p * a * (q * q * c)
    regrouped s p q a c = omega arith

-- What `positive` ensures of its argument b and its result r.
abbrev Met : ℕ → ℕ → Type 0
Met b r = (of_bits binary64 r ≡ sqrt_of (of_bits binary64 b)) × T (not (nan_bits binary64 r))

-- The pattern b stands for s * 2 ^ k smallest values.
met : (b s k m r : ℕ) → of_bits binary64 b ≡ odd 53 false s k 1074 → 0 < s → m ≡ s * 2 ^ (k % 2) → RootBits (m * 2 ^ 52 * 4 ^ (k / 2 + 511)) r → Met b r
unfolding RootBits
met b s k m r e p q t = t (of_bits binary64 b) (s * 2 ^ k) (rw e (odd_sign 53 false s k 1074)) (mul-pos p (pow_pos k)) (balanced k s m q)

-- A pattern with the sign's bit clear.
pub unsigned : (b : ℕ) → b < 2 ^ 63 → of_bits binary64 b ≡ of_fields binary64 false (b / 2 ^ 52) (b % 2 ^ 52)
unfolding of_bits
unsigned b h = rw (is_false (leb (2 ^ 63) b) (lt→nleb (2 ^ 63) b h), mod-eq_of_lt h)

module _ (b r : ℕ) (h : b < 0x7ff0_0000_0000_0000) where
  pub subnormal : b / 2 ^ 52 ≡ 0 → 0 < b % 2 ^ 52 → RootBits (b % 2 ^ 52 * 2 ^ 52 * 4 ^ 511) r → Met b r
  unfolding of_fields
  subnormal z p = met b (b % 2 ^ 52) 0 (b % 2 ^ 52) r (unsigned b (omega arith) ∙ ap (λ (x : ℕ). of_fields binary64 false x (b % 2 ^ 52)) z) p (omega arith)

  pub normal : (m : ℕ) → (b / 2 ^ 52 ≡ 0 → ⊥) → m ≡ (b % 2 ^ 52 + 2 ^ 52) * 2 ^ ((b / 2 ^ 52 - 1) % 2) → RootBits (m * 2 ^ 52 * 4 ^ ((b / 2 ^ 52 - 1) / 2 + 511)) r → Met b r
  unfolding of_fields
  normal m n e =
      let k = b / 2 ^ 52 - 1 in
      let f : b / 2 ^ 52 ≡ suc k = omega arith in
      met b (b % 2 ^ 52 + 2 ^ 52) k m r (unsigned b (omega arith) ∙ ap (λ (x : ℕ). of_fields binary64 false x (b % 2 ^ 52)) f ∙ fields k (b % 2 ^ 52) (omega arith)) (omega arith) e
    where
      fields : (k t : ℕ) → k < 2046 → of_fields binary64 false (suc k) t ≡ odd 53 false (t + 2 ^ 52) k 1074
      fields k t l = cond_no (eqb (suc k) 2047) _ _ (not_T (eqb (suc k) 2047) (λ x. omega (arith, eqb→eq (suc k) 2047 x))) ∙ ap (λ (y : ℕ). odd 53 false y k 1074) (add_comm (2 ^ 52) t)
