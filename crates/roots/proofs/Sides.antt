-- The numbers that `sqrt` does not hand to `positive`, told apart as its code does: +infinity by its bits, the zeros, and what is left, whose root is nan.
-- A pattern with the sign's bit set stands for nothing above 0, so one at or past the bits of +infinity that is above 0 has the highest field.
use mathlib.Core.Path.{◌≡◌, refl, sym, ap, ◌∙◌, subst}
use mathlib.Core.Bool.{Bool, true, false, not, ◌&&◌, cond, true≢false}
use Prim.Native.Nat.{ℕ, zero, suc, ◌+◌, ◌*◌, ◌/◌, ◌%◌, ◌^◌, ◌≤◌, ◌<◌}
use native.Mathlib.Nat.{pos_of_ne-zero, lt_of_not-le, zero-mul}
use native.Mathlib.Decide.{dec_le}
use native.Mathlib.Omega.{arith}
use lib.Dec.{T, leb, eqb, ltb, eqb→eq, le→leb, nltb→le}
use lib.Ieee.{Float, nan, inf, fin, binary64, odd, of_bits, of_fields, to_bits, fits, is_nan, lt, eq, up, down}
use lib.Ieee.Fits.{and_l, up_pos}
use lib.Ieee.Exact.{HasValue, odd_sign}
use lib.Ieee.Bits.{is_true, of_bits-to_bits}
use Rattle.roots.specs.Sqrt.{sqrt_of}
use Rattle.roots.proofs.Steps.{unsigned}

pub not_nan : (x : Float) → lt (of_bits binary64 0) x ≡ true → T (not (is_nan x))
unfolding of_bits lt is_nan
not_nan nan h = absurd (true≢false (sym h))
not_nan (inf s) h = tt
not_nan (fin s m e) h = tt

-- A number with a minus sign is not above 0.
under : (x : Float) (a c : ℕ) → HasValue x true a c → lt (of_bits binary64 0) x ≡ false
unfolding of_bits lt
under nan a c v = absurd v
under (inf s) a c v = absurd v
under (fin false m e) a c v = absurd (true≢false (sym v.0))
under (fin true m e) a c v = refl

-- A pattern with the sign's bit set.
signed : (b : ℕ) → 2 ^ 63 ≤ b → lt (of_bits binary64 0) (of_bits binary64 b) ≡ false
unfolding of_bits of_fields lt
signed b h = rw (is_true (leb (2 ^ 63) b) (le→leb (2 ^ 63) b h)) (fields (b % 2 ^ 63 / 2 ^ 52) (b % 2 ^ 52))
  where
    go : (k t : ℕ) (a z : Bool) → lt (of_bits binary64 0) (cond a (cond z (inf true) nan) (odd 53 true (2 ^ 52 + t) k 1074)) ≡ false
    go k t true true = refl
    go k t true false = refl
    go k t false z = under (odd 53 true (2 ^ 52 + t) k 1074) _ _ (odd_sign 53 true (2 ^ 52 + t) k 1074)

    fields : (k t : ℕ) → lt (of_bits binary64 0) (of_fields binary64 true k t) ≡ false
    fields zero t = under (odd 53 true t 0 1074) _ _ (odd_sign 53 true t 0 1074)
    fields (suc k) t = go k t (eqb (suc k) 2047) (eqb t 0)

-- A pattern with the highest field, +infinity's or a NaN's.
highest : (b : ℕ) → 0x7ff0_0000_0000_0000 ≤ b → b < 2 ^ 63 → of_bits binary64 b ≡ sqrt_of (of_bits binary64 b)
unfolding of_fields sqrt_of
highest b l h =
    let e : b / 2 ^ 52 ≡ 2047 = omega arith in
    rw (unsigned b h, e) (go (eqb (b % 2 ^ 52) 0))
  where
    go : (z : Bool) → cond z (inf false) nan ≡ sqrt_of (cond z (inf false) nan)
    go true = refl
    go false = refl

-- A number above 0.
module _ (x : Float) (f : T (fits binary64 x)) (h : lt (of_bits binary64 0) x ≡ true) where
  same : of_bits binary64 (to_bits binary64 x) ≡ x
  same = of_bits-to_bits binary64 x f

  not_below : lt (of_bits binary64 0) (of_bits binary64 (to_bits binary64 x)) ≡ false → ⊥
  not_below g = true≢false (sym h ∙ ap (lt (of_bits binary64 0)) (sym same) ∙ g)

  pub above_zero : 0 < to_bits binary64 x
  unfolding of_bits lt
  above_zero = pos_of_ne-zero λ (e : to_bits binary64 x ≡ 0). not_below (ap (λ (b : ℕ). lt (of_bits binary64 0) (of_bits binary64 b)) e)

  pub infinite : 0x7ff0_0000_0000_0000 ≤ to_bits binary64 x → x ≡ sqrt_of x
  infinite l = elim (dec_le (2 ^ 63) (to_bits binary64 x)) [
    | yes g ↦ absurd (not_below (signed (to_bits binary64 x) g))
    | no g ↦ subst (λ (y : Float). y ≡ sqrt_of y) same (highest (to_bits binary64 x) l (lt_of_not-le g))
  ]

pub zeros : (x : Float) → eq x (of_bits binary64 0) ≡ true → x ≡ sqrt_of x
unfolding of_bits eq sqrt_of
zeros nan h = refl
zeros (inf s) h = absurd (true≢false (sym h))
zeros (fin s zero e) h = refl
zeros (fin s (suc m) e) h = absurd (no (first (suc m * up e * 1) (0 * down e) _ h))
  where
    first : (a b : ℕ) (z : Bool) → (eqb a b && z) ≡ true → a ≡ b
    first a b z h = eqb→eq a b (and_l (eqb a b) z (rw h tt))

    no : suc m * up e * 1 ≡ 0 * down e → ⊥
    no q = omega (arith, up_pos e)

pub others : (x : Float) → lt (of_bits binary64 0) x ≡ false → eq x (of_bits binary64 0) ≡ false → of_bits binary64 0x7ff8_0000_0000_0000 ≡ sqrt_of x
unfolding of_bits lt eq sqrt_of
others nan h g = refl
others (inf true) h g = refl
others (inf false) h g = absurd (true≢false h)
others (fin true zero e) h g = absurd (true≢false (rw (zero-mul (up e), zero-mul (down e)) at g))
others (fin false zero e) h g = absurd (true≢false (rw (zero-mul (up e), zero-mul (down e)) at g))
others (fin true (suc m) e) h g = refl
others (fin false (suc m) e) h g = absurd (no h)
  where
    no : ltb (0 * down e) (suc m * up e * 1) ≡ false → ⊥
    no h = omega (arith, up_pos e, nltb→le (0 * down e) (suc m * up e * 1) (rw h tt))
