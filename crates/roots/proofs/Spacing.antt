-- How the values of a format are spaced, in units of the smallest: from 2 ^ (prec - 1 + k) units on, each is a multiple of 2 ^ k.
-- A value is m * 2 ^ e with m below 2 ^ prec, so where it is that large, e is at least k.
use mathlib.Core.Path.{◌≡◌, sym, ap, ◌∙◌}
use mathlib.Core.Logic.{inl, inr}
use mathlib.Core.Bool.{Bool, ◌&&◌}
use Prim.Native.Nat.{ℕ, zero, suc, ◌+◌, ◌-◌, ◌*◌, ◌/◌, ◌%◌, ◌^◌, ◌≤◌, ◌<◌}
use native.Mathlib.Nat.{lt_of_lt_of_le, lt_of_not-le, not-le_of_lt, le_of_suc-le-suc, eq-or-lt_of_le, mul-one, mul_assoc, eq_of_mul-eq-mul_right, mul-div_cancel, zero-mul}
use native.Mathlib.Omega.{arith}
use lib.IntN.{ℤ, pos, negsuc}
use lib.Dec.{T, eqb, leb, ltb, leb→le, ltb→lt}
use lib.Pow.{pow_mono, pow-add, pow_pos, pow-lt, shl_lt}
use lib.Ieee.{Float, nan, inf, fin, Format, prec, emax, low, up, down, fits}
use lib.Ieee.Digits.{back}
use lib.Ieee.Fits.{two, two-le_pos, and_l, and_r, down_pos}
use Rattle.roots.specs.Correct.{InUnits}

abbrev pub Spaced : Format → ℕ → Type 0
Spaced f Y = (k : ℕ) → 2 ^ (prec f - 1 + k) ≤ Y → Y / 2 ^ k * 2 ^ k ≡ Y

-- a power of two by a smaller one
pub power_split : (a b : ℕ) → b ≤ a → 2 ^ a ≡ 2 ^ (a - b) * 2 ^ b
power_split a b h = ap (λ (x : ℕ). 2 ^ x) (sym (back a b h)) ∙ pow-add 2 (a - b) b

-- m * 2 ^ e, with m below 2 ^ p
pub multiple : (p m e k : ℕ) → 0 < p → m < 2 ^ p → 2 ^ (p - 1 + k) ≤ m * 2 ^ e → m * 2 ^ e / 2 ^ k * 2 ^ k ≡ m * 2 ^ e
multiple p m e k P M h =
    let split : m * 2 ^ e ≡ m * 2 ^ (e - k) * 2 ^ k = ap (λ (x : ℕ). m * x) (power_split e k enough) ∙ sym (mul_assoc m (2 ^ (e - k)) (2 ^ k)) in
    ap (λ (x : ℕ). x / 2 ^ k * 2 ^ k) split ∙ ap (λ (x : ℕ). x * 2 ^ k) (mul-div_cancel (m * 2 ^ (e - k)) (pow_pos k)) ∙ sym split
  where
    past : (p e k : ℕ) → 0 < p → suc e ≤ k → p + e ≤ p - 1 + k
    past p e k P h = omega arith

    enough : k ≤ e
    enough = le_of_suc-le-suc (lt_of_not-le λ (g : suc e ≤ k). not-le_of_lt (lt_of_lt_of_le (shl_lt p e M) (pow_mono (past p e k P g))) h)

-- 2 ^ prec of a step is half as many of twice the step
pub carried : (f : Format) (j : ℕ) → 2 ^ prec f * 2 ^ j ≡ 2 ^ (prec f - 1) * 2 ^ suc j
carried f j = sym (pow-add 2 (prec f) j) ∙ ap (λ (x : ℕ). 2 ^ x) (one_place (prec f) j (two f)) ∙ pow-add 2 (prec f - 1) (suc j)
  where
    one_place : (p j : ℕ) → 2 ≤ p → p + j ≡ p - 1 + suc j
    one_place p j h = omega arith

pub half_power : (f : Format) → 2 ^ (prec f - 1) < 2 ^ prec f
half_power f = pow-lt (less (prec f) (two f))
  where
    less : (p : ℕ) → 2 ≤ p → p - 1 < p
    less p h = omega arith

-- at most 2 ^ prec of a step
pub few_spaced : (f : Format) (q j : ℕ) → q ≤ 2 ^ prec f → Spaced f (q * 2 ^ j)
few_spaced f q j h k g = elim (eq-or-lt_of_le h) [
  | inl e ↦ let is : q * 2 ^ j ≡ 2 ^ (prec f - 1) * 2 ^ suc j = rw e (carried f j) in rw is (multiple (prec f) (2 ^ (prec f - 1)) (suc j) k (two-le_pos (prec f) (two f)) (half_power f) (rw is at g))
  | inr l ↦ multiple (prec f) q j k (two-le_pos (prec f) (two f)) l g
]

-- A positive value of the format, in units, is its significand times a power of two.
pub written : (f : Format) (s : Bool) (m : ℕ) (e : ℤ) → T (fits f (fin s (suc m) e)) → (suc m < 2 ^ prec f) × ((j : ℕ) × (suc m * up e * 2 ^ low f ≡ suc m * 2 ^ j * down e))
unfolding fits
written f s m e h =
    let A = eqb (suc m % 2) 1 in
    let B = ltb (suc m) (2 ^ prec f) in
    let C = leb (down e) (2 ^ low f) in
    let D = ltb (suc m * up e) (2 ^ suc (emax f) * down e) in (
      ltb→lt (suc m) (2 ^ prec f) (and_r A B (and_l (A && B) C (and_l (A && B && C) D h))),
      by_exponent e (leb→le (down e) (2 ^ low f) (and_r (A && B) C (and_l (A && B && C) D h))),
    )
  where
    by_exponent : (e : ℤ) → down e ≤ 2 ^ low f → (j : ℕ) × (suc m * up e * 2 ^ low f ≡ suc m * 2 ^ j * down e)
    by_exponent (pos i) l = (i + low f, mul_assoc (suc m) (2 ^ i) (2 ^ low f) ∙ ap (λ (x : ℕ). suc m * x) (sym (pow-add 2 i (low f))) ∙ sym (mul-one (suc m * 2 ^ (i + low f))))
    by_exponent (negsuc i) l =
        let j = low f - suc i in
        let under : suc i ≤ low f = le_of_suc-le-suc (lt_of_not-le λ (g : suc (low f) ≤ suc i). not-le_of_lt (pow-lt g) l) in
        let whole : 2 ^ low f ≡ 2 ^ j * 2 ^ suc i = power_split (low f) (suc i) under in
        (j, ap (λ (x : ℕ). x * 2 ^ low f) (mul-one (suc m)) ∙ ap (λ (x : ℕ). suc m * x) whole ∙ sym (mul_assoc (suc m) (2 ^ j) (2 ^ suc i)))

-- a value has only one number of units
pub one_count : (f : Format) (y : Float) (s t : Bool) (Y Z : ℕ) → InUnits f y s Y → InUnits f y t Z → Y ≡ Z
one_count f nan s t Y Z v w = absurd v
one_count f (inf r) s t Y Z v w = absurd v
one_count f (fin r m e) s t Y Z v w = eq_of_mul-eq-mul_right (down e) (down_pos e) Y Z (sym v.1 ∙ w.1)

pub spaced : (f : Format) (y : Float) (s : Bool) (Y : ℕ) → T (fits f y) → InUnits f y s Y → Spaced f Y
spaced f nan s Y h v k g = absurd v
spaced f (inf t) s Y h v k g = absurd v
spaced f (fin t zero e) s Y h v k g =
    let none : Y ≡ 0 = eq_of_mul-eq-mul_right (down e) (down_pos e) Y 0 (sym v.1 ∙ ap (λ (x : ℕ). x * 2 ^ low f) (zero-mul (up e)) ∙ zero-mul (2 ^ low f) ∙ sym (zero-mul (down e))) in
    absurd (not-le_of_lt (pow_pos (prec f - 1 + k)) (rw none at g))
spaced f (fin t (suc m) e) s Y h v k g =
    let w = written f t m e h in
    let j = w.1.0 in
    let is : Y ≡ suc m * 2 ^ j = eq_of_mul-eq-mul_right (down e) (down_pos e) Y (suc m * 2 ^ j) (sym v.1 ∙ w.1.1) in
    rw is (multiple (prec f) (suc m) j k (two-le_pos (prec f) (two f)) w.0 (rw is at g))
