-- Rounding keeps the sign of a fraction, so a product has minus where just one of its factors has it, and (k r) r has the sign of k. A zero makes zeros or NaN, which lie on both sides.
-- On the plus side a minus sign means a zero, so that sizes add up: the rounded sum lies there too, and has a minus sign only where both terms have one.
use mathlib.Core.Path.{◌≡◌, refl, sym, ap, ◌∙◌}
use mathlib.Core.Bool.{Bool, true, false, ◌&&◌, cond, true≢false}
use mathlib.Core.Logic.{◌≢◌}
use Prim.Native.Nat.{ℕ, zero, suc, ◌+◌, ◌*◌, ◌^◌, ◌<◌}
use native.Mathlib.Nat.{zero-lt-suc, zero-mul, mul-zero, mul-pos}
use native.Mathlib.Omega.{arith}
use borrow.Author.Tests.{lt-ltb, le-ltb, ltb-false}
use lib.Dec.{ltb, eqb}
use lib.IntN.{ℤ, pos}
use lib.Ieee.{Float, nan, inf, fin, binary64, low, unlike, up, down, odd, units, round, sum, add, mul, lt}
use lib.Ieee.Fits.{up_pos, down_pos, round_is}
use Rattle.vectors.specs.Number.{◌⊕◌, ◌⊗◌, plus_zero, minus_zero, plus_zero_is, minus_zero_is}
use Rattle.vectors.specs.Signs.{plus, Sign, no_number, endless, number, Side, signed, nought, SignLaws}
use Rattle.vectors.proofs.Finiteness.{zero_rounded}
use Rattle.vectors.proofs.Zeros.{sign, plus_turned}

-- ---- the sign of a value
sign_of : (x : Float) → Sign (sign x) x
unfolding sign
sign_of nan = no_number
sign_of (inf s) = endless
sign_of (fin s m e) = number m e

plus_sign : {x : Float} → Sign plus x → sign x ≡ false
unfolding sign
plus_sign no_number = refl
plus_sign endless = refl
plus_sign (number m e) = refl

pub not_minus_zero : {x : Float} → Sign plus x → x ≢ minus_zero
unfolding sign
not_minus_zero p e = true≢false (sym (ap sign (e ∙ minus_zero_is)) ∙ plus_sign p)

pub zero_sign : Sign plus plus_zero
zero_sign = rw plus_zero_is (number 0 (pos 0))

-- ---- rounding
units_sign : (s : Bool) (q k : ℕ) → Sign s (units binary64 s q k)
unfolding units odd
units_sign s q k = by_test (ltb (q * 2 ^ k) (2 ^ (low binary64 + 1024))) q
  where
    by_test : (b : Bool) (q : ℕ) → Sign s (cond b (odd 54 s q k (low binary64)) (inf s))
    by_test true zero = number 0 (pos 0)
    by_test true (suc q) = number _ _
    by_test false q = endless

pub round_sign : (s : Bool) (a c : ℕ) → Sign s (round binary64 s a c)
round_sign s a c = rw (round_is binary64 s a c) (units_sign s _ _)

rounded_nought : {s : Bool} (t : Bool) (a c : ℕ) → 0 < c → a ≡ 0 → Side s (round binary64 t a c)
rounded_nought t a c h e = rw (e, zero_rounded t c h) (nought t (pos 0))

-- ---- products
unless_zero : {s : Bool} (b : Bool) → Sign s (cond b nan (inf s))
unless_zero true = no_number
unless_zero false = endless

pub mul_sign : {s t : Bool} {x y : Float} → Sign s x → Sign t y → Sign (unlike s t) (x ⊗ y)
unfolding mul
mul_sign no_number q = no_number
mul_sign endless no_number = no_number
mul_sign endless endless = endless
mul_sign endless (number n d) = unless_zero (eqb n 0)
mul_sign (number m e) no_number = no_number
mul_sign (number m e) endless = unless_zero (eqb m 0)
mul_sign {s} {t} (number m e) (number n d) = round_sign (unlike s t) (m * up e * (n * up d)) (down e * down d)

zero_times : {s : Bool} (t : Bool) (e : ℤ) (y : Float) → Side s (fin t 0 e ⊗ y)
unfolding mul
zero_times t e nan = signed no_number
zero_times t e (inf u) = signed no_number
zero_times t e (fin u n d) = rounded_nought _ _ _ (mul-pos (down_pos e) (down_pos d)) (rw (zero-mul (up e)) (zero-mul (n * up d)))

times_zero : {s : Bool} (t : Bool) (e : ℤ) (x : Float) → Side s (x ⊗ fin t 0 e)
unfolding mul
times_zero t e nan = signed no_number
times_zero t e (inf u) = signed no_number
times_zero t e (fin u n d) = rounded_nought _ _ _ (mul-pos (down_pos d) (down_pos e)) (rw (zero-mul (up e)) (mul-zero (n * up d)))

pub mul_side : {s t : Bool} {x y : Float} → Side s x → Side t y → Side (unlike s t) (x ⊗ y)
mul_side (nought u e) q = zero_times u e _
mul_side (signed p) (nought u e) = times_zero u e _
mul_side (signed p) (signed q) = signed (mul_sign p q)

unlike_twice : (s t : Bool) → unlike (unlike s t) t ≡ s
unlike_twice true true = refl
unlike_twice true false = refl
unlike_twice false true = refl
unlike_twice false false = refl

pub square_side : {s : Bool} {k : Float} → Side s k → (r : Float) → Side s (k ⊗ r ⊗ r)
square_side {s} p r =
    let q = signed (sign_of r) in
    rw (unlike_twice s (sign r)) at (mul_side (mul_side p q) q)

-- ---- sums
pub add_sign : {s : Bool} {x y : Float} → Sign s x → Sign s y → Sign s (x ⊕ y)
unfolding add sum
add_sign no_number q = no_number
add_sign endless no_number = no_number
add_sign {s = true} endless endless = endless
add_sign {s = false} endless endless = endless
add_sign endless (number n d) = endless
add_sign (number m e) no_number = no_number
add_sign (number m e) endless = endless
add_sign {s = true} (number m e) (number n d) = round_sign true (m * up e * down d + n * up d * down e) (down e * down d)
add_sign {s = false} (number m e) (number n d) = round_sign false (m * up e * down d + n * up d * down e) (down e * down d)

-- where minus means 0, sizes add up
pub sum_plus : (s t : Bool) (a b c : ℕ) → (s ≡ true → a ≡ 0) → (t ≡ true → b ≡ 0) → sum binary64 s a t b c ≡ round binary64 (s && t) (a + b) c
unfolding sum
sum_plus false false a b c p q = refl
sum_plus true true a b c p q = refl
sum_plus false true a b c p q = rw (q refl, le-ltb a 0 (omega arith)) (ap (λ (n : ℕ). round binary64 false n c) (omega arith))
sum_plus true false a zero c p q = rw (p refl)
sum_plus true false a (suc b) c p q = rw (p refl, lt-ltb 0 (suc b) (zero-lt-suc b)) (ap (λ (n : ℕ). round binary64 false n c) (omega arith))

zero_product : (a b : ℕ) → 0 * a * b ≡ 0
zero_product a b = rw (zero-mul a) (zero-mul b)

-- a number with the sign plus, and a zero
and_zero : (m : ℕ) (e : ℤ) (t : Bool) (d : ℤ) → Sign plus (fin plus m e ⊕ fin t 0 d)
unfolding add
and_zero m e t d =
    let a = m * up e * down d in
    let b = 0 * up d * down e in
    let c = down e * down d in
    rw (sum_plus false t a b c (λ h. absurd (true≢false (sym h))) (λ h. zero_product (up d) (down e))) (round_sign false (a + b) c)

two_zeros : (t : Bool) (e : ℤ) (u : Bool) (d : ℤ) → Side plus (fin t 0 e ⊕ fin u 0 d)
unfolding add
two_zeros t e u d =
    let a = 0 * up e * down d in
    let b = 0 * up d * down e in
    let c = down e * down d in
    let p : a ≡ 0 = zero_product (up e) (down d) in
    let q : b ≡ 0 = zero_product (up d) (down e) in
    rw (sum_plus t u a b c (λ h. p) (λ h. q)) (rounded_nought (t && u) (a + b) c (mul-pos (down_pos e) (down_pos d)) (rw (p, q)))

pub add_plus : {x y : Float} → Sign plus x → Side plus y → Sign plus (x ⊕ y)
unfolding add
add_plus p (signed q) = add_sign p q
add_plus no_number (nought t d) = no_number
add_plus endless (nought t d) = endless
add_plus (number m e) (nought t d) = and_zero m e t d

pub add_side : {x y : Float} → Side plus x → Side plus y → Side plus (x ⊕ y)
add_side (signed p) q = signed (add_plus p q)
add_side {x} {y} (nought t e) (signed q) = rw (plus_turned x y) (signed (add_plus q (nought t e)))
add_side (nought t e) (nought u d) = two_zeros t e u d

-- ---- the comparison with 0
pub plus_side : (x : Float) → lt x plus_zero ≡ false → Side plus x
unfolding lt
plus_side x h = by_form x (rw plus_zero_is at h)
  where
    by_form : (x : Float) → lt x (fin false 0 (pos 0)) ≡ false → Side plus x
    by_form nan h = signed no_number
    by_form (inf true) h = absurd (true≢false h)
    by_form (inf false) h = signed endless
    by_form (fin false m e) h = signed (number m e)
    by_form (fin true zero e) h = nought true e
    by_form (fin true (suc m) e) h = absurd (omega (arith, ltb-false 0 (suc m * up e * 1 + 0 * 1 * down e) h, mul-pos (zero-lt-suc m) (up_pos e)))

pub side_not_below : {x : Float} → Side plus x → lt x plus_zero ≡ false
unfolding lt
side_not_below p = rw plus_zero_is (by_form p)
  where
    by_form : {x : Float} → Side plus x → lt x (fin false 0 (pos 0)) ≡ false
    by_form (signed no_number) = refl
    by_form (signed endless) = refl
    by_form (signed (number m e)) = rw (zero-mul (down e)) (le-ltb (m * up e * 1) 0 (omega arith))
    by_form (nought true e) = rw (zero-mul (up e), zero-mul (down e))
    by_form (nought false e) = rw (zero-mul (up e), zero-mul (down e))

-- ---- all together
pub sign_laws : SignLaws
sign_laws = record {
  product_sign = λ s t x y p q. mul_sign p q;
  product_side = λ s t x y p q. mul_side p q;
  square_side = λ s k r p. square_side p r;
  sum_sign = λ s x y p q. add_sign p q;
  sum_plus = λ x y p q. add_plus p q;
  sum_side = λ x y p q. add_side p q;
  not_below = λ x. (plus_side x, side_not_below);
  not_minus_zero = λ x p. not_minus_zero p;
}
