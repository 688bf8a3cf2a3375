-- A number above the rounded square of a positive t has a root that is not below t. Rounding keeps the order, so the number is above the exact square too.
-- Were its rounded root below t, the root would be nearer to that than to t, and so the number below the square.
use mathlib.Core.Path.{◌≡◌, refl, sym, ap, ◌∙◌}
use mathlib.Core.Bool.{Bool, true, false, true≢false}
use Prim.Native.Nat.{ℕ, zero, suc, ◌+◌, ◌*◌, ◌^◌, ◌≤◌, ◌<◌}
use native.Mathlib.Nat.{le_trans, le_of_eq, lt_of_not-le, not-le_of_lt, le_of_suc-le-suc, zero-lt-suc, zero-mul, mul-pos, mul_comm, mul_assoc, mul_left_comm, mul-le-mul, mul-le-mul_right, le_of_mul-le-mul_right}
use native.Mathlib.Omega.{arith}
use borrow.Author.Tests.{le-ltb}
use lib.Dec.{T, lt→ltb}
use lib.IntN.{ℤ}
use lib.Pow.{pow_pos}
use lib.Ieee.{Float, nan, inf, fin, binary64, low, up, down, fits, of_bits, round, mul, lt, le}
use lib.Ieee.Fits.{down_pos}
use lib.Ieee.Exact.{HasValue}
use lib.Ieee.Order.{round_mono, le_of_values}
use Rattle.roots.specs.Sqrt.{sqrt_of}
use Rattle.roots.specs.Correct.{NoNearer}
use Rattle.roots.proofs.Spacing.{written}
use Rattle.roots.proofs.Correct.{sqrt_rounded}
use Rattle.vectors.specs.Number.{◌⊗◌, plus_zero}
use Rattle.vectors.proofs.OwnFraction.{kept}
use Rattle.vectors.proofs.FloatOrder.{not_below, infinite}

-- ---- rounded and exact fractions
value_not_below : (x : Float) (k : ℕ) (d : ℤ) → HasValue x false (k * up d) (down d) → lt x (fin false k d) ≡ false
unfolding lt
value_not_below nan k d v = refl
value_not_below (inf s) k d v = absurd v
value_not_below (fin true m e) k d v = absurd (true≢false v.0)
value_not_below (fin false m e) k d v = le-ltb (m * up e * down d) (k * up d * down e) (le_of_eq (sym v.1))

-- what is above a rounded fraction is above the fraction
above_exact : (n c k : ℕ) (d : ℤ) → 0 < c → T (fits binary64 (fin false (suc k) d)) → lt (round binary64 false n c) (fin false (suc k) d) ≡ true → n * down d < suc k * up d * c
above_exact n c k d C h l = lt_of_not-le λ (g : suc k * up d * c ≤ n * down d).
    let r = round binary64 false (suc k * up d) (down d) in
    true≢false (sym l ∙ not_below r (round binary64 false n c) (fin false (suc k) d) (round_mono binary64 (suc k * up d) (down d) n c (down_pos d) C g) (value_not_below r (suc k) d (kept false k d h)))

from_zero : (n c : ℕ) → 0 < c → T (le plus_zero (round binary64 false n c))
unfolding of_bits round
from_zero n c h = round_mono binary64 0 1 n c (omega arith) h (omega arith)

-- what is above a rounded fraction is above 0
above_zero : (n c : ℕ) (b : Float) → 0 < c → lt (round binary64 false n c) b ≡ true → lt plus_zero b ≡ true
above_zero n c b C l = by_test (lt plus_zero b) refl
  where
    by_test : (t : Bool) → lt plus_zero b ≡ t → lt plus_zero b ≡ true
    by_test true e = e
    by_test false e = absurd (true≢false (sym l ∙ not_below plus_zero (round binary64 false n c) b (from_zero n c C) e))

-- ---- the root
-- n / c is y / l, and the square of w * y / l is at least that of w, times a / d
squares : (w n c a d y l : ℕ) → 0 < w * l → n * l ≡ y * c → w * w * a * (l * l) ≤ w * y * (w * y) * d → a * (c * c) ≤ n * n * d
squares w n c a d y l p e h =
    let i : a * (c * c) * (w * l * (w * l)) ≡ w * w * a * (l * l) * (c * c) = simp (mul_assoc, mul_comm, mul_left_comm) in
    let j : w * y * (w * y) * d * (c * c) ≡ w * (y * c) * (w * (y * c)) * d = simp (mul_assoc, mul_comm, mul_left_comm) in
    let k : w * (n * l) * (w * (n * l)) * d ≡ n * n * d * (w * l * (w * l)) = simp (mul_assoc, mul_comm, mul_left_comm) in
    le_of_mul-le-mul_right (le_trans (le_of_eq i) (le_trans (mul-le-mul_right (c * c) h) (le_of_eq (j ∙ ap (λ (v : ℕ). w * v * (w * v) * d) (sym e) ∙ k)))) (mul-pos p p)

module _ (m : ℕ) (e : ℤ) (k : ℕ) (d : ℤ) (f : T (fits binary64 (fin false (suc m) e))) (g : T (fits binary64 (fin false (suc k) d))) where
  root_not_below : suc m * up e * (suc m * up e) * down d < suc k * up d * (down e * down e) → lt (sqrt_of (fin false (suc k) d)) (fin false (suc m) e) ≡ false
  unfolding NoNearer
  root_not_below h =
      let t = fin false (suc m) e in
      let b = fin false (suc k) d in
      let l = 2 ^ low binary64 in
      let w = written binary64 false m e f in
      let y = suc m * 2 ^ w.1.0 in
      let r = sqrt_rounded b g (lt→ltb 0 (suc k) (zero-lt-suc k)) in
      let near = (r.nearest t false y f (refl, w.1.1)).0 in
      let reaches : y ≤ r.count = le_of_suc-le-suc (lt_of_not-le λ (s : suc r.count ≤ y).
      not-le_of_lt h (squares 2 (suc m * up e) (down e) (suc k * up d) (down d) y l (mul-pos (zero-lt-suc 1) (pow_pos (low binary64))) w.1.1 (le_trans (near s) (mul-le-mul_right (down d) (mul-le-mul (half r.count y s) (half r.count y s)))))) in
      not_below t (sqrt_of b) t (le_of_values t (sqrt_of b) y l r.count l (pow_pos (low binary64)) (pow_pos (low binary64)) (refl, w.1.1) r.counted (mul-le-mul_right l reaches)) (value_not_below t (suc m) e (refl, refl))
    where
      half : (a b : ℕ) → suc a ≤ b → a + b ≤ 2 * b
      half a b h = omega arith

-- ---- every case
zero_not_below_zero : (e : ℤ) → lt plus_zero (fin false zero e) ≡ false
unfolding of_bits lt
zero_not_below_zero e = simp zero-mul

module _ (m : ℕ) (e : ℤ) (f : T (fits binary64 (fin false (suc m) e))) where
  abbrev square : Float
  square = round binary64 false (suc m * up e * (suc m * up e)) (down e * down e)

  by_number : (b : Float) → T (fits binary64 b) → lt plus_zero b ≡ true → lt square b ≡ true → lt (sqrt_of b) (fin false (suc m) e) ≡ false
  unfolding of_bits lt sqrt_of
  by_number nan g p l = refl
  by_number (inf true) g p l = refl
  by_number (inf false) g p l = refl
  by_number (fin true k d) g p l = absurd (true≢false (sym p))
  by_number (fin false zero d) g p l = absurd (true≢false (sym p ∙ zero_not_below_zero d))
  by_number (fin false (suc k) d) g p l = root_not_below m e k d f g (above_exact _ _ k d (mul-pos (down_pos e) (down_pos e)) g l)

pub square_under : (t b : Float) → T (fits binary64 t) → T (fits binary64 b) → lt plus_zero t ≡ true → lt (t ⊗ t) b ≡ true → (lt plus_zero b ≡ true) × (lt (sqrt_of b) t ≡ false)
unfolding of_bits mul lt
square_under nan b f g p l = absurd (true≢false (sym p))
square_under (inf true) b f g p l = absurd (true≢false (sym p))
square_under (inf false) b f g p l = absurd (true≢false (sym l ∙ infinite b))
square_under (fin true m e) b f g p l = absurd (true≢false (sym p))
square_under (fin false zero e) b f g p l = absurd (true≢false (sym p ∙ zero_not_below_zero e))
square_under (fin false (suc m) e) b f g p l =
    let z = above_zero (suc m * up e * (suc m * up e)) (down e * down e) b (mul-pos (down_pos e) (down_pos e)) l in
    (z, by_number m e f b g z l)
