-- A sum is -0 only where its first term is. Both terms are whole numbers of the smallest unit, and so is their sum: where it is not exactly 0 it is at least one unit and does not round to 0.
-- So a value that +0 added leaves as it is stays such a value where another is added to it.
use mathlib.Core.Path.{◌≡◌, refl, sym, ap, ◌∙◌, subst}
use mathlib.Core.Bool.{Bool, true, false, ◌&&◌, cond, true≢false}
use mathlib.Core.Logic.{inl, inr}
use Prim.Native.Nat.{ℕ, zero, suc, ◌+◌, ◌-◌, ◌*◌, ◌/◌, ◌%◌, ◌^◌, ◌≤◌, ◌<◌, compare}
use native.Mathlib.Nat.{le_trans, le_of_eq, lt_of_lt_of_le, lt_of_not-le, not-le_of_lt, zero-lt-suc, zero-mul, one-mul, mul-pos, mul_comm, mul_assoc, mul_right_comm, le-div_iff_mul-le, add-mul, mul-sub, suc-mul}
use native.Mathlib.Omega.{arith}
use borrow.Author.Tests.{ltb-true}
use lib.Dec.{T, ltb}
use lib.IntN.{ℤ, pos}
use lib.Pow.{pow_pos, pow_mono}
use lib.Ieee.{Float, nan, inf, fin, binary64, low, up, down, size, odd, units, round, sum, add, fits}
use lib.Ieee.Digits.{size-lt, size_reaches}
use lib.Ieee.Fits.{up_pos, down_pos, round_is, add-fits}
use lib.Ieee.Exact.{HasValue, odd_sign}
use lib.Ieee.Nearest.{closest, nearest-ge}
use lib.Ieee.Scale.{finite}
use Rattle.roots.proofs.Spacing.{written}
use Rattle.vectors.specs.Number.{◌⊕◌, plus_zero, plus_zero_is}
use Rattle.vectors.proofs.Finiteness.{zero_rounded}
use Rattle.vectors.proofs.OwnFraction.{zero_is}
use Rattle.vectors.proofs.Zeros.{Alike, plus_zero_lem, opposite_zeros, zero_plus}

-- ---- one unit
not_zero : (x : Float) (s : Bool) (a c : ℕ) → 0 < a → HasValue x s a c → x ≡ fin true 0 (pos 0) → ⊥
not_zero x s a c h v e = let w = subst (λ (y : Float). HasValue y s a c) e v in omega (arith, h, w.1, zero-mul c)

units_not_zero : (s : Bool) (q k : ℕ) → 0 < q → units binary64 s q k ≡ fin true 0 (pos 0) → ⊥
unfolding units
units_not_zero s q k h = by_test (ltb (q * 2 ^ k) (2 ^ (low binary64 + 1024)))
  where
    by_test : (b : Bool) → cond b (odd 54 s q k (low binary64)) (inf s) ≡ fin true 0 (pos 0) → ⊥
    by_test true e = not_zero _ s (q * 2 ^ k) (2 ^ low binary64) (mul-pos h (pow_pos k)) (odd_sign 54 s q k (low binary64)) e
    by_test false e = true≢false (sym (ap finite e))

some_digits : (n : ℕ) → 1 ≤ n → 0 < size n
some_digits n h = lt_of_not-le (λ (g : size n ≤ 0). not-le_of_lt (lt_of_lt_of_le (size-lt n) (pow_mono g)) h)

round_not_zero : (s : Bool) (n c : ℕ) → 0 < c → c ≤ n * 2 ^ low binary64 → round binary64 s n c ≡ fin true 0 (pos 0) → ⊥
round_not_zero s n c C h e =
    let w = n * 2 ^ low binary64 in
    let k = size (w / c) - 53 in
    let one : 1 ≤ w / c = (le-div_iff_mul-le C).1 (le_trans (le_of_eq (one-mul c)) h) in
    let reached : 2 ^ k ≤ w / c = size_reaches (w / c) k (fewer (size (w / c)) (some_digits (w / c) one)) in
    let first : 1 ≤ w / (c * 2 ^ k) = (le-div_iff_mul-le (mul-pos C (pow_pos k))).1 (le_trans (le_of_eq (one-mul (c * 2 ^ k) ∙ mul_comm c (2 ^ k))) ((le-div_iff_mul-le C).0 reached)) in
    units_not_zero s (closest w (c * 2 ^ k)) k (lt_of_lt_of_le first (nearest-ge (w / (c * 2 ^ k)) (compare (w % (c * 2 ^ k) * 2) (c * 2 ^ k)))) (sym (round_is binary64 s n c) ∙ e)
  where
    fewer : (z : ℕ) → 0 < z → z - 53 < z
    fewer z h = omega arith

-- ---- n / c is a whole number of units
abbrev Whole : ℕ → ℕ → Type 0
Whole n c = (w : ℕ) × (n * 2 ^ low binary64 ≡ w * c)

one_unit : (n c l w : ℕ) → 0 < n * l → n * l ≡ w * c → c ≤ n * l
one_unit n c l zero h e = absurd (omega (arith, h, e, zero-mul c))
one_unit n c l (suc w) h e = omega (arith, e, suc-mul w c)

whole_not_zero : (s : Bool) (n c : ℕ) → 0 < c → Whole n c → (s ≡ true → 0 < n) → round binary64 s n c ≡ fin true 0 (pos 0) → ⊥
whole_not_zero s (suc n) c C w h e = round_not_zero s (suc n) c C (one_unit (suc n) c (2 ^ low binary64) w.0 (mul-pos (zero-lt-suc n) (pow_pos (low binary64))) w.1) e
whole_not_zero false zero c C w h e = opposite_zeros e (zero_rounded false c C)
whole_not_zero true zero c C w h e = absurd (omega (arith, h refl))

total : (a b c : ℕ) → Whole a c → Whole b c → Whole (a + b) c
total a b c (u, p) (v, q) = (u + v, add-mul a b (2 ^ low binary64) ∙ rw (p, q) (sym (add-mul u v c)))

difference : (a b c : ℕ) → Whole a c → Whole b c → Whole (a - b) c
difference a b c (u, p) (v, q) = (u - v, of_product a b (2 ^ low binary64) ∙ rw (p, q) (sym (of_product u v c)))
  where
    of_product : (a b l : ℕ) → (a - b) * l ≡ a * l - b * l
    of_product a b l = mul_comm (a - b) l ∙ mul-sub l a b ∙ rw (mul_comm l a, mul_comm l b) refl

sum_not_zero : (s t : Bool) (a b c : ℕ) → 0 < c → Whole a c → Whole b c → (s ≡ true → 0 < a) → sum binary64 s a t b c ≡ fin true 0 (pos 0) → ⊥
unfolding sum
sum_not_zero s t a b c C p q h = by_signs s t h
  where
    by_test : (s t x : Bool) → ltb a b ≡ x → cond x (round binary64 t (b - a) c) (round binary64 (s && ltb b a) (a - b) c) ≡ fin true 0 (pos 0) → ⊥
    by_test s t true g e = whole_not_zero t (b - a) c C (difference b a c q p) (λ _. omega (arith, ltb-true a b g)) e
    by_test false t false g e = whole_not_zero false (a - b) c C (difference a b c p q) (λ x. absurd (true≢false (sym x))) e
    by_test true t false g e = whole_not_zero (ltb b a) (a - b) c C (difference a b c p q) (λ x. omega (arith, ltb-true b a x)) e

    by_signs : (s t : Bool) → (s ≡ true → 0 < a) → sum binary64 s a t b c ≡ fin true 0 (pos 0) → ⊥
    by_signs false false h e = whole_not_zero false (a + b) c C (total a b c p q) (λ x. absurd (true≢false (sym x))) e
    by_signs true true h e = whole_not_zero true (a + b) c C (total a b c p q) (λ x. omega (arith, h refl)) e
    by_signs false true h e = by_test false true (ltb a b) refl e
    by_signs true false h e = by_test true false (ltb a b) refl e

-- ---- every case of a sum
counted : (s : Bool) (m : ℕ) (e : ℤ) → T (fits binary64 (fin s m e)) → Whole (m * up e) (down e)
counted s zero e h = (0, rw (zero-mul (up e), zero-mul (down e)) (zero-mul (2 ^ low binary64)))
counted s (suc m) e h = let w = written binary64 s m e h in (suc m * 2 ^ w.1.0, w.1.1)

scaled : (n c d : ℕ) → Whole n c → Whole (n * d) (c * d)
scaled n c d (w, e) = (w, mul_right_comm n d (2 ^ low binary64) ∙ ap (λ (x : ℕ). x * d) e ∙ mul_assoc w c d)

fin_not_zero : (s t : Bool) (m n : ℕ) (e d : ℤ) → T (fits binary64 (fin s m e)) → T (fits binary64 (fin t n d)) → (s ≡ true → 0 < m) → fin s m e ⊕ fin t n d ≡ fin true 0 (pos 0) → ⊥
unfolding add
fin_not_zero s t m n e d f g h =
    sum_not_zero s t (m * up e * down d) (n * up d * down e) (down e * down d) (mul-pos (down_pos e) (down_pos d))
    (scaled (m * up e) (down e) (down d) (counted s m e f))
    (rw (mul_comm (down e) (down d)) (scaled (n * up d) (down d) (down e) (counted t n d g)))
    (λ x. mul-pos (mul-pos (h x) (up_pos e)) (down_pos d))

pub plus_not_zero : (x y : Float) → T (fits binary64 x) → T (fits binary64 y) → (x ≡ fin true 0 (pos 0) → ⊥) → x ⊕ y ≡ fin true 0 (pos 0) → ⊥
unfolding add
plus_not_zero nan y f g h e = true≢false (sym (ap finite e))
plus_not_zero (inf s) nan f g h e = true≢false (sym (ap finite e))
plus_not_zero (inf false) (inf false) f g h e = true≢false (sym (ap finite e))
plus_not_zero (inf false) (inf true) f g h e = true≢false (sym (ap finite e))
plus_not_zero (inf true) (inf false) f g h e = true≢false (sym (ap finite e))
plus_not_zero (inf true) (inf true) f g h e = true≢false (sym (ap finite e))
plus_not_zero (inf s) (fin t n d) f g h e = true≢false (sym (ap finite e))
plus_not_zero (fin s m k) nan f g h e = true≢false (sym (ap finite e))
plus_not_zero (fin s m k) (inf t) f g h e = true≢false (sym (ap finite e))
plus_not_zero (fin false m k) (fin t n d) f g h e = fin_not_zero false t m n k d f g (λ x. absurd (true≢false (sym x))) e
plus_not_zero (fin true (suc m) k) (fin t n d) f g h e = fin_not_zero true t (suc m) n k d f g (λ x. zero-lt-suc m) e
plus_not_zero (fin true zero k) (fin t n d) f g h e = h (zero_is true k f)

-- ---- what +0 leaves as it is
pub sum_kept : (s z : Float) → plus_zero ⊕ s ≡ s → T (fits binary64 z) → plus_zero ⊕ (s ⊕ z) ≡ s ⊕ z
sum_kept s z k g = rw plus_zero_is (by_sum (zero_plus (s ⊕ z) (add-fits binary64 s z)))
  where
    never : s ≡ fin true 0 (pos 0) → ⊥
    never e = opposite_zeros e (sym k ∙ rw (plus_zero_is, e) (plus_zero_lem true))

    by_sum : Alike (s ⊕ z) (fin false 0 (pos 0) ⊕ (s ⊕ z)) → fin false 0 (pos 0) ⊕ (s ⊕ z) ≡ s ⊕ z
    by_sum (inl e) = sym e
    by_sum (inr w) = absurd (plus_not_zero s z (subst (λ (x : Float). T (fits binary64 x)) k (add-fits binary64 plus_zero s)) g never w.0)
