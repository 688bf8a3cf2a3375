-- Where x is at most y and not below z, y is not below z. Of finite values the tests compare fractions, and each keeps its outcome where both are brought to the denominator of all three.
-- What is left are whole numbers with signs.
use mathlib.Core.Path.{◌≡◌, refl, sym, ◌∙◌}
use mathlib.Core.Bool.{Bool, true, false, not, ◌||◌, ◌&&◌, true≢false}
use Prim.Native.Nat.{ℕ, ◌+◌, ◌*◌, ◌≤◌, ◌<◌}
use native.Mathlib.Nat.{le_of_lt, le_of_eq, zero-mul, add-mul, mul_right_comm, mul-le-mul_right, mul-lt-mul_of_pos_right}
use native.Mathlib.Omega.{arith}
use borrow.Author.Tests.{ltb-true, ltb-false, lt-ltb, le-ltb, eqb-true}
use lib.Dec.{T, ltb, eqb}
use lib.Ieee.{Float, nan, inf, fin, is_nan, up, down, below, level, lt, eq, le}
use lib.Ieee.Fits.{down_pos}
use lib.Ieee.Bits.{is_true}

-- ---- whole numbers with signs
-- below, or level by a test that answers so only for equal ones
at_most : (a b : ℕ) (y : Bool) → (y ≡ true → a ≡ b) → (ltb a b || (y && true)) ≡ true → a ≤ b
at_most a b y e h = by_tests (ltb a b) y refl e h
  where
    by_tests : (x y : Bool) → ltb a b ≡ x → (y ≡ true → a ≡ b) → (x || (y && true)) ≡ true → a ≤ b
    by_tests true y p e h = le_of_lt (ltb-true a b p)
    by_tests false true p e h = le_of_eq (e refl)
    by_tests false false p e h = absurd (true≢false (sym h))

zeros : (a b : ℕ) → (eqb a b && eqb a 0) ≡ true → b + a ≡ 0
zeros a b h = by_tests (eqb a b) (eqb a 0) refl refl h
  where
    by_tests : (x y : Bool) → eqb a b ≡ x → eqb a 0 ≡ y → (x && y) ≡ true → b + a ≡ 0
    by_tests true true p q h = omega (arith, eqb-true a b p, eqb-true a 0 q)
    by_tests true false p q h = absurd (true≢false (sym h))
    by_tests false y p q h = absurd (true≢false (sym h))

not_above : (s r : Bool) (a b : ℕ) → (below s a r b || level s a r b) ≡ true → below r b s a ≡ false
not_above false false a b h = le-ltb b a (at_most a b (eqb a b) (eqb-true a b) h)
not_above false true a b h = le-ltb 0 (b + a) (le_of_eq (zeros a b h))
not_above true false a b h = refl
not_above true true a b h = le-ltb a b (at_most b a (eqb a b) (λ e. sym (eqb-true a b e)) h)

on_whole : (r s t : Bool) (b a c : ℕ) → below r b s a ≡ false → below s a t c ≡ false → below r b t c ≡ false
on_whole false s true b a c p q = refl
on_whole false false false b a c p q = le-ltb b c (omega (arith, ltb-false b a p, ltb-false a c q))
on_whole false true false b a c p q = le-ltb b c (omega (arith, ltb-false 0 (a + c) q))
on_whole true false false b a c p q = le-ltb 0 (b + c) (omega (arith, ltb-false 0 (b + a) p, ltb-false a c q))
on_whole true false true b a c p q = le-ltb c b (omega (arith, ltb-false 0 (b + a) p))
on_whole true true false b a c p q = le-ltb 0 (b + c) (omega (arith, ltb-false a b p, ltb-false 0 (a + c) q))
on_whole true true true b a c p q = le-ltb c b (omega (arith, ltb-false a b p, ltb-false c a q))

-- ---- fractions
ltb_scaled : (a b k : ℕ) → 0 < k → ltb (a * k) (b * k) ≡ ltb a b
ltb_scaled a b k h = by_test (ltb a b) refl
  where
    by_test : (t : Bool) → ltb a b ≡ t → ltb (a * k) (b * k) ≡ t
    by_test true e = lt-ltb (a * k) (b * k) (mul-lt-mul_of_pos_right (ltb-true a b e) h)
    by_test false e = le-ltb (a * k) (b * k) (mul-le-mul_right k (ltb-false a b e))

scaled : (s t : Bool) (a b k : ℕ) → 0 < k → below s (a * k) t (b * k) ≡ below s a t b
scaled false false a b k h = ltb_scaled a b k h
scaled false true a b k h = refl
scaled true false a b k h = rw (← add-mul a b k) (rw (zero-mul k) at (ltb_scaled 0 (a + b) k h))
scaled true true a b k h = ltb_scaled b a k h

-- b / d, a / e and c / f
on_fractions : (r s t : Bool) (b d a e c f : ℕ) → 0 < d → 0 < e → 0 < f → below r (b * e) s (a * d) ≡ false → below s (a * f) t (c * e) ≡ false → below r (b * f) t (c * d) ≡ false
on_fractions r s t b d a e c f D E F p q =
    let P : below r (b * e * f) s (a * d * f) ≡ false = scaled r s (b * e) (a * d) f F ∙ p in
    let Q : below s (a * d * f) t (c * d * e) ≡ false = rw (mul_right_comm a d f, mul_right_comm c d e) (scaled s t (a * f) (c * e) d D ∙ q) in
    sym (scaled r t (b * f) (c * d) e E) ∙ rw (mul_right_comm b f e) (on_whole r s t (b * e * f) (a * d * f) (c * d * e) P Q)

-- ---- every case of the order
-- a number that equals itself is not NaN
pub not_nan : (x : Float) → eq x x ≡ true → T (not (is_nan x))
unfolding eq is_nan
not_nan nan h = absurd (true≢false (sym h))
not_nan (inf s) h = tt
not_nan (fin s m e) h = tt

pub lt_le : (x y : Float) → lt x y ≡ true → T (le x y)
unfolding le
lt_le x y h = rw h tt

pub infinite : (z : Float) → lt (inf false) z ≡ false
unfolding lt
infinite nan = refl
infinite (inf t) = refl
infinite (fin t n d) = refl

pub not_below : (x y z : Float) → T (le x y) → lt x z ≡ false → lt y z ≡ false
unfolding le lt eq
not_below nan y z h p = absurd h
not_below (inf false) nan z h p = refl
not_below (inf false) (inf true) z h p = absurd h
not_below (inf false) (inf false) z h p = p
not_below (inf false) (fin r n d) z h p = absurd h
not_below (inf true) nan z h p = refl
not_below (inf true) (inf s) nan h p = refl
not_below (inf true) (inf true) (inf true) h p = refl
not_below (inf true) (inf false) (inf true) h p = refl
not_below (inf true) (fin r n d) nan h p = refl
not_below (inf true) (fin r n d) (inf true) h p = refl
not_below (inf true) (inf s) (inf false) h p = absurd (true≢false p)
not_below (inf true) (fin r n d) (inf false) h p = absurd (true≢false p)
not_below (inf true) (inf s) (fin t k c) h p = absurd (true≢false p)
not_below (inf true) (fin r n d) (fin t k c) h p = absurd (true≢false p)
not_below (fin s m e) nan z h p = refl
not_below (fin s m e) (inf true) z h p = absurd h
not_below (fin s m e) (inf false) z h p = infinite z
not_below (fin s m e) (fin r n d) nan h p = refl
not_below (fin s m e) (fin r n d) (inf true) h p = refl
not_below (fin s m e) (fin r n d) (inf false) h p = absurd (true≢false p)
not_below (fin s m e) (fin r n d) (fin t k c) h p =
    on_fractions r s t (n * up d) (down d) (m * up e) (down e) (k * up c) (down c) (down_pos d) (down_pos e) (down_pos c)
    (not_above s r (m * up e * down d) (n * up d * down e) (is_true _ h)) p
