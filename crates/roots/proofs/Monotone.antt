-- The rounded root keeps the order. Of fractions in order the whole parts of the roots are in order, and where these are equal, a whole second root makes the first one whole.
-- So what `root_of` hands to `round` is in order too, and `round` keeps that. Zeros, infinities and negative numbers are then taken case by case.
use mathlib.Core.Path.{◌≡◌, ◌∙◌}
use mathlib.Core.Logic.{inl, inr}
use mathlib.Core.Bool.{Bool, true, false, not, ◌||◌, cond}
use Prim.Native.Nat.compare
use Prim.Native.Nat.{ℕ, zero, suc, ◌+◌, ◌*◌, ◌/◌, ◌^◌, ◌≤◌, ◌<◌}
use native.Mathlib.Nat.{le_trans, le_of_eq, le_antisymm, eq-or-lt_of_le, lt_irrefl, zero-lt-suc, zero-add, zero-mul, mul-pos, le_of_mul-le-mul_right, mul-le-mul_right, mul_right_comm, div-mul-le_self}
use native.Mathlib.Omega.{arith}
use lib.Dec.{T, ltb, eqb, eqb→eq, leb-zero, leb-suc-suc}
use lib.IntN.{ℤ, pos}
use lib.Pow.{pow_pos}
use lib.Ieee.{Float, nan, inf, fin, Format, binary64, prec, emax, low, up, down, odd, units, round, of_bits, below, level, le}
use lib.Ieee.Fits.{up_pos, down_pos, eq→eqb}
use lib.Ieee.Nearest.{div_mono}
use lib.Ieee.Order.{round_mono}
use lib.Ieee.Positive.{above_of_le, le→cross}
use Rattle.roots.specs.WholeRoot.{whole_root}
use Rattle.roots.specs.Sqrt.{root_of, sqrt_of}
use Rattle.roots.specs.Correct.{SqrtIsMonotone}
use Rattle.roots.proofs.WholeRoot.{whole_root_is, at_most}
use Rattle.roots.proofs.Correct.{positive_root}

-- twice the whole part, and one more where the root is not whole
halves_mono : (b b' : Bool) (r q : ℕ) → r ≤ q → (r ≡ q → T b' → T b) → 2 * r + cond b 0 1 ≤ 2 * q + cond b' 0 1
halves_mono true b' r q h w = omega arith
halves_mono false false r q h w = omega arith
halves_mono false true r q h w = elim (eq-or-lt_of_le h) [ inl e ↦ absurd (w e tt) | inr l ↦ omega arith ]

-- n / c ≤ m / d, and r is at most the root of n / c and exactly that of m / d: then it is both roots
whole_too : (n c m d r q : ℕ) → 0 < d → n * d ≤ m * c → r * r * c ≤ n → r ≡ q → q * q * d ≡ m → r * r * c ≡ n
whole_too n c m d r q D h lo e x = le_antisymm lo (le_of_mul-le-mul_right (le_trans h (le_of_eq (rw (← x, ← e) (mul_right_comm (r * r) d c)))) D)

pub root_mono : (f : Format) (a c b d : ℕ) → 0 < c → 0 < d → a * d ≤ b * c → T (le (root_of f a c) (root_of f b d))
unfolding root_of
root_mono f a c b d C D h =
    let p = 4 ^ suc (low f) in
    let n = a * p in
    let m = b * p in
    let r = whole_root (n / c) in
    let q = whole_root (m / d) in
    let u = 2 ^ suc (suc (low f)) in
    let k : n * d ≤ m * c = le_trans (le_of_eq (mul_right_comm a p d)) (le_trans (mul-le-mul_right p h) (le_of_eq (mul_right_comm b c p))) in
    let lo : r * r * c ≤ n = le_trans (mul-le-mul_right c (whole_root_is (n / c)).0) (div-mul-le_self n c) in
    let r≤q : r ≤ q = at_most (m / d) r q (le_trans (whole_root_is (n / c)).0 (div_mono n c m d C D k)) (whole_root_is (m / d)).1 in
    let w : r ≡ q → T (eqb (q * q * d) m) → T (eqb (r * r * c) n) = λ e t. eq→eqb (whole_too n c m d r q D k lo e (eqb→eq (q * q * d) m t)) in
    round_mono f (2 * r + cond (eqb (r * r * c) n) 0 1) u (2 * q + cond (eqb (q * q * d) m) 0 1) u (pow_pos (suc (suc (low f)))) (pow_pos (suc (suc (low f))))
    (mul-le-mul_right u (halves_mono (eqb (r * r * c) n) (eqb (q * q * d) m) r q r≤q w))

-- ---- zeros and infinities
suc_above : (m : ℕ) → ltb 0 (suc m) ≡ true
suc_above m = leb-suc-suc 0 m ∙ leb-zero m

-- not a NaN, and without a minus sign
abbrev plus : Float → Bool
plus nan = false
plus (inf s) = not s
plus (fin s m e) = not s

units_plus : (f : Format) (q k : ℕ) → T (plus (units f false q k))
unfolding units odd
units_plus f q k = by_test (ltb (q * 2 ^ k) (2 ^ (low f + suc (emax f)))) q
  where
    by_test : (b : Bool) (q : ℕ) → T (plus (cond b (odd (suc (prec f)) false q k (low f)) (inf false)))
    by_test true zero = tt
    by_test true (suc q) = tt
    by_test false q = tt

root_plus : (f : Format) (a c : ℕ) → T (plus (root_of f a c))
unfolding root_of round
root_plus f a c = units_plus f _ _

-- such a value lies between each zero and the positive infinity
in_range : (z : Float) → T (plus z) → ((s : Bool) (e : ℤ) → T (le (fin s zero e) z)) × T (le z (inf false))
unfolding le
in_range nan p = absurd p
in_range (inf true) p = absurd p
in_range (inf false) p = (λ s e. tt, tt)
in_range (fin true m d) p = absurd p
in_range (fin false m d) p = (λ s e. simp zero-mul (size_at s (m * up d * down e)), tt)
  where
    size_at : (s : Bool) (b : ℕ) → T (below s 0 false b || level s 0 false b)
    size_at true zero = tt
    size_at true (suc b) = simp (zero-add, suc_above) tt
    size_at false zero = tt
    size_at false (suc b) = simp suc_above tt

-- no zero is at most a negative number
negative_under : (s : Bool) (e : ℤ) (n : ℕ) (d : ℤ) → T (le (fin s zero e) (fin true (suc n) d)) → ⊥
unfolding le
negative_under s e n d h = size_at s (suc n * up d * down e) (mul-pos (mul-pos (zero-lt-suc n) (up_pos d)) (down_pos e)) (simp zero-mul at h)
  where
    size_at : (s : Bool) (b : ℕ) → 0 < b → T (below s 0 true b || level s 0 true b) → ⊥
    size_at s zero p h = absurd (lt_irrefl 0 p)
    size_at true (suc b) p h = simp (compare.suc-zero, compare.zero-suc) at h
    size_at false (suc b) p h = simp compare.zero-suc at h

-- ---- every case of the order
ordered : (x y : Float) → T (le (fin false zero (pos 0)) x) → T (le x y) → T (le (sqrt_of x) (sqrt_of y))
unfolding sqrt_of le
ordered nan y p h = absurd p
ordered (inf true) y p h = absurd p
ordered (inf false) nan p h = absurd h
ordered (inf false) (inf true) p h = absurd h
ordered (inf false) (inf false) p h = tt
ordered (inf false) (fin t n d) p h = absurd h
ordered (fin s zero e) nan p h = absurd h
ordered (fin s zero e) (inf true) p h = absurd h
ordered (fin s zero e) (inf false) p h = tt
ordered (fin s zero e) (fin t zero d) p h = h
ordered (fin s zero e) (fin true (suc n) d) p h = absurd (negative_under s e n d h)
ordered (fin s zero e) (fin false (suc n) d) p h = rw (positive_root n d) ((in_range (root_of binary64 (suc n * up d) (down d)) (root_plus binary64 _ _)).0 s e)
ordered (fin true (suc m) e) y p h = absurd (negative_under false (pos 0) m e p)
ordered (fin false (suc m) e) nan p h = absurd h
ordered (fin false (suc m) e) (inf true) p h = absurd h
ordered (fin false (suc m) e) (inf false) p h = rw (positive_root m e) ((in_range (root_of binary64 (suc m * up e) (down e)) (root_plus binary64 _ _)).1)
ordered (fin false (suc m) e) (fin true n d) p h = absurd (above_of_le (fin false (suc m) e) (fin true n d) (rw suc_above tt) h)
ordered (fin false (suc m) e) (fin false zero d) p h = absurd (above_of_le (fin false (suc m) e) (fin false zero d) (rw suc_above tt) h)
ordered (fin false (suc m) e) (fin false (suc n) d) p h =
    rw (positive_root m e, positive_root n d)
    (root_mono binary64 (suc m * up e) (down e) (suc n * up d) (down d) (down_pos e) (down_pos d) (le→cross (fin false (suc m) e) (fin false (suc n) d) (rw suc_above tt) (rw suc_above tt) h))

pub sqrt_monotone : SqrtIsMonotone
unfolding of_bits
sqrt_monotone = ordered
