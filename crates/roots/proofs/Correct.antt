-- The root of a fraction is correctly rounded, and so is squareRoot of every positive value of binary64.
-- What the laws of `Root` say of whole numbers is carried to values; a negative value is farther off than 0, and a kept number that is even has an even last bit.
use mathlib.Core.Path.{◌≡◌, refl, sym, ap, ◌∙◌}
use mathlib.Core.Logic.{inl, inr}
use mathlib.Core.Bool.{Bool, true, false, ◌&&◌}
use Prim.Native.Nat.{ℕ, zero, suc, ◌+◌, ◌-◌, ◌*◌, ◌/◌, ◌%◌, ◌^◌, ◌≤◌, ◌<◌, zero-le, compare}
use native.Mathlib.Nat.{le_trans, le_of_eq, lt_of_le_of_lt, not-le_of_lt, eq-or-lt_of_le, mul-le-mul, mul-le-mul_right, mul_assoc, mul-div_cancel, div-div-eq-div-mul, zero-mul}
use native.Mathlib.Omega.{arith}
use lib.IntN.{ℤ}
use lib.Dec.{T, eqb, leb, ltb, ltb→lt, lit<}
use lib.Pow.{pow_pos, pow-lt, shl_lt}
use lib.Ieee.{Float, nan, inf, fin, Format, binary64, prec, low, hid, up, down, size, fits, round, to_bits}
use lib.Ieee.Digits.{size-le}
use lib.Ieee.Fits.{two, down_pos, and_r, round-fits, nan-fits, inf-fits, nearest-le, kept-lt}
use lib.Ieee.Scale.{overflow, round_val, round_under}
use lib.Ieee.Order.{drop, kept}
use Rattle.roots.specs.Sqrt.{root_of, sqrt_of}
use Rattle.roots.specs.Correct.{InUnits, four_squares, NoNearer, Tie, Rounded, RootIsRounded, SqrtIsRounded}
use Rattle.roots.proofs.Spacing.{Spaced, power_split, carried, half_power, spaced}
use Rattle.roots.proofs.Nearest.{step, round_beside, round_even}
use Rattle.roots.proofs.Root.{top, bottom, root_units, root_against, root_small}

pub root_is : (f : Format) (a c : ℕ) → root_of f a c ≡ round f false (top f a c) (bottom f)
unfolding root_of
root_is f a c = refl

half_doubled : (p : ℕ) → 2 ≤ p → 2 ^ (p - 1) ≡ 2 ^ (p - 1 - 1) * 2
half_doubled p h = power_split (p - 1) 1 (omega arith)

-- ---- an even number of units, counted in the last place, has a pattern that ends in 0
even_bits : (f : Format) (r : Float) (q j : ℕ) → InUnits f r false (q * 2 ^ j) → q < 2 ^ prec f → q % 2 ≡ 0 → to_bits f r % 2 ≡ 0
unfolding to_bits
even_bits f nan q j v h z = absurd v
even_bits f (inf s) q j v h z = absurd v
even_bits f (fin s m e) q j v h z =
    let p = prec f in
    let k = size (q * 2 ^ j) - p in
    let units : m * up e * 2 ^ low f / down e ≡ q * 2 ^ j = ap (λ (x : ℕ). x / down e) v.1 ∙ mul-div_cancel (q * 2 ^ j) (down_pos e) in
    let over : k ≤ j = spare (size (q * 2 ^ j)) p j (size-le (q * 2 ^ j) (p + j) (shl_lt p j h)) in
    let split : q * 2 ^ j ≡ q * 2 ^ (j - k) * 2 ^ k = ap (λ (x : ℕ). q * x) (power_split j k over) ∙ sym (mul_assoc q (2 ^ (j - k)) (2 ^ k)) in
    let last : q * 2 ^ j / 2 ^ k ≡ q * 2 ^ (j - k) = ap (λ (x : ℕ). x / 2 ^ k) split ∙ mul-div_cancel (q * 2 ^ (j - k)) (pow_pos k) in
    rw (v.0, units, last) (sum_even k (hid f) (2 ^ (p - 1 - 1)) q (2 ^ (j - k)) (half_doubled p (two f)) z)
  where
    spare : (z p j : ℕ) → z ≤ p + j → z - p ≤ j
    spare z p j h = omega arith

    sum_even : (k H G q X : ℕ) → H ≡ G * 2 → q % 2 ≡ 0 → (0 + k * H + q * X) % 2 ≡ 0
    sum_even k H G q X e z = let d : q ≡ 2 * (q / 2) = omega arith in rw (e, d) (doubled k G (q / 2) X)
      where
        doubled : (k G Q X : ℕ) → (0 + k * (G * 2) + 2 * Q * X) % 2 ≡ 0
        doubled k G Q X = omega arith

pub kept_le : (p n c : ℕ) → kept p n c ≤ 2 ^ p
kept_le p n c =
    let k = drop p n c in
    let u = c * 2 ^ k in
    le_trans (nearest-le (n / u) (compare (n % u * 2) u)) (rw div-div-eq-div-mul at (kept-lt p (n / c)))

-- `round` keeps a number of at most prec digits, or 2 ^ prec, which is as many units as half of it and one place more
kept_even : (f : Format) (r : Float) (n c : ℕ) → InUnits f r false (kept (prec f) n c * 2 ^ drop (prec f) n c) → kept (prec f) n c % 2 ≡ 0 → to_bits f r % 2 ≡ 0
kept_even f r n c v z =
    let q = kept (prec f) n c in
    let j = drop (prec f) n c in
    elim (eq-or-lt_of_le (kept_le (prec f) n c)) [
      | inl e ↦ even_bits f r (2 ^ (prec f - 1)) (suc j) (rw (ap (λ (x : ℕ). x * 2 ^ j) e ∙ carried f j) at v) (half_power f) (power_even (prec f) (two f))
      | inr h ↦ even_bits f r q j v h z
    ]
  where
    power_even : (p : ℕ) → 2 ≤ p → 2 ^ (p - 1) % 2 ≡ 0
    power_even p h = doubled (2 ^ (p - 1)) (2 ^ (p - 1 - 1)) (half_doubled p h)
      where
        doubled : (x y : ℕ) → x ≡ y * 2 → x % 2 ≡ 0
        doubled x y e = omega arith

-- ---- nearest among all values
no_nearer : (f : Format) (a c : ℕ) (s : Bool) (Y : ℕ) → 0 < c → Spaced f Y → NoNearer f a c (root_units f a c) s Y
unfolding NoNearer
no_nearer f a c false Y C g = let h = root_against f a c Y C g in (h.up, h.down)
no_nearer f a c true Y C g = by_size (root_units f a c) (root_against f a c 0 C none).down
  where
    none : Spaced f 0
    none k h = absurd (not-le_of_lt (pow_pos (prec f - 1 + k)) h)

    less : (R : ℕ) → R - Y ≤ R + 0
    less R = omega arith

    by_size : (R : ℕ) → (0 < R → (R + 0) * (R + 0) * c ≤ four_squares f a) → (R - Y) * (R - Y) * c ≤ four_squares f a
    by_size zero h = le_trans (mul-le-mul_right c (mul-le-mul (nothing Y) (nothing Y))) (le_trans (le_of_eq (zero-mul c)) zero-le)
      where
        nothing : (Y : ℕ) → 0 - Y ≤ 0
        nothing Y = omega arith
    by_size (suc R) h = le_trans (mul-le-mul_right c (mul-le-mul (less (suc R)) (less (suc R)))) (h (omega arith))

-- where the root is a midpoint, `round` has just half of its last step left
pub root_half : (f : Format) (a c Y : ℕ) → 0 < c → Spaced f Y → Tie f a c (root_units f a c) Y → let n = top f a c * 2 ^ low f in n % step f n (bottom f) * 2 ≡ step f n (bottom f)
root_half f a c Y C g t = (round_beside f (top f a c) (bottom f) Y (pow_pos (suc (suc (low f)))) g).tie t.0 ((root_against f a c Y C g).tie t.1)

-- ---- a root below the overflow
pub root_counted : (f : Format) (a c : ℕ) → root_units f a c < overflow f → InUnits f (root_of f a c) false (root_units f a c)
root_counted f a c small = rw (root_is f a c) (round_val f (top f a c) (bottom f) small)

rounded_below : (f : Format) (a c : ℕ) → 0 < c → root_units f a c < overflow f → Rounded f a c (root_of f a c)
rounded_below f a c C small = record {
  held = rw (root_is f a c) (round-fits f false (top f a c) (bottom f));
  count = root_units f a c;
  counted = root_counted f a c small;
  nearest = λ y s Y h v. no_nearer f a c s Y C (spaced f y s Y h v);
  even = λ y Y h v t. kept_even f (root_of f a c) (top f a c * 2 ^ low f) (bottom f) (root_counted f a c small) (round_even f (top f a c * 2 ^ low f) (bottom f) (root_half f a c Y C (spaced f y false Y h v) t));
}

pub root_rounded : RootIsRounded
root_rounded f a c C h = rounded_below f a c C (round_under f (top f a c) (bottom f) (rw root_is at h))

-- A value of binary64 is below 4 ^ 512, and so its root is at most 2 ^ 512.
pub sqrt_below : (m : ℕ) (e : ℤ) → T (fits binary64 (fin false (suc m) e)) → root_units binary64 (suc m * up e) (down e) < overflow binary64
unfolding fits
sqrt_below m e h =
    let A = eqb (suc m % 2) 1 in
    let B = ltb (suc m) (2 ^ 53) in
    let C = leb (down e) (2 ^ low binary64) in
    let D = ltb (suc m * up e) (2 ^ 1024 * down e) in
    let limit : suc m * up e < 2 ^ 1024 * down e = ltb→lt (suc m * up e) (2 ^ 1024 * down e) (and_r (A && B && C) D h) in
    lt_of_le_of_lt (root_small binary64 (suc m * up e) (down e) 512 (down_pos e) limit) (pow-lt {i = 1586} {j = 2098} (lit< tt))

-- What `sqrt_of` says of a number above 0. Where a proof cites this and does not unfold `sqrt_of`, it falls at once if the definition is another.
pub positive_root : (m : ℕ) (e : ℤ) → sqrt_of (fin false (suc m) e) ≡ root_of binary64 (suc m * up e) (down e)
unfolding sqrt_of
positive_root m e = refl

pub sqrt_rounded : SqrtIsRounded
unfolding sqrt_of
sqrt_rounded nan h p = absurd p
sqrt_rounded (inf s) h p = absurd p
sqrt_rounded (fin true m e) h p = absurd p
sqrt_rounded (fin false zero e) h p = absurd p
sqrt_rounded (fin false (suc m) e) h p = rounded_below binary64 (suc m * up e) (down e) (down_pos e) (sqrt_below m e h)

-- the root of a value of the format is one
pub sqrt_fits : (x : Float) → T (fits binary64 x) → T (fits binary64 (sqrt_of x))
unfolding sqrt_of
sqrt_fits nan h = nan-fits binary64
sqrt_fits (inf true) h = nan-fits binary64
sqrt_fits (inf false) h = inf-fits binary64 false
sqrt_fits (fin s zero e) h = h
sqrt_fits (fin true (suc m) e) h = nan-fits binary64
sqrt_fits (fin false (suc m) e) h = rw (root_is binary64 (suc m * up e) (down e)) (round-fits binary64 false _ _)
