-- A value of binary64 is what its own fraction rounds to: rounding changes no number that the format holds, and what fits is written in one way only.
use mathlib.Core.Path.{◌≡◌, refl, sym, ap, ◌∙◌}
use mathlib.Core.Bool.{Bool, ◌&&◌}
use Prim.Native.Nat.{ℕ, zero, suc, ◌*◌, ◌/◌, ◌%◌, ◌^◌, ◌<◌}
use native.Mathlib.Nat.{le_of_eq, lt_of_lt_of_le, lt_of_le_of_lt, mul-one, one-mul, mul_right_comm, mul-lt-mul_of_pos_right, lt_of_mul-lt-mul_right, pow-succ'}
use native.Mathlib.Omega.{arith}
use lib.Dec.{T, eqb, leb, ltb, ltb→lt, eqb→eq}
use lib.IntN.{ℤ, pos, negsuc}
use lib.Pow.{pow_pos}
use lib.Ieee.{Float, nan, inf, fin, binary64, low, up, down, fits, of_bits, to_bits, round}
use lib.Ieee.Fits.{down_pos, and_r, round-fits}
use lib.Ieee.Bits.{of_bits-to_bits}
use lib.Ieee.Exact.{HasValue, round_exact}
use lib.Ieee.Nearest.{div_same}
use Rattle.roots.proofs.Spacing.{written}

pub kept : (s : Bool) (k : ℕ) (d : ℤ) → T (fits binary64 (fin s (suc k) d)) → HasValue (round binary64 s (suc k * up d) (down d)) s (suc k * up d) (down d)
unfolding fits
kept s k d h =
    let w = written binary64 s k d h in
    let j = w.1.0 in
    let A = eqb (suc k % 2) 1 in
    let B = ltb (suc k) (2 ^ 53) in
    let C = leb (down d) (2 ^ low binary64) in
    let D = ltb (suc k * up d) (2 ^ 1024 * down d) in
    let limit : suc k * up d < 2 ^ 1024 * down d = ltb→lt (suc k * up d) (2 ^ 1024 * down d) (and_r (A && B && C) D h) in
    let grown : suc k * 2 ^ j * down d < 2 ^ 1024 * 2 ^ low binary64 * down d =
    lt_of_le_of_lt (le_of_eq (sym w.1.1)) (lt_of_lt_of_le (mul-lt-mul_of_pos_right limit (pow_pos (low binary64))) (le_of_eq (mul_right_comm (2 ^ 1024) (down d) (2 ^ low binary64)))) in
    round_exact binary64 s (suc k * up d) (down d) (suc k) j (down_pos d) w.0 (lt_of_mul-lt-mul_right (down d) grown) w.1.1

-- two values that fit and are the same number have the same bits
same_value : (r : Float) (s : Bool) (m : ℕ) (d : ℤ) → T (fits binary64 r) → T (fits binary64 (fin s m d)) → HasValue r s (m * up d) (down d) → r ≡ fin s m d
unfolding to_bits
same_value nan s m d f g v = absurd v
same_value (inf t) s m d f g v = absurd v
same_value (fin t n e) s m d f g v =
    let l = 2 ^ low binary64 in
    let level : n * up e * l / down e ≡ m * up d * l / down d = div_same (n * up e * l) (down e) (m * up d * l) (down d) (down_pos e) (down_pos d) (mul_right_comm (n * up e) l (down d) ∙ ap (λ (x : ℕ). x * l) v.1 ∙ mul_right_comm (m * up d) (down e) l) in
    let bits : to_bits binary64 (fin t n e) ≡ to_bits binary64 (fin s m d) = rw (v.0, level) refl in
    sym (of_bits-to_bits binary64 (fin t n e) f) ∙ ap (of_bits binary64) bits ∙ of_bits-to_bits binary64 (fin s m d) g

-- ---- zeros
zero_exponent : (e : ℤ) → up e * down e ≡ 1 → e ≡ pos 0
zero_exponent (pos zero) h = refl
zero_exponent (pos (suc a)) h = absurd (omega (arith, mul-one (2 ^ suc a), pow-succ' 2 a, h))
zero_exponent (negsuc a) h = absurd (omega (arith, one-mul (2 ^ suc a), pow-succ' 2 a, h))

pub zero_is : (s : Bool) (e : ℤ) → T (fits binary64 (fin s 0 e)) → fin s 0 e ≡ fin s 0 (pos 0)
unfolding fits
zero_is s e h = ap (fin s 0) (zero_exponent e (eqb→eq (up e * down e) 1 h))

pub own : (s : Bool) (k : ℕ) (d : ℤ) → T (fits binary64 (fin s (suc k) d)) → round binary64 s (suc k * up d) (down d) ≡ fin s (suc k) d
own s k d h = same_value (round binary64 s (suc k * up d) (down d)) s (suc k) d (round-fits binary64 s _ _) h (kept s k d h)
