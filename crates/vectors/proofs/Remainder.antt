-- The remainder by TWO_PI as one of whole numbers. Within one turn an angle is its own remainder. Any other finite angle is a whole number S * 2 ^ k of places of 2 ^ -50 each, as TWO_PI is.
-- So the remainder is that of S * 2 ^ k by TWO_PI's own number of places, and doubling finds it.
use mathlib.Core.Path.{◌≡◌, refl, sym, ap, ◌∙◌}
use mathlib.Core.Bool.{Bool, true, false, not, ◌&&◌, cond}
use Prim.Native.Nat.{ℕ, zero, suc, ◌+◌, ◌-◌, ◌*◌, ◌/◌, ◌%◌, ◌^◌, ◌≤◌, ◌<◌}
use native.Mathlib.Nat.{le_trans, le_of_eq, lt_of_not-le, mul-pos, mul-le-mul_left, mul-le-mul_right, mul-lt-mul_of_pos_right, le_of_mul-le-mul_right, eq_of_mul-eq-mul_right, mod-lt, mod-eq_of_lt, add_comm, add-mod, mul-add-mod_self_right, div-add-mod', zero-mul}
use native.Mathlib.Decide.{dec_le}
use native.Mathlib.Omega.{arith}
use lib.Dec.{T, leb, ltb, eqb, lt→ltb}
use lib.IntN.{ℤ, pos, negsuc}
use lib.Pow.{pow_pos, pow-add, pow_mono}
use lib.Ieee.{Float, nan, inf, fin, binary64, up, down, odd, round, fits, of_bits, of_fields, of_int, is_nan, neg, rem, div, lt}
use lib.Ieee.Fits.{down_pos}
use lib.Ieee.Exact.{HasValue, odd_sign}
use lib.Ieee.Back.{round_whole}
use lib.Ieee.Scale.{round_same}
use borrow.Author.Tests.{ltb-true, leb-true, leb-false}
use Rattle.std.specs.Float.{float_is_finite}
use Rattle.vectors.specs.Number.{◌⊘◌}
use Rattle.vectors.specs.Finite.{is_finite}
use Rattle.vectors.specs.Angle.{two_pi}
use Rattle.vectors.proofs.Finiteness.{zero_rounded}
use Rattle.vectors.proofs.OwnFraction.{own, zero_is}

-- TWO_PI is turn places, of which there are 2 ^ 50 in 1.
abbrev pub turn : ℕ
turn = 7074237752028440

two_pi_is : two_pi ≡ fin false 884279719003555 (negsuc 46)
unfolding of_bits
two_pi_is = refl

-- ---- remainders of whole numbers
scaled_mod : (a b c : ℕ) → 0 < b → 0 < c → a * c % (b * c) ≡ a % b * c
scaled_mod a b c B C =
    let split : a * c ≡ a / b * (b * c) + a % b * c = shared (a / b) (a % b) (div-add-mod' a b) in
    rw split (mul-add-mod_self_right (a / b) (b * c) (a % b * c) ∙ mod-eq_of_lt (mul-lt-mul_of_pos_right (mod-lt a B) C))
  where
    shared : (q r : ℕ) → q * b + r ≡ a → a * c ≡ q * (b * c) + r * c
    shared q r e = rw (← e) (omega arith)

pub doubled : (s k r : ℕ) → r ≡ s * 2 ^ k % turn → r * 2 % turn ≡ s * 2 ^ (k + 1) % turn
doubled s k r e =
    let twice : s * 2 ^ (k + 1) ≡ s * 2 ^ k + s * 2 ^ k = rw (pow-add 2 k 1) (omega arith) in
    let both : r * 2 ≡ r + r = omega arith in
    rw (both, twice, e) (sym (add-mod (s * 2 ^ k) (s * 2 ^ k) turn))

-- ---- within one turn
abbrev pub within_turn : Float → Bool
within_turn x = lt x two_pi && lt (neg two_pi) x

-- a number below another, as the tests see it
under : {a b : ℕ} → a < b → ltb a b ≡ true
under {a} {b} h = known (ltb a b) (lt→ltb a b h)
  where
    known : (t : Bool) → T t → t ≡ true
    known true h = refl
    known false h = absurd h

within_fin : (s : Bool) (m : ℕ) (e : ℤ) → m * up e * 2 ^ 47 < 884279719003555 * 1 * down e → lt (fin s m e) (fin false 884279719003555 (negsuc 46)) && lt (neg (fin false 884279719003555 (negsuc 46))) (fin s m e) ≡ true
unfolding lt neg
within_fin false m e h =
    let d : 0 < 884279719003555 * 1 * down e + m * up e * 2 ^ 47 = omega (arith, down_pos e) in
    rw (under h, under d) refl
within_fin true m e h =
    let d : 0 < m * up e * 2 ^ 47 + 884279719003555 * 1 * down e = omega (arith, down_pos e) in
    rw (under d, under h) refl

below_turn : (s : Bool) (m : ℕ) (e : ℤ) → lt (fin s m e) (fin false 884279719003555 (negsuc 46)) && lt (neg (fin false 884279719003555 (negsuc 46))) (fin s m e) ≡ true → m * up e * 2 ^ 47 < 884279719003555 * 1 * down e
unfolding lt neg
below_turn false m e h = ltb-true _ _ (left _ _ h)
  where
    left : (a b : Bool) → a && b ≡ true → a ≡ true
    left true b h = refl
    left false b h = h
below_turn true m e h = ltb-true _ _ (right _ _ h)
  where
    right : (a b : Bool) → a && b ≡ true → b ≡ true
    right true b h = h
    right false b h = absurd (cc)

rem_below : (s : Bool) (m : ℕ) (e : ℤ) → T (fits binary64 (fin s m e)) → m * up e * 2 ^ 47 < 884279719003555 * 1 * down e → rem binary64 (fin s m e) (fin false 884279719003555 (negsuc 46)) ≡ fin s m e
unfolding rem
rem_below s m e f h =
    rw (mod-eq_of_lt h) (round_same binary64 s (m * up e * 2 ^ 47) (down e * 2 ^ 47) (m * up e) (down e) (mul-pos (down_pos e) (pow_pos 47)) (down_pos e) (omega arith) ∙ itself s m e f)
  where
    itself : (s : Bool) (m : ℕ) (e : ℤ) → T (fits binary64 (fin s m e)) → round binary64 s (m * up e) (down e) ≡ fin s m e
    itself s zero e f = rw (zero-mul (up e)) (zero_rounded s (down e) (down_pos e) ∙ sym (zero_is s e f))
    itself s (suc m) e f = own s m e f

pub rem_within : (x : Float) → T (fits binary64 x) → within_turn x ≡ true → rem binary64 x two_pi ≡ x
unfolding lt neg rem
rem_within x f h = rw two_pi_is (of_form x f (rw two_pi_is at h))
  where
    of_form : (x : Float) → T (fits binary64 x) → lt x (fin false 884279719003555 (negsuc 46)) && lt (neg (fin false 884279719003555 (negsuc 46))) x ≡ true → rem binary64 x (fin false 884279719003555 (negsuc 46)) ≡ x
    of_form nan f h = absurd (cc)
    of_form (inf false) f h = absurd (cc)
    of_form (inf true) f h = absurd (cc)
    of_form (fin s m e) f h = rem_below s m e f (below_turn s m e h)

-- ---- no finite number
pub rem_other : (x : Float) → is_finite x ≡ false → of_bits binary64 0x7ff8_0000_0000_0000 ≡ rem binary64 x two_pi
unfolding float_is_finite rem of_bits
rem_other nan h = refl
rem_other (inf s) h = refl
rem_other (fin s m e) h = absurd (cc)

-- ---- beyond one turn: S * 2 ^ k places with the sign s
pub record Places (x : Float) (s : Bool) (S k : ℕ) : Type 0 where
  pub significand : ℕ
  pub exponent : ℤ
  pub form : x ≡ fin s significand exponent
  pub counted : significand * up exponent * 2 ^ 50 ≡ S * 2 ^ k * down exponent

-- r places, as the code makes a number of them
value_of : (s : Bool) (m : ℕ) (e : ℤ) (S k r : ℕ) → m * up e * 2 ^ 50 ≡ S * 2 ^ k * down e → r ≡ S * 2 ^ k % turn
    → (p : ℕ) (q : ℤ) → p * up q * 1 ≡ r * down q → round binary64 s (m * up e * 2 ^ 47 % (884279719003555 * 1 * down e)) (down e * 2 ^ 47) ≡ round binary64 s (p * up q * 1) (1 * 2 ^ 50 * down q)
value_of s m e S k r c i p q v =
    let D = down e in
    let X = m * up e * 2 ^ 47 in
    let A = X % (884279719003555 * 1 * D) in
    let scaled : X * 8 % (884279719003555 * 1 * D * 8) ≡ A * 8 = scaled_mod X (884279719003555 * 1 * D) 8 (omega (arith, down_pos e)) (omega arith) in
    let places : X * 8 ≡ S * 2 ^ k * D = omega (arith, c) in
    let turns : 884279719003555 * 1 * D * 8 ≡ turn * D = omega arith in
    let whole : S * 2 ^ k * D % (turn * D) ≡ S * 2 ^ k % turn * D = scaled_mod (S * 2 ^ k) turn D (omega arith) (down_pos e) in
    let eight : A * 8 ≡ r * D = sym scaled ∙ rw (places, turns) whole ∙ ap (λ (n : ℕ). n * D) (sym i) in
    round_same binary64 s A (D * 2 ^ 47) (p * up q * 1) (1 * 2 ^ 50 * down q) (mul-pos (down_pos e) (pow_pos 47)) (omega (arith, down_pos q)) (crossed A D r (down q) (p * up q * 1) eight v)
  where
    crossed : (A D r d C : ℕ) → A * 8 ≡ r * D → C ≡ r * d → A * (1 * 2 ^ 50 * d) ≡ C * (D * 2 ^ 47)
    crossed A D r d C h v = let g = ap (λ (n : ℕ). n * (d * 2 ^ 47)) h in rw v (omega (arith, g))

two_to_fifty : of_bits binary64 0x4310_0000_0000_0000 ≡ fin false 1 (pos 50)
unfolding of_bits
two_to_fifty = refl

pub rem_plus : (x : Float) (S k r : ℕ) → Places x false S k → r ≡ S * 2 ^ k % turn → of_int binary64 (pos r) ⊘ of_bits binary64 0x4310_0000_0000_0000 ≡ rem binary64 x two_pi
unfolding rem div of_int
rem_plus x S k r a i = rw (two_pi_is, a.form, two_to_fifty) (of_form (round binary64 false r 1) (round_whole binary64 false r (small r i)))
  where
    small : (r : ℕ) → r ≡ S * 2 ^ k % turn → r ≤ 2 ^ 53
    small r i = omega (arith, mod-lt (S * 2 ^ k) {m = turn} (omega arith), i)

    of_form : (w : Float) → HasValue w false r 1 → div binary64 w (fin false 1 (pos 50)) ≡ rem binary64 (fin false a.significand a.exponent) (fin false 884279719003555 (negsuc 46))
    of_form nan v = absurd v
    of_form (inf t) v = absurd v
    of_form (fin t p q) v = rw v.0 (sym (value_of false a.significand a.exponent S k r a.counted i p q v.1))

pub rem_minus : (x : Float) (S k r : ℕ) → Places x true S k → r ≡ S * 2 ^ k % turn → neg (of_int binary64 (pos r)) ⊘ of_bits binary64 0x4310_0000_0000_0000 ≡ rem binary64 x two_pi
unfolding rem div of_int neg
rem_minus x S k r a i = rw (two_pi_is, a.form, two_to_fifty) (of_form (round binary64 false r 1) (round_whole binary64 false r (small r i)))
  where
    small : (r : ℕ) → r ≡ S * 2 ^ k % turn → r ≤ 2 ^ 53
    small r i = omega (arith, mod-lt (S * 2 ^ k) {m = turn} (omega arith), i)

    of_form : (w : Float) → HasValue w false r 1 → div binary64 (neg w) (fin false 1 (pos 50)) ≡ rem binary64 (fin true a.significand a.exponent) (fin false 884279719003555 (negsuc 46))
    of_form nan v = absurd v
    of_form (inf t) v = absurd v
    of_form (fin t p q) v = rw v.0 (sym (value_of true a.significand a.exponent S k r a.counted i p q v.1))

-- ---- the bits of such an angle: its field is 1025 or more, and counts the doublings
pub record Fields (x : Float) (b : ℕ) : Type 0 where
  pub large : 1025 ≤ b % 2 ^ 63 / 2 ^ 52
  pub places : Places x (leb (2 ^ 63) b) (b % 2 ^ 52 + 2 ^ 52) (b % 2 ^ 63 / 2 ^ 52 - 1025)

from_value : (o : Float) (s : Bool) (S y : ℕ) → S < 2 ^ 53 → HasValue o s (S * 2 ^ y) (2 ^ 1074) → within_turn o ≡ false → (1024 ≤ y) × Places o s S (y - 1024)
from_value nan s S y l v w = absurd v
from_value (inf t) s S y l v w = absurd v
from_value (fin t m e) s S y l v w =
    let beyond : 1024 ≤ y = elim (dec_le 1024 y) [ yes g ↦ g | no g ↦ absurd (inside (lt_of_not-le g)) ] in
    (beyond, record { significand = m; exponent = e; form = ap (λ (c : Bool). fin c m e) v.0; counted = lowered beyond })
  where
    inside : y < 1024 → ⊥
    inside g =
        let c : 2 ^ y ≤ 2 ^ 1023 = pow_mono {i = y} {j = 1023} (omega arith) in
        let s' : S ≤ 2 ^ 53 = omega arith in
        let h : S * 2 ^ y ≤ 2 ^ 53 * 2 ^ 1023 = le_trans (mul-le-mul_right (2 ^ y) s') (mul-le-mul_left (2 ^ 53) c) in
        let k : m * up e * 2 ^ 1074 ≤ 4 * down e * 2 ^ 1074 = le_trans (le_of_eq v.1) (le_trans (mul-le-mul_right (down e) h) (le_of_eq (four (down e)))) in
        let n : m * up e ≤ 4 * down e = le_of_mul-le-mul_right k (pow_pos 1074) in
        let f : m * up e * 2 ^ 47 < 884279719003555 * 1 * down e = omega (arith, n, down_pos e) in
        let z : true ≡ false = sym (rw two_pi_is (within_fin t m e f)) ∙ w in
        cc
      where
        four : (d : ℕ) → 2 ^ 53 * 2 ^ 1023 * d ≡ 4 * d * 2 ^ 1074
        four d = omega arith

    lowered : 1024 ≤ y → m * up e * 2 ^ 50 ≡ S * 2 ^ (y - 1024) * down e
    lowered g =
        let split : 2 ^ y ≡ 2 ^ (y - 1024) * 2 ^ 1024 = ap (λ (n : ℕ). 2 ^ n) (omega arith) ∙ pow-add 2 (y - 1024) 1024 in
        eq_of_mul-eq-mul_right (2 ^ 1024) (pow_pos 1024) _ _ (regrouped (m * up e) ∙ v.1 ∙ ap (λ (p : ℕ). S * p * down e) split ∙ moved S (2 ^ (y - 1024)) (down e))
      where
        regrouped : (n : ℕ) → n * 2 ^ 50 * 2 ^ 1024 ≡ n * 2 ^ 1074
        regrouped n = omega arith

        moved : (a p d : ℕ) → a * (p * 2 ^ 1024) * d ≡ a * p * d * 2 ^ 1024
        moved a p d = omega arith

-- a field of 0 has no leading digit, one of 2047 is of no finite number
from_fields : (s : Bool) (f t : ℕ) → t < 2 ^ 52 → is_finite (of_fields binary64 s f t) ≡ true → within_turn (of_fields binary64 s f t) ≡ false → (1025 ≤ f) × Places (of_fields binary64 s f t) s (t + 2 ^ 52) (f - 1025)
unfolding of_fields float_is_finite
from_fields s zero t l g w =
    let none = from_value (odd 53 s t 0 1074) s t 0 (omega arith) (odd_sign 53 s t 0 1074) w in
    absurd (omega (arith, none.0))
from_fields s (suc y) t l g w = by_test (eqb (suc y) 2047) (eqb t 0) refl g w
  where
    turned : (x : Float) → x ≡ odd 53 s (2 ^ 52 + t) y 1074 → within_turn x ≡ false → (1025 ≤ suc y) × Places x s (t + 2 ^ 52) (suc y - 1025)
    turned x e v =
        let a = from_value x s (t + 2 ^ 52) y (omega arith) (rw (e, add_comm t (2 ^ 52)) (odd_sign 53 s (2 ^ 52 + t) y 1074)) v in
        let k : suc y - 1025 ≡ y - 1024 = omega arith in
        (omega (arith, a.0), rw k a.1)

    by_test : (c d : Bool) → eqb (suc y) 2047 ≡ c → is_finite (cond c (cond d (inf s) nan) (odd 53 s (2 ^ 52 + t) y 1074)) ≡ true → within_turn (cond c (cond d (inf s) nan) (odd 53 s (2 ^ 52 + t) y 1074)) ≡ false
        → (1025 ≤ suc y) × Places (cond c (cond d (inf s) nan) (odd 53 s (2 ^ 52 + t) y 1074)) s (t + 2 ^ 52) (suc y - 1025)
    by_test true true e f v = absurd (cc)
    by_test true false e f v = absurd (cc)
    by_test false d e f v = turned _ refl v

pub fields : (x : Float) (b : ℕ) → x ≡ of_bits binary64 b → is_finite x ≡ true → within_turn x ≡ false → Fields x b
unfolding of_bits
fields x b e f w =
    let a = from_fields (leb (2 ^ 63) b) (b % 2 ^ 63 / 2 ^ 52) (b % 2 ^ 52) (mod-lt b (pow_pos 52)) (rw e at f) (rw e at w) in
    record { large = a.0; places = rw e a.1 }

-- ---- so the code's answer is the remainder, by the sign's bit
no_sign : {b : ℕ} → b < 2 ^ 63 → leb (2 ^ 63) b ≡ false
no_sign {b} h = known (leb (2 ^ 63) b) refl
  where
    known : (t : Bool) → leb (2 ^ 63) b ≡ t → t ≡ false
    known true e = absurd (omega (arith, leb-true (2 ^ 63) b e))
    known false e = refl

a_sign : {b : ℕ} → 2 ^ 63 ≤ b → leb (2 ^ 63) b ≡ true
a_sign {b} h = known (leb (2 ^ 63) b) refl
  where
    known : (t : Bool) → leb (2 ^ 63) b ≡ t → t ≡ true
    known true e = refl
    known false e = absurd (omega (arith, leb-false (2 ^ 63) b e))

-- s places of the significand, doubled as often as the field says, less whole turns
abbrev Left : ℕ → ℕ → Type 0
Left b r = r ≡ (b % 2 ^ 52 + 2 ^ 52) * 2 ^ (b % 2 ^ 63 / 2 ^ 52 - 1025) % turn

pub rem_by_bits : (x : Float) (b r : ℕ) → x ≡ of_bits binary64 b → is_finite x ≡ true → within_turn x ≡ false → b < 2 ^ 63 → Left b r → of_int binary64 (pos r) ⊘ of_bits binary64 0x4310_0000_0000_0000 ≡ rem binary64 x two_pi
rem_by_bits x b r e f w h i = rem_plus x _ _ r (rw (no_sign h) at ((fields x b e f w).places)) i

pub rem_by_signed_bits : (x : Float) (b r : ℕ) → x ≡ of_bits binary64 b → is_finite x ≡ true → within_turn x ≡ false → 2 ^ 63 ≤ b → Left b r → neg (of_int binary64 (pos r)) ⊘ of_bits binary64 0x4310_0000_0000_0000 ≡ rem binary64 x two_pi
rem_by_signed_bits x b r e f w h i = rem_minus x _ _ r (rw (a_sign h) at ((fields x b e f w).places)) i

pub finite_number : (x : Float) → is_finite x ≡ true → T (not (is_nan x))
unfolding float_is_finite is_nan
finite_number nan f = absurd (cc)
finite_number (inf s) f = tt
finite_number (fin s m e) f = tt
