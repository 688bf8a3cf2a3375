-- The whole number nearest to a root, beside an exponent, is the bit pattern of the rounded root.
-- No other value of the format is as near as q * 2 ^ h units: its spacing keeps it at least a step away, and the midpoint then lies beyond the root. So `root_of` comes to that value, and its pattern is read off.
use mathlib.Core.Path.{◌≡◌, refl, sym, ap, ◌∙◌}
use mathlib.Core.Logic.{inl, inr}
use mathlib.Core.Bool.{true, false, not, true≢false}
use Prim.Native.Nat.{ℕ, zero, suc, ◌+◌, ◌-◌, ◌*◌, ◌/◌, ◌^◌, ◌≤◌, ◌<◌}
use native.Mathlib.Nat.{le_refl, le_trans, le_of_eq, le_of_lt, lt_of_lt_of_le, lt_of_le_of_lt, lt_of_not-le, not-le_of_lt, le_antisymm, le_of_suc-le-suc, eq-or-lt_of_le, lt_irrefl, add-mul, add-le-add_iff_right, zero-add, zero-mul, mul-div_cancel, le_of_mul-le-mul_right, mul-le-mul, mul-le-mul_right, mul-lt-mul_of_pos_right, mul-pos}
use native.Mathlib.Decide.{dec_le}
use native.Mathlib.Omega.{arith}
use lib.Dec.{T}
use lib.Pow.{pow_pos, pow-add, pow-lt, pow_mono, shl_lt}
use lib.Ieee.{Float, nan, inf, fin, Format, binary64, prec, emax, low, hid, up, down, size, to_bits, of_bits, nan_bits, is_nan}
use lib.Ieee.Digits.{size-lt, size-le}
use lib.Ieee.Fits.{two, two-le_pos, down_pos, round-fits}
use lib.Ieee.Bits.{of_bits-to_bits, nan_bits_is}
use lib.Ieee.Scale.{overflow}
use lib.Ieee.Order.{drop, kept}
use Rattle.roots.specs.Sqrt.{root_of, sqrt_of}
use Rattle.roots.specs.Correct.{InUnits, four_squares}
use Rattle.roots.specs.Steps.{NearestRoot, RootBits}
use Rattle.roots.proofs.WholeRoot.{four_pow}
use Rattle.roots.proofs.Spacing.{power_split, few_spaced, carried, half_power}
use Rattle.roots.proofs.Root.{square_lt, top, bottom, root_units, root_against}
use Rattle.roots.proofs.Digit.{reached, bounded}
use Rattle.roots.proofs.Correct.{root_is, kept_le, root_counted}

cancel : (a b P : ℕ) → a * P < b * P → a < b
cancel a b P h = lt_of_not-le λ (g : b ≤ a). not-le_of_lt h (mul-le-mul_right P g)

-- ---- R and q * P units, where R is a multiple of P from B * P on, and the root of n * P * P lies on R's side of the midpoint
module _ (n q P R B : ℕ) (Pp : 0 < P) (near : NearestRoot n q) (Bq : B ≤ q) (Bn : B * B ≤ n) (multiple : B * P ≤ R → R / P * P ≡ R)
    (up : R < q * P → 4 * n * (P * P) ≤ (R + q * P) * (R + q * P)) (down : q * P < R → (R + q * P) * (R + q * P) ≤ 4 * n * (P * P)) where
  squared : (M : ℕ) → M * P * (M * P) ≡ M * M * (P * P)
  squared M = regrouped M P
    where
      regrouped : (M P : ℕ) → M * P * (M * P) ≡ M * M * (P * P)
      regrouped M P = omega arith

  -- M halves of P, or fewer, are below the root
  lower : (M : ℕ) → M * M < 4 * n → R + q * P ≤ M * P → (R + q * P) * (R + q * P) < 4 * n * (P * P)
  lower M m h = lt_of_le_of_lt (mul-le-mul h h) (lt_of_le_of_lt (le_of_eq (squared M)) (mul-lt-mul_of_pos_right m (mul-pos Pp Pp)))

  -- one half of P below q of them
  below_q : 0 < q → (2 * q - 1) * (2 * q - 1) < 4 * n
  below_q h = by_size q h near.above
    where
      by_size : (q : ℕ) → 0 < q → 4 * (q * q) + 1 < 4 * n + 4 * q → (2 * q - 1) * (2 * q - 1) < 4 * n
      by_size zero h a = absurd (lt_irrefl 0 h)
      by_size (suc q) h a = let d : 2 * suc q - 1 ≡ 2 * q + 1 = omega arith in rw d (squares q a)
        where
          squares : (q : ℕ) → 4 * (suc q * suc q) + 1 < 4 * n + 4 * suc q → (2 * q + 1) * (2 * q + 1) < 4 * n
          squares q a = omega arith

  -- z steps of P, with z below q
  steps_below : (z : ℕ) → z < q → R ≤ z * P → (R + q * P) * (R + q * P) < 4 * n * (P * P)
  steps_below z h g = lower (2 * q - 1) (below_q (pos h)) (le_trans (sum g) (le_trans (le_of_eq (sym (add-mul z q P))) (mul-le-mul_right P (halves h))))
    where
      pos : z < q → 0 < q
      pos h = omega arith

      sum : R ≤ z * P → R + q * P ≤ z * P + q * P
      sum g = (add-le-add_iff_right (q * P)).1 g

      halves : z < q → z + q ≤ 2 * q - 1
      halves h = omega arith

  not_less : R < q * P → ⊥
  not_less g = not-le_of_lt (elim (dec_le (B * P) R) [
    | yes b ↦ steps_below (R / P) (cancel (R / P) q P (lt_of_le_of_lt (le_of_eq (multiple b)) g)) (le_of_eq (sym (multiple b)))
    | no b ↦ elim (eq-or-lt_of_le Bq) [
      | inl e ↦ lt_of_lt_of_le (square_lt (twice e (lt_of_not-le b))) (le_trans (le_of_eq (squared (2 * B))) (mul-le-mul_right (P * P) (four Bn)))
      | inr l ↦ steps_below B l (le_of_lt (lt_of_not-le b))
    ]
  ]) (up g)
    where
      twice : B ≡ q → R < B * P → R + q * P < 2 * B * P
      twice e h = rw (← e) (doubled B P h)
        where
          doubled : (B P : ℕ) → R < B * P → R + B * P < 2 * B * P
          doubled B P h = omega arith

      four : B * B ≤ n → 2 * B * (2 * B) ≤ 4 * n
      four h = omega arith

  not_more : q * P < R → ⊥
  not_more g =
      let z = R / P in
      let is : z * P ≡ R = multiple (le_trans (mul-le-mul_right P Bq) (le_of_lt g)) in
      let beyond : (2 * q + 1) * P ≤ R + q * P = le_trans (mul-le-mul_right P (halves (cancel q z P (lt_of_lt_of_le g (le_of_eq (sym is)))))) (le_of_eq (add-mul z q P ∙ ap (λ (x : ℕ). x + q * P) is)) in
      not-le_of_lt (lt_of_lt_of_le (mul-lt-mul_of_pos_right near.below (mul-pos Pp Pp)) (le_trans (le_of_eq (sym (squared (2 * q + 1)))) (mul-le-mul beyond beyond))) (down g)
    where
      halves : {z : ℕ} → q < z → 2 * q + 1 ≤ z + q
      halves h = omega arith

  pub units_are : R ≡ q * P
  units_are = le_antisymm (not_above not_more) (not_above not_less)
    where
      not_above : {x y : ℕ} → (y < x → ⊥) → x ≤ y
      not_above h = le_of_suc-le-suc (lt_of_not-le h)

-- ---- the root of v units, where v * 2 ^ low is n * 4 ^ h
root_units_lem : (f : Format) (a c v n q h : ℕ) → 0 < c → a * 2 ^ low f ≡ v * c → v * 2 ^ low f ≡ n * 4 ^ h → NearestRoot n q → 2 ^ (prec f - 1) ≤ q → q ≤ 2 ^ prec f → 2 ^ (prec f - 1) * 2 ^ (prec f - 1) ≤ n
    → root_units f a c ≡ q * 2 ^ h
root_units_lem f a c v n q h C av vn near lo hi nn =
    let P = 2 ^ h in
    let R = root_units f a c in
    let against = root_against f a c (q * P) C (few_spaced f q h hi) in
    let four : four_squares f a ≡ 4 * n * (P * P) * c = scaled a (2 ^ low f) v c n (4 ^ h) P av vn (four_pow h) in
    units_are n q P R (2 ^ (prec f - 1)) (pow_pos h) near lo nn
    (λ g. few_spaced f (kept (prec f) (top f a c * 2 ^ low f) (bottom f)) (drop (prec f) (top f a c * 2 ^ low f) (bottom f)) (kept_le (prec f) (top f a c * 2 ^ low f) (bottom f)) h (le_trans (le_of_eq (pow-add 2 (prec f - 1) h)) g))
    (λ g. le_of_mul-le-mul_right (le_trans (le_of_eq (sym four)) (against.up g)) C)
    (λ g. le_of_mul-le-mul_right (le_trans (against.down g) (le_of_eq four)) C)
  where
    scaled : (a L v c n F P : ℕ) → a * L ≡ v * c → v * L ≡ n * F → F ≡ P * P → 4 * a * (L * L) ≡ 4 * n * (P * P) * c
    scaled a L v c n F P e g s = left a L ∙ ap (λ (x : ℕ). x * (4 * L)) e ∙ middle v c L ∙ ap (λ (x : ℕ). 4 * x * c) (g ∙ ap (λ (x : ℕ). n * x) s) ∙ right n (P * P) c
      where
        left : (a L : ℕ) → 4 * a * (L * L) ≡ a * L * (4 * L)
        left a L = omega arith

        middle : (v c L : ℕ) → v * c * (4 * L) ≡ 4 * (v * L) * c
        middle v c L = omega arith

        right : (n x c : ℕ) → 4 * (n * x) * c ≡ 4 * n * x * c
        right n x c = omega arith

-- ---- the pattern of q * 2 ^ h units, for a q of all the format's digits
full_bits : (f : Format) (r : Float) (q h : ℕ) → InUnits f r false (q * 2 ^ h) → 2 ^ (prec f - 1) ≤ q → q < 2 ^ prec f → to_bits f r ≡ h * hid f + q
unfolding to_bits
full_bits f nan q h v lo hi = absurd v
full_bits f (inf s) q h v lo hi = absurd v
full_bits f (fin s m e) q h v lo hi =
    let p = prec f in
    let units : m * up e * 2 ^ low f / down e ≡ q * 2 ^ h = ap (λ (x : ℕ). x / down e) v.1 ∙ mul-div_cancel (q * 2 ^ h) (down_pos e) in
    let places : size (q * 2 ^ h) - p ≡ h = dropped p h (size (q * 2 ^ h)) (size-le (q * 2 ^ h) (p + h) (shl_lt p h hi)) (size_gt (q * 2 ^ h) (p - 1 + h) (le_trans (le_of_eq (pow-add 2 (p - 1) h)) (mul-le-mul_right (2 ^ h) lo))) in
    rw (v.0, units, places, mul-div_cancel q (pow_pos h)) (ap (λ (x : ℕ). x + q) (zero-add (h * hid f)))
  where
    size_gt : (n j : ℕ) → 2 ^ j ≤ n → j < size n
    size_gt n j g = lt_of_not-le λ (l : size n ≤ j). not-le_of_lt (lt_of_lt_of_le (size-lt n) (pow_mono l)) g

    dropped : (p h z : ℕ) → z ≤ p + h → p - 1 + h < z → z - p ≡ h
    dropped p h z a b = omega arith

-- also where rounding up has made it 2 ^ prec
bits_are : (f : Format) (r : Float) (q h : ℕ) → InUnits f r false (q * 2 ^ h) → 2 ^ (prec f - 1) ≤ q → q ≤ 2 ^ prec f → to_bits f r ≡ h * hid f + q
bits_are f r q h v lo hi = elim (eq-or-lt_of_le hi) [
  | inl e ↦ full_bits f r (2 ^ (prec f - 1)) (suc h) (rw (ap (λ (x : ℕ). x * 2 ^ h) e ∙ carried f h) at v) (le_refl (2 ^ (prec f - 1))) (half_power f) ∙ next h (hid f) q (e ∙ doubled)
  | inr l ↦ full_bits f r q h v lo l
]
  where
    doubled : 2 ^ prec f ≡ hid f * 2
    doubled = power_split (prec f) 1 (two-le_pos (prec f) (two f))

    next : (h d q : ℕ) → q ≡ d * 2 → suc h * d + d ≡ h * d + q
    next h d q e = omega arith

-- ---- the root of the number of v units
number : (f : Format) (x : Float) (Y : ℕ) → InUnits f x false Y → T (not (is_nan x))
unfolding is_nan
number f nan Y v = absurd v
number f (inf s) Y v = absurd v
number f (fin s m e) Y v = tt

fraction_bits : (f : Format) (a c v n q h : ℕ) → 0 < c → a * 2 ^ low f ≡ v * c → v * 2 ^ low f ≡ n * 4 ^ h → NearestRoot n q → 2 ^ (prec f - 1) ≤ q → q ≤ 2 ^ prec f → 2 ^ (prec f - 1) * 2 ^ (prec f - 1) ≤ n
    → prec f + h < low f + suc (emax f) → (of_bits f (h * hid f + q) ≡ root_of f a c) × T (not (nan_bits f (h * hid f + q)))
fraction_bits f a c v n q h C av vn near lo hi nn room =
    let is : root_units f a c ≡ q * 2 ^ h = root_units_lem f a c v n q h C av vn near lo hi nn in
    let small : root_units f a c < overflow f = lt_of_le_of_lt (le_of_eq is) (lt_of_le_of_lt (le_trans (mul-le-mul_right (2 ^ h) hi) (le_of_eq (sym (pow-add 2 (prec f) h)))) (pow-lt room)) in
    let counted : InUnits f (root_of f a c) false (q * 2 ^ h) = rw is at (root_counted f a c small) in
    let back : of_bits f (h * hid f + q) ≡ root_of f a c = ap (of_bits f) (sym (bits_are f (root_of f a c) q h counted lo hi)) ∙ of_bits-to_bits f (root_of f a c) (rw (root_is f a c) (round-fits f false (top f a c) (bottom f))) in
    (back, rw (nan_bits_is f (h * hid f + q), back) (number f (root_of f a c) (q * 2 ^ h) counted))

-- m * 2 ^ 52 lies between the squares of 2 ^ 52 and 2 ^ 53
pub root_bits : (m h q : ℕ) → 2 ^ 52 ≤ m → m < 2 ^ 54 → h ≤ 2000 → NearestRoot (m * 2 ^ 52) q → RootBits (m * 2 ^ 52 * 4 ^ h) (h * 2 ^ 52 + q)
unfolding RootBits sqrt_of
root_bits m h q lo hi far near nan v i p e = absurd i
root_bits m h q lo hi far near (inf s) v i p e = absurd i
root_bits m h q lo hi far near (fin true x d) v i p e = absurd (true≢false i.0)
root_bits m h q lo hi far near (fin false zero d) v i p e =
    let none : v * down d ≡ 0 = sym i.1 ∙ ap (λ (x : ℕ). x * 2 ^ low binary64) (zero-mul (up d)) ∙ zero-mul (2 ^ low binary64) in
    absurd (lt_irrefl 0 (lt_of_lt_of_le (mul-pos p (down_pos d)) (le_of_eq none)))
root_bits m h q lo hi far near (fin false (suc x) d) v i p e =
    let n = m * 2 ^ 52 in
    let least : 2 ^ 52 * 2 ^ 52 ≤ n = mul-le-mul_right (2 ^ 52) lo in
    fraction_bits binary64 (suc x * up d) (down d) v n q h (down_pos d) i.1 e near (reached n q (2 ^ 52) near least) (bounded n q (2 ^ 53) near (most m hi)) least (room h far)
  where
    room : (h : ℕ) → h ≤ 2000 → 53 + h < 2098
    room h f = omega arith

    most : (m : ℕ) → m < 2 ^ 54 → m * 2 ^ 52 < 2 ^ 53 * 2 ^ 53
    most m h = lt_of_lt_of_le (mul-lt-mul_of_pos_right h (pow_pos 52)) (le_of_eq refl)
