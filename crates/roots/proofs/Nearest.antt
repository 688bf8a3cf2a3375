-- `round` gives a nearest value of the format, and in a tie the even one.
-- In units the fraction lies between w * 2 ^ k and (w + 1) * 2 ^ k, no value of the format lies between those two, and `nearest` takes the one on the nearer side.
use mathlib.Core.Path.{◌≡◌, refl, sym, ap, ◌∙◌}
use mathlib.Core.Logic.{◌⊎◌, inl, inr}
use mathlib.Core.Bool.{not}
use Prim.Native.Nat.{ℕ, zero, suc, ◌+◌, ◌-◌, ◌*◌, ◌/◌, ◌%◌, ◌^◌, ◌≤◌, ◌<◌, compare, Ordering}
use native.Mathlib.Nat.{le_trans, le_of_eq, le_of_lt, le_of_suc-le-suc, lt_of_not-le, not-le_of_lt, mul-pos, mul-le-mul_right, mul-lt-mul_of_pos_right, div-add-mod', mod-lt, le-div_iff_mul-le, div-div-eq-div-mul}
use native.Mathlib.Omega.{arith}
use lib.Dec.{T, is_le, compare_is_eq, leb→le, nleb→lt, eqb→eq, eqb_refl}
use lib.Pow.{pow-add, pow_pos}
use lib.Ieee.{Format, prec, low, size, nearest}
use lib.Ieee.Digits.{size_reaches}
use lib.Ieee.Fits.{two, two-le_pos}
use lib.Ieee.Scale.{grid}
use lib.Ieee.Order.{drop, kept}
use Rattle.roots.proofs.Spacing.{Spaced}

-- two different numbers are in one order or the other
apart : (a b : ℕ) → (a ≡ b → ⊥) → (a < b) ⊎ (b < a)
apart zero zero d = absurd (d refl)
apart zero (suc b) d = inl (omega arith)
apart (suc a) zero d = inr (omega arith)
apart (suc a) (suc b) d = elim (apart a b (λ e. d (ap suc e))) [ inl h ↦ inl (omega arith) | inr h ↦ inr (omega arith) ]

-- q is w or the next number, by the side of the half on which r of u parts lie, and even where they are just half
pub record Side (q w r u : ℕ) : Type 0 where
  pub side : ((q ≡ w) × (r * 2 ≤ u)) ⊎ ((q ≡ w + 1) × (u ≤ r * 2))
  pub even : r * 2 ≡ u → q % 2 ≡ 0

nearest_side : (w r u : ℕ) → Side (nearest w (compare (r * 2) u)) w r u
nearest_side w r u = by_order (compare (r * 2) u) (leb→le (r * 2) u) (nleb→lt (r * 2) u) (eqb→eq (r * 2) u) (λ e. rw e (eqb_refl u))
  where
    parity : (w : ℕ) → (w + w % 2 ≡ w) ⊎ (w + w % 2 ≡ w + 1)
    parity w = by_digit (w % 2) refl
      where
        no : (b : ℕ) → w % 2 ≡ suc (suc b) → ⊥
        no b e = omega arith

        by_digit : (b : ℕ) → w % 2 ≡ b → (w + b ≡ w) ⊎ (w + b ≡ w + 1)
        by_digit zero e = inl (omega arith)
        by_digit (suc zero) e = inr (omega arith)
        by_digit (suc (suc b)) e = absurd (no b e)

    sum_even : (w : ℕ) → (w + w % 2) % 2 ≡ 0
    sum_even w = omega arith

    by_order : (o : Ordering) → (T (is_le o) → r * 2 ≤ u) → (T (not (is_le o)) → u < r * 2) → (T (compare_is_eq o) → r * 2 ≡ u) → (r * 2 ≡ u → T (compare_is_eq o)) → Side (nearest w o) w r u
    by_order Ordering.lt a b c d = record { side = inl (refl, a tt); even = λ e. absurd (d e) }
    by_order Ordering.eq a b c d = record { side = elim (parity w) [ inl e ↦ inl (e, a tt) | inr e ↦ inr (e, le_of_eq (sym (c tt))) ]; even = λ e. sum_even w }
    by_order Ordering.gt a b c d = record { side = inr (omega arith, le_of_lt (b tt)); even = λ e. absurd (d e) }

-- The value of R units against one of Y: n / c units are on R's side of the midpoint, and where they are on it, r parts are half of u.
pub record Beside (R Y n c r u : ℕ) : Type 0 where
  pub up : R < Y → n * 2 ≤ (R + Y) * c
  pub down : Y < R → (R + Y) * c ≤ n * 2
  pub tie : (R ≡ Y → ⊥) → (R + Y) * c ≡ n * 2 → r * 2 ≡ u

-- ---- n / c is A units and r of the c * P parts that make up P units more, and Y does not lie between A and A + P
module _ (A P c r Y n : ℕ) (C : 0 < c) (e : n ≡ A * c + r) (gap : A < Y → A + P ≤ Y) where
  below_half : r * 2 ≤ c * P → Beside A Y n c r (c * P)
  below_half h = record {
    up = λ g. omega (arith, above g);
    down = λ g. omega (arith, under g);
    tie = λ d t. elim (apart A Y d) [ inl g ↦ omega (arith, above g) | inr g ↦ absurd (omega (arith, under g)) ];
  }
    where
      above : A < Y → (A + (A + P)) * c ≤ (A + Y) * c
      above g = let h : A + P ≤ Y = gap g in mul-le-mul_right c (omega arith)

      under : Y < A → (A + Y) * c < (A + A) * c
      under g = mul-lt-mul_of_pos_right (omega arith) C

  above_half : r < c * P → c * P ≤ r * 2 → Beside (A + P) Y n c r (c * P)
  above_half l h = record {
    up = λ g. omega (arith, over g);
    down = λ g. omega (arith, below g);
    tie = λ d t. elim (apart (A + P) Y d) [ inl g ↦ absurd (omega (arith, over g)) | inr g ↦ omega (arith, below g) ];
  }
    where
      below : Y < A + P → (A + P + Y) * c ≤ (A + P + A) * c
      below g = let h : Y ≤ A = le_of_suc-le-suc (lt_of_not-le λ (h : suc A ≤ Y). not-le_of_lt g (gap h)) in mul-le-mul_right c (omega arith)

      over : A + P < Y → (A + P + (A + P)) * c < (A + P + Y) * c
      over g = mul-lt-mul_of_pos_right (omega arith) C

-- where digits are dropped, the whole part has all the digits that the format keeps
pub all_digits : (p n c k : ℕ) → 0 < p → drop p n c ≡ suc k → 2 ^ (p - 1) ≤ n / (c * 2 ^ suc k)
all_digits p n c k P e =
    let reach : 2 ^ (p - 1) * 2 ^ suc k ≤ n / c = le_trans (le_of_eq (sym (pow-add 2 (p - 1) (suc k)))) (size_reaches (n / c) (p - 1 + suc k) (in_use (size (n / c)) p k P e)) in
    rw div-div-eq-div-mul at ((le-div_iff_mul-le (pow_pos (suc k))).1 reach)
  where
    in_use : (z p k : ℕ) → 0 < p → z - p ≡ suc k → p - 1 + suc k < z
    in_use z p k P e = omega arith

-- no value of the format lies between a multiple of the step 2 ^ k that `round` works with and the next
no_value_between : (f : Format) (n c Y k : ℕ) → Spaced f Y → drop (prec f) n c ≡ k → n / (c * 2 ^ k) * 2 ^ k < Y → n / (c * 2 ^ k) * 2 ^ k + 2 ^ k ≤ Y
no_value_between f n c Y zero s e h = next (n / (c * 2 ^ 0) * 2 ^ 0) h
  where
    next : (x : ℕ) → x < Y → x + 1 ≤ Y
    next x h = omega arith
no_value_between f n c Y (suc k) s e h =
    let w = n / (c * 2 ^ suc k) in
    let P = 2 ^ suc k in
    let large : 2 ^ (prec f - 1 + suc k) ≤ Y = le_trans (le_of_eq (pow-add 2 (prec f - 1) (suc k))) (le_trans (mul-le-mul_right P (all_digits (prec f) n c k (two-le_pos (prec f) (two f)) e)) (le_of_lt h)) in
    multiples w (Y / P) P Y (s (suc k) large) h
  where
    multiples : (w z P Y : ℕ) → z * P ≡ Y → w * P < Y → w * P + P ≤ Y
    multiples w z P Y e h = le_trans (le_of_eq (one_more w P)) (le_trans (mul-le-mul_right P (lt_of_not-le λ (g : z ≤ w). not-le_of_lt h (le_trans (le_of_eq (sym e)) (mul-le-mul_right P g)))) (le_of_eq e))
      where
        one_more : (w P : ℕ) → w * P + P ≡ suc w * P
        one_more w P = omega arith

-- ---- `round`, in units: n / c = a * 2 ^ low / c is rounded to kept * 2 ^ drop
abbrev pub step : Format → ℕ → ℕ → ℕ
step f n c = c * 2 ^ drop (prec f) n c

pub round_beside : (f : Format) (a c Y : ℕ) → 0 < c → Spaced f Y → let n = a * 2 ^ low f in Beside (grid f a c) Y n c (n % step f n c) (step f n c)
round_beside f a c Y C s =
    let n = a * 2 ^ low f in
    let k = drop (prec f) n c in
    let u = c * 2 ^ k in
    let w = n / u in
    let e : n ≡ w * 2 ^ k * c + n % u = sym (div-add-mod' n u) ∙ ap (λ (x : ℕ). x + n % u) (regrouped w c (2 ^ k)) in
    let gap = no_value_between f n c Y k s refl in
    elim (nearest_side w (n % u) u).side [
      | inl (q, h) ↦ rw q (below_half (w * 2 ^ k) (2 ^ k) c (n % u) Y n C e gap h)
      | inr (q, h) ↦ rw (q, one_more w (2 ^ k)) (above_half (w * 2 ^ k) (2 ^ k) c (n % u) Y n C e gap (mod-lt n (mul-pos C (pow_pos k))) h)
    ]
  where
    regrouped : (w c P : ℕ) → w * (c * P) ≡ w * P * c
    regrouped w c P = omega arith

    one_more : (w P : ℕ) → (w + 1) * P ≡ w * P + P
    one_more w P = omega arith

pub round_even : (f : Format) (n c : ℕ) → n % step f n c * 2 ≡ step f n c → kept (prec f) n c % 2 ≡ 0
round_even f n c = let u = c * 2 ^ drop (prec f) n c in (nearest_side (n / u) (n % u) u).even
