-- How the rounded root of a fraction a / c compares with any other value of the format, in whole numbers.
-- `root_of` rounds r, or r and a half, in units of half the smallest value; r is the whole part of the root, so a midpoint M compares with r as M * M * c does with 4 * a * L * L.
use mathlib.Core.Path.{◌≡◌, refl, sym, ap, ◌∙◌}
use mathlib.Core.Logic.{◌⊎◌, inl, inr}
use mathlib.Core.Bool.{Bool, true, false, cond}
use Prim.Native.Nat.{ℕ, suc, ◌+◌, ◌*◌, ◌/◌, ◌^◌, ◌≤◌, ◌<◌}
use native.Mathlib.Nat.{le_trans, le_of_eq, le_of_lt, lt_of_lt_of_le, lt_of_le_of_lt, lt_of_not-le, not-le_of_lt, le_antisymm, le_of_suc-le-suc, add-lt-add_iff_right, one-mul, mul-pos, mul-le-mul, mul-le-mul_right, mul-lt-mul_of_pos_right, le_of_mul-le-mul_right, pow-suc, div-lt_iff_lt-mul, div-mul-le_self}
use native.Mathlib.Omega.{arith}
use lib.Arith.{lt_of_le-ne}
use lib.Dec.{T, eqb, eqb→eq, eqb_refl}
use lib.Pow.{pow_pos, pow-add, pow-lt}
use lib.Ieee.{Format, prec, low}
use lib.Ieee.Fits.{two, two-le_pos}
use lib.Ieee.Scale.{grid}
use Rattle.roots.specs.WholeRoot.{whole_root}
use Rattle.roots.specs.Correct.{four_squares}
use Rattle.roots.proofs.WholeRoot.{whole_root_is, four_pow}
use Rattle.roots.proofs.Spacing.{Spaced, multiple}
use Rattle.roots.proofs.Nearest.{Beside, round_beside}

-- squares are in the order of their roots
pub square_lt : {a b : ℕ} → a < b → a * a < b * b
square_lt {a} h = lt_of_lt_of_le (one_more a) (mul-le-mul h h)
  where
    one_more : (a : ℕ) → a * a < suc a * suc a
    one_more a = omega arith

root_le : (a b c : ℕ) → a * a * c ≤ b * b * c → 0 < c → a ≤ b
root_le a b c h C = le_of_suc-le-suc (lt_of_not-le λ (g : suc b ≤ a). not-le_of_lt (mul-lt-mul_of_pos_right (square_lt g) C) h)

root_lt : (a b c : ℕ) → a * a * c < b * b * c → a < b
root_lt a b c h = lt_of_not-le λ (g : b ≤ a). not-le_of_lt h (mul-le-mul_right c (mul-le-mul g g))

-- r is the whole part of the root of n / c, and st says whether the root is more
record Parts (n c r st : ℕ) : Type 0 where
  pub low : r * r * c ≤ n
  pub high : n < (r + 1) * (r + 1) * c
  pub exact : ((st ≡ 0) × (r * r * c ≡ n)) ⊎ ((st ≡ 1) × (r * r * c < n))

-- 0 for a root that is exactly r, 1 for one that is more
abbrev bit : Bool → ℕ
bit exactly = cond exactly 0 1

abbrev sticky : ℕ → ℕ → ℕ → ℕ
sticky n c r = bit (eqb (r * r * c) n)

parts : (n c : ℕ) → 0 < c → Parts n c (whole_root (n / c)) (sticky n c (whole_root (n / c)))
parts n c C =
    let r = whole_root (n / c) in
    let is = whole_root_is (n / c) in
    let lo : r * r * c ≤ n = le_trans (mul-le-mul_right c is.0) (div-mul-le_self n c) in
    record { low = lo; high = (div-lt_iff_lt-mul C).0 is.1; exact = by_test (eqb (r * r * c) n) (eqb→eq (r * r * c) n) (λ e. rw e (eqb_refl n)) lo }
  where
    by_test : {x : ℕ} (b : Bool) → (T b → x ≡ n) → (x ≡ n → T b) → x ≤ n → ((bit b ≡ 0) × (x ≡ n)) ⊎ ((bit b ≡ 1) × (x < n))
    by_test true y z l = inl (refl, y tt)
    by_test false y z l = inr (refl, lt_of_le-ne l z)

-- ---- R units against Y: the root of n / c, in halves of a unit, is on R's side of the midpoint; where it is on it, so are the t / d units that were rounded
pub record Against (R Y n c t d : ℕ) : Type 0 where
  pub up : R < Y → n ≤ (R + Y) * (R + Y) * c
  pub down : Y < R → (R + Y) * (R + Y) * c ≤ n
  pub tie : (R + Y) * (R + Y) * c ≡ n → (R + Y) * d ≡ t * 2

squared : (L n c r st R Y q u : ℕ) → 0 < L → 0 < c → Parts n c r st → Beside R Y ((2 * r + st) * L) (4 * L) q u → Against R Y n c ((2 * r + st) * L) (4 * L)
squared L n c r st R Y q u Lp C p b = record {
  up = λ g. elim p.exact [
    | inl (z, e) ↦ le_trans (le_of_eq (sym e)) (larger r (at_least r st (R + Y) (above g) (le_of_eq (sym z))))
    | inr (o, e) ↦ le_trans (le_of_lt p.high) (larger (r + 1) (one_more r st (R + Y) (above g) o))
  ];
  down = λ g. le_trans (smaller (at_most_r r st (R + Y) (below g) few)) p.low;
  tie = λ e. on_it (same e) e p.exact;
}
  where
    M : ℕ
    M = R + Y

    larger : (x : ℕ) → x ≤ M → x * x * c ≤ M * M * c
    larger x h = mul-le-mul_right c (mul-le-mul h h)

    smaller : M ≤ r → M * M * c ≤ r * r * c
    smaller h = mul-le-mul_right c (mul-le-mul h h)

    left : (t L : ℕ) → t * (L * 2) ≡ t * L * 2
    left t L = omega arith

    right : (M L : ℕ) → M * (4 * L) ≡ M * 2 * (L * 2)
    right M L = omega arith

    twice : 0 < L * 2
    twice = omega arith

    above : R < Y → 2 * r + st ≤ M * 2
    above g = le_of_mul-le-mul_right (le_trans (le_of_eq (left (2 * r + st) L)) (le_trans (b.up g) (le_of_eq (right M L)))) twice

    below : Y < R → M * 2 ≤ 2 * r + st
    below g = le_of_mul-le-mul_right (le_trans (le_of_eq (sym (right M L))) (le_trans (b.down g) (le_of_eq (sym (left (2 * r + st) L))))) twice

    at_least : (r st M : ℕ) → 2 * r + st ≤ M * 2 → 0 ≤ st → r ≤ M
    at_least r st M h z = omega arith

    one_more : (r st M : ℕ) → 2 * r + st ≤ M * 2 → st ≡ 1 → r + 1 ≤ M
    one_more r st M h o = omega arith

    few : st ≤ 1
    few = elim p.exact [ inl (z, e) ↦ omega arith | inr (o, e) ↦ omega arith ]

    at_most_r : (r st M : ℕ) → M * 2 ≤ 2 * r + st → st ≤ 1 → M ≤ r
    at_most_r r st M h s = omega arith

    -- a midpoint that is the root is r
    same : M * M * c ≡ n → M ≡ r
    same e = le_antisymm (le_of_next (root_lt M (r + 1) c (lt_of_le_of_lt (le_of_eq e) p.high))) (root_le r M c (le_trans p.low (le_of_eq (sym e))) C)
      where
        le_of_next : M < r + 1 → M ≤ r
        le_of_next h = omega arith

    on_it : M ≡ r → M * M * c ≡ n → ((st ≡ 0) × (r * r * c ≡ n)) ⊎ ((st ≡ 1) × (r * r * c < n)) → M * (4 * L) ≡ (2 * r + st) * L * 2
    on_it m e (inl (z, _)) = rw (m, z) (exactly r L)
      where
        exactly : (r L : ℕ) → r * (4 * L) ≡ (2 * r + 0) * L * 2
        exactly r L = omega arith
    on_it m e (inr (_, h)) = absurd (not-le_of_lt h (le_of_eq (sym (rw m at e))))

-- ---- the root of a / c in the format f: n, the numerator that `root_of` rounds, and R units, what it comes to
abbrev pub scaled : Format → ℕ → ℕ
scaled f a = a * 4 ^ suc (low f)

abbrev pub top : Format → ℕ → ℕ → ℕ
top f a c = let r = whole_root (scaled f a / c) in 2 * r + sticky (scaled f a) c r

abbrev pub bottom : Format → ℕ
bottom f = 2 ^ suc (suc (low f))

abbrev pub root_units : Format → ℕ → ℕ → ℕ
root_units f a c = grid f (top f a c) (bottom f)

bottom_is : (f : Format) → bottom f ≡ 4 * 2 ^ low f
bottom_is f = quadruple (2 ^ low f) (2 ^ suc (low f)) (2 ^ suc (suc (low f))) (pow-suc 2 (low f)) (pow-suc 2 (suc (low f)))
  where
    quadruple : (x y z : ℕ) → y ≡ x * 2 → z ≡ y * 2 → z ≡ 4 * x
    quadruple x y z d e = omega arith

scaled_is : (f : Format) (a : ℕ) → scaled f a ≡ four_squares f a
scaled_is f a = ap (λ (x : ℕ). a * x) (pow-suc 4 (low f) ∙ ap (λ (x : ℕ). x * 4) (four_pow (low f))) ∙ turned a (2 ^ low f * 2 ^ low f)
  where
    turned : (a x : ℕ) → a * (x * 4) ≡ 4 * a * x
    turned a x = omega arith

pub root_against : (f : Format) (a c Y : ℕ) → 0 < c → Spaced f Y → Against (root_units f a c) Y (four_squares f a) c (top f a c * 2 ^ low f) (bottom f)
root_against f a c Y C s =
    let n = scaled f a in
    let r = whole_root (n / c) in
    in_halves (round_beside f (top f a c) (bottom f) Y (pow_pos (suc (suc (low f)))) s) λ b. squared (2 ^ low f) n c r (sticky n c r) (root_units f a c) Y _ _ (pow_pos (low f)) C (parts n c C) b
  where
    in_halves : {R t q u : ℕ} → Beside R Y t (bottom f) q u → (Beside R Y t (4 * 2 ^ low f) q u → Against R Y (scaled f a) c t (4 * 2 ^ low f)) → Against R Y (four_squares f a) c t (bottom f)
    in_halves b k = rw (← scaled_is f a, bottom_is f) (k (rw (bottom_is f) at b))

-- the root of a number below 4 ^ j is at most 2 ^ j
pub root_small : (f : Format) (a c j : ℕ) → 0 < c → a < 4 ^ j * c → root_units f a c ≤ 2 ^ (low f + j)
root_small f a c j C h = not_above λ (g : 2 ^ (low f + j) < root_units f a c). not-le_of_lt (beyond g) ((root_against f a c (2 ^ (low f + j)) C power).down g)
  where
    not_above : {x y : ℕ} → (y < x → ⊥) → x ≤ y
    not_above n = le_of_suc-le-suc (lt_of_not-le n)

    power : Spaced f (2 ^ (low f + j))
    power k g = rw one-mul at (multiple (prec f) 1 (low f + j) k (two-le_pos (prec f) (two f)) (pow-lt (two-le_pos (prec f) (two f))) (rw one-mul g))

    -- the root is below Y units, and so below the midpoint of Y and more
    beyond : 2 ^ (low f + j) < root_units f a c → four_squares f a < (root_units f a c + 2 ^ (low f + j)) * (root_units f a c + 2 ^ (low f + j)) * c
    beyond g =
        let Y = 2 ^ (low f + j) in
        let sum : Y + Y ≤ root_units f a c + Y = le_of_lt ((add-lt-add_iff_right Y).1 g) in
        lt_of_lt_of_le (bounded (2 ^ low f) (2 ^ j) Y (4 ^ j) (pow-add 2 (low f) j) (four_pow j) (mul-pos (pow_pos (low f)) (pow_pos (low f))) h) (mul-le-mul_right c (mul-le-mul sum sum))
      where
        bounded : (L J Y F : ℕ) → Y ≡ L * J → F ≡ J * J → 0 < L * L → a < F * c → 4 * a * (L * L) < (Y + Y) * (Y + Y) * c
        bounded L J Y F y e p h = lt_of_le_of_lt (le_of_eq (left a (L * L))) (lt_of_lt_of_le (mul-lt-mul_of_pos_right h four) (le_of_eq (rw (y, e) (right L J c))))
          where
            four : 0 < 4 * (L * L)
            four = omega arith

            left : (a x : ℕ) → 4 * a * x ≡ a * (4 * x)
            left a x = omega arith

            right : (L J c : ℕ) → J * J * c * (4 * (L * L)) ≡ (L * J + L * J) * (L * J + L * J) * c
            right L J c = omega arith
