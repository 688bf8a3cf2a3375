-- No root of a value of binary64 lies midway between two values.
-- A midpoint, in halves of a unit, is (2 * w + 1) * 2 ^ k, with w of all the format's digits where k is above 0. Its square would have an odd part of more digits than a value has.
use mathlib.Core.Path.{◌≡◌, refl, sym, ap, ◌∙◌}
use Prim.Native.Nat.{ℕ, zero, suc, ◌+◌, ◌-◌, ◌*◌, ◌/◌, ◌%◌, ◌^◌, ◌≤◌, ◌<◌}
use native.Mathlib.Nat.{le_trans, le_of_eq, le_of_lt, lt_of_not-le, not-le_of_lt, lt_irrefl, mul_assoc, eq_of_mul-eq-mul_right, pow-suc, div-add-mod'}
use native.Mathlib.Decide.{dec_le}
use native.Mathlib.Omega.{arith}
use mathlib.Core.Bool.{true, false}
use lib.Pow.{pow_pos, pow-add}
use lib.Ieee.{nan, inf, fin, Format, binary64, prec, low}
use lib.Ieee.Fits.{two, two-le_pos, down_pos}
use lib.Ieee.Order.{drop}
use lib.Ieee.Positive.{num, den}
use Rattle.roots.specs.Sqrt.{sqrt_of}
use Rattle.roots.specs.Correct.{InUnits, Tie, SqrtNeverTies}
use Rattle.roots.proofs.Spacing.{Spaced, power_split, written, one_count, spaced}
use Rattle.roots.proofs.Nearest.{step, all_digits}
use Rattle.roots.proofs.Root.{top, bottom, root_units, root_against}
use Rattle.roots.proofs.Correct.{root_half, root_counted, sqrt_below, positive_root}

-- an odd number of p + 1 digits: its square is not m * 2 ^ J for a smaller m and a J above 0
odd_square : (p w k m J : ℕ) → m < 2 ^ p → 0 < J → (0 < k → 2 ^ p ≤ 2 * w) → (2 * w + 1) * 2 ^ k * ((2 * w + 1) * 2 ^ k) ≡ m * 2 ^ J → ⊥
odd_square p w k m J M j digits e = elim (dec_le J (k + k)) [
  | yes h ↦ large (2 ^ (k + k - J)) (digits (some k J j h)) (pow_pos (k + k - J)) (factor J (pow_pos J) m o (k + k - J) (sym e ∙ twice ∙ ap (λ (x : ℕ). o * x) (power_split (k + k) J h)))
  | no g ↦ even (J - (k + k)) (over g) (factor (k + k) (pow_pos (k + k)) o m (J - (k + k)) (sym twice ∙ e ∙ ap (λ (x : ℕ). m * x) (power_split J (k + k) (under g))))
]
  where
    o : ℕ
    o = (2 * w + 1) * (2 * w + 1)

    -- 2 ^ b cancelled
    factor : (b : ℕ) → 0 < 2 ^ b → (x y i : ℕ) → x * 2 ^ b ≡ y * (2 ^ i * 2 ^ b) → x ≡ y * 2 ^ i
    factor b B x y i q = eq_of_mul-eq-mul_right (2 ^ b) B x (y * 2 ^ i) (q ∙ sym (mul_assoc y (2 ^ i) (2 ^ b)))

    twice : (2 * w + 1) * 2 ^ k * ((2 * w + 1) * 2 ^ k) ≡ o * 2 ^ (k + k)
    twice = regrouped (2 * w + 1) (2 ^ k) ∙ ap (λ (x : ℕ). o * x) (sym (pow-add 2 k k))
      where
        regrouped : (y P : ℕ) → y * P * (y * P) ≡ y * y * (P * P)
        regrouped y P = omega arith

    under : (J ≤ k + k → ⊥) → k + k ≤ J
    under g = let h : k + k < J = lt_of_not-le g in omega arith

    over : (J ≤ k + k → ⊥) → 0 < J - (k + k)
    over g = let h : k + k < J = lt_of_not-le g in omega arith

    some : (k J : ℕ) → 0 < J → J ≤ k + k → 0 < k
    some k J j h = omega arith

    -- m has the odd square as a factor
    large : (X : ℕ) → 2 ^ p ≤ 2 * w → 0 < X → m ≡ o * X → ⊥
    large zero h x q = lt_irrefl 0 x
    large (suc X) h x q = let b : 2 * w < (2 * w + 1) * (2 * w + 1) * suc X = grown w X in not-le_of_lt M (le_trans h (le_trans (le_of_lt b) (le_of_eq (sym q))))
      where
        grown : (w X : ℕ) → 2 * w < (2 * w + 1) * (2 * w + 1) * suc X
        grown w X = omega arith

    -- the odd square has a factor of two
    even : (i : ℕ) → 0 < i → o ≡ m * 2 ^ i → ⊥
    even zero h q = lt_irrefl 0 h
    even (suc i) h q = parity w (m * 2 ^ i) (q ∙ ap (λ (x : ℕ). m * x) (pow-suc 2 i) ∙ sym (mul_assoc m (2 ^ i) 2))
      where
        parity : (w S : ℕ) → (2 * w + 1) * (2 * w + 1) ≡ S * 2 → ⊥
        parity w S e = omega arith

-- ---- the midpoint M of a tie, where `round` has w of its steps of 2 ^ k units, and half a step left
midpoint : (f : Format) (n d M : ℕ) → 0 < d → M * d ≡ n * 2 → n % step f n d * 2 ≡ step f n d → M ≡ (2 * (n / step f n d) + 1) * 2 ^ drop (prec f) n d
midpoint f n d M D e h =
    let k = drop (prec f) n d in
    let u = d * 2 ^ k in
    eq_of_mul-eq-mul_right d D M ((2 * (n / u) + 1) * 2 ^ k) (e ∙ ap (λ (x : ℕ). x * 2) (sym (div-add-mod' n u)) ∙ halves (n / u) (n % u) u h ∙ regrouped (n / u) d (2 ^ k))
  where
    halves : (w r u : ℕ) → r * 2 ≡ u → (w * u + r) * 2 ≡ (2 * w + 1) * u
    halves w r u h = rw (← h) (doubled w r)
      where
        doubled : (w r : ℕ) → (w * (r * 2) + r) * 2 ≡ (2 * w + 1) * (r * 2)
        doubled w r = omega arith

    regrouped : (w d P : ℕ) → (2 * w + 1) * (d * P) ≡ (2 * w + 1) * P * d
    regrouped w d P = omega arith

-- the root of m * 2 ^ j units
no_tie : (f : Format) (a c Y m j : ℕ) → 0 < c → m < 2 ^ prec f → a * 2 ^ low f ≡ m * 2 ^ j * c → Spaced f Y → Tie f a c (root_units f a c) Y → ⊥
no_tie f a c Y m j C M v g t =
    let n = top f a c * 2 ^ low f in
    let d = bottom f in
    let k = drop (prec f) n d in
    let w = n / (d * 2 ^ k) in
    let mid : root_units f a c + Y ≡ (2 * w + 1) * 2 ^ k = midpoint f n d (root_units f a c + Y) (pow_pos (suc (suc (low f)))) ((root_against f a c Y C g).tie t.1) (root_half f a c Y C g t) in
    odd_square (prec f) w k m (j + low f + 2) M (positive j (low f)) (λ h. digits n d k refl h) (rw (← mid) (squares (root_units f a c + Y) t.1))
  where
    positive : (j l : ℕ) → 0 < j + l + 2
    positive j l = omega arith

    digits : (n d k : ℕ) → drop (prec f) n d ≡ k → 0 < k → 2 ^ prec f ≤ 2 * (n / (d * 2 ^ k))
    digits n d zero e h = absurd (lt_irrefl 0 h)
    digits n d (suc k) e h = le_trans (le_of_eq (power_split (prec f) 1 (two-le_pos (prec f) (two f)))) (doubled (all_digits (prec f) n d k (two-le_pos (prec f) (two f)) e))
      where
        doubled : {x y : ℕ} → x ≤ y → x * 2 ≤ 2 * y
        doubled h = omega arith

    squares : (N : ℕ) → N * N * c ≡ 4 * a * (2 ^ low f * 2 ^ low f) → N * N ≡ m * 2 ^ (j + low f + 2)
    squares N e =
        let power : 2 ^ (j + low f + 2) ≡ 2 ^ j * 2 ^ low f * 4 = pow-add 2 (j + low f) 2 ∙ ap (λ (x : ℕ). x * 4) (pow-add 2 j (low f)) in
        eq_of_mul-eq-mul_right c C (N * N) (m * 2 ^ (j + low f + 2)) (e ∙ turned a (2 ^ low f) (m * 2 ^ j) c v ∙ ap (λ (x : ℕ). x * c) (gathered m (2 ^ j) (2 ^ low f) (2 ^ (j + low f + 2)) power))
      where
        turned : (a L x c : ℕ) → a * L ≡ x * c → 4 * a * (L * L) ≡ x * L * 4 * c
        turned a L x c e = left a L ∙ ap (λ (y : ℕ). y * (4 * L)) e ∙ right x c L
          where
            left : (a L : ℕ) → 4 * a * (L * L) ≡ a * L * (4 * L)
            left a L = omega arith

            right : (x c L : ℕ) → x * c * (4 * L) ≡ x * L * 4 * c
            right x c L = omega arith

        gathered : (m J L P : ℕ) → P ≡ J * L * 4 → m * J * L * 4 ≡ m * P
        gathered m J L P e = rw e (moved m J L)
          where
            moved : (m J L : ℕ) → m * J * L * 4 ≡ m * (J * L * 4)
            moved m J L = omega arith

pub sqrt_never_ties : SqrtNeverTies
sqrt_never_ties nan y R Y F P G r v t = absurd P
sqrt_never_ties (inf s) y R Y F P G r v t = absurd P
sqrt_never_ties (fin true m e) y R Y F P G r v t = absurd P
sqrt_never_ties (fin false zero e) y R Y F P G r v t = absurd P
sqrt_never_ties (fin false (suc m) e) y R Y F P G r v t =
    let x = fin false (suc m) e in
    let w = written binary64 false m e F in
    let counted : InUnits binary64 (sqrt_of x) false (root_units binary64 (num x) (den x)) = rw (positive_root m e) (root_counted binary64 (num x) (den x) (sqrt_below m e F)) in
    let is : R ≡ root_units binary64 (num x) (den x) = one_count binary64 (sqrt_of x) false false R (root_units binary64 (num x) (den x)) r counted in
    no_tie binary64 (num x) (den x) Y (suc m) w.1.0 (down_pos e) w.0 w.1.1 (spaced binary64 y false Y G v) (rw is at t)
