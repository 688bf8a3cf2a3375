-- -0 and +0 have the same sum with every value but -0. So a sum from +0 on and the same sum from its first term on differ at most in the sign of a zero,
-- and not even there once a value is added that is not -0: one that stays as it is where it is added to +0.
use mathlib.Core.Path.{◌≡◌, refl, sym, ap, ◌∙◌}
use mathlib.Core.Bool.{Bool, true, false, cond, true≢false}
use mathlib.Core.Logic.{◌⊎◌, inl, inr}
use Prim.Native.Nat.{ℕ, zero, suc, ◌-◌, ◌*◌, ◌<◌}
use native.Mathlib.Nat.{zero-lt-suc, zero-mul, mul-one, one-mul, mul-pos, mul_comm}
use native.Mathlib.Omega.{arith}
use borrow.Author.Tests.{ltb-true, ltb-false, lt-ltb}
use lib.Dec.{T, ltb}
use lib.IntN.{pos}
use lib.Ieee.{Float, nan, inf, fin, binary64, up, down, size, odd, units, round, sum, add, fits}
use lib.Ieee.Fits.{up_pos, down_pos}
use Rattle.vectors.specs.Number.{◌⊕◌, plus_zero, plus_zero_is}
use Rattle.vectors.proofs.Finiteness.{zero_rounded}
use Rattle.vectors.proofs.OwnFraction.{own, zero_is}

-- the same, or -0 and +0
abbrev pub Alike : Float → Float → Type 0
Alike a b = (a ≡ b) ⊎ ((a ≡ fin true 0 (pos 0)) × (b ≡ fin false 0 (pos 0)))

from_zeros : (t : Bool) (b c : ℕ) → 0 < c → Alike (sum binary64 true 0 t b c) (sum binary64 false 0 t b c)
unfolding sum
from_zeros false zero c h = inl refl
from_zeros true zero c h = inr (zero_rounded true c h, zero_rounded false c h)
from_zeros false (suc b) c h = inl (rw (lt-ltb 0 (suc b) (zero-lt-suc b)) (ap (λ (n : ℕ). round binary64 false n c) (omega arith)))
from_zeros true (suc b) c h = inl (rw (lt-ltb 0 (suc b) (zero-lt-suc b)) (ap (λ (n : ℕ). round binary64 true n c) (omega arith)))

zeros_plus : (q : Float) → Alike (fin true 0 (pos 0) ⊕ q) (fin false 0 (pos 0) ⊕ q)
unfolding add
zeros_plus nan = inl refl
zeros_plus (inf t) = inl refl
zeros_plus (fin t n d) = rw (zero-mul (down d)) (from_zeros t (n * up d * 1) (1 * down d) (mul-pos (zero-lt-suc 0) (down_pos d)))

pub alike_plus : {a b : Float} (q : Float) → Alike a b → Alike (a ⊕ q) (b ⊕ q)
alike_plus q (inl e) = inl (ap (λ (x : Float). x ⊕ q) e)
alike_plus q (inr z) = rw (z.0, z.1) (zeros_plus q)

-- ---- either order
unlike_turned : (a b c : ℕ) → sum binary64 false a true b c ≡ sum binary64 true b false a c
unfolding sum
unlike_turned a b c = by_tests (ltb a b) (ltb b a) refl refl
  where
    by_tests : (p q : Bool) → ltb a b ≡ p → ltb b a ≡ q → cond p (round binary64 true (b - a) c) (round binary64 false (a - b) c) ≡ cond q (round binary64 false (a - b) c) (round binary64 p (b - a) c)
    by_tests true true g h = absurd (omega (arith, ltb-true a b g, ltb-true b a h))
    by_tests true false g h = refl
    by_tests false true g h = refl
    by_tests false false g h = ap (λ (n : ℕ). round binary64 false n c) (omega (arith, ltb-false a b g, ltb-false b a h))

sum_turned : (s t : Bool) (a b c : ℕ) → sum binary64 s a t b c ≡ sum binary64 t b s a c
unfolding sum
sum_turned false false a b c = ap (λ (n : ℕ). round binary64 false n c) (omega arith)
sum_turned true true a b c = ap (λ (n : ℕ). round binary64 true n c) (omega arith)
sum_turned false true a b c = unlike_turned a b c
sum_turned true false a b c = sym (unlike_turned b a c)

pub plus_turned : (x y : Float) → x ⊕ y ≡ y ⊕ x
unfolding add
plus_turned nan nan = refl
plus_turned nan (inf t) = refl
plus_turned nan (fin t n d) = refl
plus_turned (inf s) nan = refl
plus_turned (inf false) (inf false) = refl
plus_turned (inf false) (inf true) = refl
plus_turned (inf true) (inf false) = refl
plus_turned (inf true) (inf true) = refl
plus_turned (inf s) (fin t n d) = refl
plus_turned (fin s m e) nan = refl
plus_turned (fin s m e) (inf t) = refl
plus_turned (fin s m e) (fin t n d) = rw (mul_comm (down e) (down d)) (sum_turned s t (m * up e * down d) (n * up d * down e) (down d * down e))

-- ---- what +0 added leaves as it is
-- whether the sign is minus; NaN, which has none, counts as plus
unfoldable pub sign : Float → Bool
sign nan = false
sign (inf s) = s
sign (fin s m e) = s

pub opposite_zeros : {x : Float} → x ≡ fin true 0 (pos 0) → x ≡ fin false 0 (pos 0) → ⊥
unfolding sign
opposite_zeros p q = true≢false (ap sign (sym p ∙ q))

pub plus_zero_lem : (t : Bool) → fin false 0 (pos 0) ⊕ fin t 0 (pos 0) ≡ fin false 0 (pos 0)
unfolding add sum round units odd size
plus_zero_lem false = refl
plus_zero_lem true = refl

pub alike_sum : {a b q : Float} → plus_zero ⊕ q ≡ q → Alike a b → a ⊕ q ≡ b ⊕ q
alike_sum {q = q} k (inl e) = ap (λ (x : Float). x ⊕ q) e
alike_sum {q = q} k (inr z) = rw (z.0, z.1) (by_sum (zeros_plus q))
  where
    by_sum : Alike (fin true 0 (pos 0) ⊕ q) (fin false 0 (pos 0) ⊕ q) → fin true 0 (pos 0) ⊕ q ≡ fin false 0 (pos 0) ⊕ q
    by_sum (inl e) = e
    by_sum (inr w) =
        let is : q ≡ fin false 0 (pos 0) = sym k ∙ ap (λ (x : Float). x ⊕ q) plus_zero_is ∙ w.1 in
        absurd (opposite_zeros w.0 (ap (λ (x : Float). fin true 0 (pos 0) ⊕ x) is ∙ plus_turned _ _ ∙ plus_zero_lem true))

-- ---- +0 in front of a value
from_plus : (t : Bool) (b c : ℕ) → 0 < b → sum binary64 false 0 t b c ≡ round binary64 t b c
unfolding sum
from_plus false b c h = ap (λ (n : ℕ). round binary64 false n c) (omega arith)
from_plus true b c h = rw (lt-ltb 0 b h) (ap (λ (n : ℕ). round binary64 true n c) (omega arith))

zero_plus_zero : (t : Bool) (x : Float) → x ≡ fin t 0 (pos 0) → Alike x (fin false 0 (pos 0) ⊕ x)
zero_plus_zero false x e = inl (rw e (sym (plus_zero_lem false)))
zero_plus_zero true x e = inr (e, rw e (plus_zero_lem true))

pub zero_plus : (p : Float) → T (fits binary64 p) → Alike p (fin false 0 (pos 0) ⊕ p)
unfolding add
zero_plus nan h = inl refl
zero_plus (inf t) h = inl refl
zero_plus (fin t (suc n) d) h = inl (sym (rw (zero-mul (down d), mul-one (suc n * up d), one-mul (down d)) (from_plus t (suc n * up d) (down d) (mul-pos (zero-lt-suc n) (up_pos d)) ∙ own t n d h)))
zero_plus (fin t zero d) h = zero_plus_zero t (fin t 0 d) (zero_is t d h)
