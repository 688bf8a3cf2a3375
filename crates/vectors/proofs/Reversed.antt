-- The norm of a difference is the same number either way round: a - b and b - a have the same magnitude, and a square depends on nothing else.
use mathlib.Core.Path.{◌≡◌, refl, sym, ap, ◌∙◌}
use mathlib.Core.Bool.{Bool, true, false, not, cond}
use Prim.Native.Nat.{ℕ, zero, suc, ◌+◌, ◌-◌, ◌*◌, ◌^◌}
use native.Mathlib.Nat.{mul_comm}
use native.Mathlib.Omega.{arith}
use lib.Dec.{ltb}
use lib.Ieee.{Float, Format, binary64, nan, inf, fin, low, prec, emax, up, down, odd, units, round, neg, sum, add, sub, mul}
use borrow.Author.Tests.{ltb-true, ltb-false}
use Rattle.vectors.specs.Vec3.{vec3_sub, vec3_dot, vec3_norm}
use Rattle.vectors.specs.declared.vec3.Vec3.{Vec3}

unfoldable magnitude : Float → Float
magnitude nan = nan
magnitude (inf s) = inf false
magnitude (fin s m e) = fin false m e

square_of : (f : Format) (x : Float) → mul f x x ≡ mul f (magnitude x) (magnitude x)
unfolding mul magnitude
square_of f nan = refl
square_of f (inf false) = refl
square_of f (inf true) = refl
square_of f (fin false m e) = refl
square_of f (fin true m e) = refl

magnitude_odd : (d : ℕ) (s t : Bool) (q k l : ℕ) → magnitude (odd d s q k l) ≡ magnitude (odd d t q k l)
unfolding odd magnitude
magnitude_odd d s t zero k l = refl
magnitude_odd d s t (suc q) k l = refl

magnitude_cond : (b : Bool) (x y u v : Float) → magnitude x ≡ magnitude u → magnitude y ≡ magnitude v → magnitude (cond b x y) ≡ magnitude (cond b u v)
magnitude_cond true x y u v p q = p
magnitude_cond false x y u v p q = q

magnitude_inf : (s t : Bool) → magnitude (inf s) ≡ magnitude (inf t)
unfolding magnitude
magnitude_inf s t = refl

magnitude_units : (f : Format) (s t : Bool) (q k : ℕ) → magnitude (units f s q k) ≡ magnitude (units f t q k)
unfolding units
magnitude_units f s t q k = magnitude_cond (ltb (q * 2 ^ k) (2 ^ (low f + suc (emax f)))) _ _ _ _ (magnitude_odd (suc (prec f)) s t q k (low f)) (magnitude_inf s t)

magnitude_round : (f : Format) (s t : Bool) (a c : ℕ) → magnitude (round f s a c) ≡ magnitude (round f t a c)
unfolding round
magnitude_round f s t a c = magnitude_units f s t _ _

-- a sum of unlike signs, by which of both is the larger
magnitude_unlike : (f : Format) (a b c : ℕ) (s t u v p q : Bool) → ltb a b ≡ p → ltb b a ≡ q → magnitude (cond p (round f s (b - a) c) (round f t (a - b) c)) ≡ magnitude (cond q (round f u (a - b) c) (round f v (b - a) c))
magnitude_unlike f a b c s t u v true false g h = magnitude_round f s v (b - a) c
magnitude_unlike f a b c s t u v false true g h = magnitude_round f t u (a - b) c
magnitude_unlike f a b c s t u v true true g h = let e : a - b ≡ b - a = omega (arith, ltb-true a b g, ltb-true b a h) in rw e (magnitude_round f s u (b - a) c)
magnitude_unlike f a b c s t u v false false g h = let e : a - b ≡ b - a = omega (arith, ltb-false a b g, ltb-false b a h) in rw e (magnitude_round f t v (b - a) c)

magnitude_sum : (f : Format) (s t : Bool) (a b c : ℕ) → magnitude (sum f s a (not t) b c) ≡ magnitude (sum f t b (not s) a c)
unfolding sum
magnitude_sum f false false a b c = magnitude_unlike f a b c true false true false _ _ refl refl
magnitude_sum f true true a b c = magnitude_unlike f a b c false (ltb b a) false (ltb a b) _ _ refl refl
magnitude_sum f true false a b c = let e : a + b ≡ b + a = omega arith in rw e (magnitude_round f true false (b + a) c)
magnitude_sum f false true a b c = let e : a + b ≡ b + a = omega arith in rw e (magnitude_round f false true (b + a) c)

magnitude_sub : (f : Format) (x y : Float) → magnitude (sub f x y) ≡ magnitude (sub f y x)
unfolding sub add neg magnitude
magnitude_sub f nan nan = refl
magnitude_sub f nan (inf t) = refl
magnitude_sub f nan (fin t n d) = refl
magnitude_sub f (inf s) nan = refl
magnitude_sub f (inf false) (inf false) = refl
magnitude_sub f (inf false) (inf true) = refl
magnitude_sub f (inf true) (inf false) = refl
magnitude_sub f (inf true) (inf true) = refl
magnitude_sub f (inf s) (fin t n d) = refl
magnitude_sub f (fin s m e) nan = refl
magnitude_sub f (fin s m e) (inf t) = refl
magnitude_sub f (fin s m e) (fin t n d) = rw (mul_comm (down e) (down d)) (magnitude_sum f s t (m * up e * down d) (n * up d * down e) (down d * down e))

square_reversed : (f : Format) (x y : Float) → mul f (sub f x y) (sub f x y) ≡ mul f (sub f y x) (sub f y x)
square_reversed f x y = square_of f (sub f x y) ∙ ap (λ (z : Float). mul f z z) (magnitude_sub f x y) ∙ sym (square_of f (sub f y x))

pub norm_reversed : (a b : Vec3) → vec3_norm (vec3_sub a b) ≡ vec3_norm (vec3_sub b a)
unfolding vec3_norm vec3_dot vec3_sub
norm_reversed a b = rw (square_reversed binary64 a.x b.x, square_reversed binary64 a.y b.y, square_reversed binary64 a.z b.z)
