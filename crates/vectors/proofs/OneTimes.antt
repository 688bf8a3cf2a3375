-- 1 times a value of the format is that value. Of a finite one the product is its own fraction, which rounds to it; zero, infinity and NaN are computed.
use mathlib.Core.Path.{◌≡◌, refl}
use mathlib.Core.Bool.{Bool, true, false}
use Prim.Native.Nat.{zero, suc}
use native.Mathlib.Nat.{one-mul, zero-lt-suc}
use lib.Dec.{T}
use lib.IntN.{pos}
use lib.Ieee.{Float, nan, inf, fin, binary64, fits, mul}
use Rattle.vectors.specs.Number.{◌⊗◌, plus_one, plus_one_is, OneTimes}
use Rattle.vectors.specs.Vec4.{vec4_scale}
use Rattle.vectors.specs.Fits.{Vec4Fits}
use Rattle.vectors.specs.declared.vec4.Vec4.{Vec4}
use Rattle.vectors.proofs.Finiteness.{zero_rounded}
use Rattle.vectors.proofs.OwnFraction.{own, zero_is}

by_one_zero : (t : Bool) → fin false 1 (pos 0) ⊗ fin t 0 (pos 0) ≡ fin t 0 (pos 0)
unfolding mul
by_one_zero false = zero_rounded false 1 (zero-lt-suc 0)
by_one_zero true = zero_rounded true 1 (zero-lt-suc 0)

as_zero : (t : Bool) (x : Float) → x ≡ fin t 0 (pos 0) → fin false 1 (pos 0) ⊗ x ≡ x
as_zero t x e = rw e (by_one_zero t)

by_one : (x : Float) → T (fits binary64 x) → fin false 1 (pos 0) ⊗ x ≡ x
unfolding mul
by_one nan h = refl
by_one (inf false) h = refl
by_one (inf true) h = refl
by_one (fin t zero d) h = as_zero t (fin t 0 d) (zero_is t d h)
by_one (fin false (suc n) d) h = rw (one-mul, one-mul) (own false n d h)
by_one (fin true (suc n) d) h = rw (one-mul, one-mul) (own true n d h)

pub one_times : OneTimes
one_times x h = rw plus_one_is (by_one x h)

pub vec4_by_one : (v : Vec4) → Vec4Fits v → vec4_scale v plus_one ≡ v
unfolding vec4_scale
vec4_by_one v h = rw (one_times v.x h.0, one_times v.y h.1, one_times v.z h.2, one_times v.w h.3)
