-- Finite numbers: how the code tells them, and what a caller may conclude.
-- A finite number less itself is a fraction with the numerator 0, which rounds to +0; any other number less itself is NaN.
use mathlib.Core.Path.{◌≡◌, refl, sym, ◌∙◌}
use mathlib.Core.Logic.{◌⊎◌, inl, inr, ◌↔◌}
use mathlib.Core.Bool.{Bool, true, false, not, ◌&&◌}
use Prim.Native.Nat.{ℕ, ◌*◌, ◌<◌}
use native.Mathlib.Nat.{zero-mul, le_refl, sub_self, mul-pos}
use lib.IntN.{ℤ, pos}
use lib.Dec.{T, lit<}
use lib.Ieee.{Float, nan, inf, fin, binary64, up, down, round, sum, sub, eq, of_bits}
use lib.Ieee.Fits.{down_pos, and_i, and_l, and_r}
use lib.Ieee.Scale.{round_same}
use borrow.Author.Tests.{le-ltb}
use Rattle.std.specs.Float.{float_is_finite}
use Rattle.vectors.specs.Finite.{is_finite, vec3_is_finite, vec4_is_finite, mat4_is_finite, FiniteTests}
use Rattle.vectors.specs.declared.vec3.Vec3.{Vec3}
use Rattle.vectors.specs.declared.vec4.Vec4.{Vec4}
use Rattle.vectors.specs.declared.mat4.Mat4.{Mat4}

pub zero_rounded : (s : Bool) (c : ℕ) → 0 < c → round binary64 s 0 c ≡ fin s 0 (pos 0)
unfolding round
zero_rounded true c h = round_same binary64 true 0 c 0 1 h (lit< tt) (sym (zero-mul c)) ∙ refl
zero_rounded false c h = round_same binary64 false 0 c 0 1 h (lit< tt) (sym (zero-mul c)) ∙ refl

cancelled : (s : Bool) (a c : ℕ) → 0 < c → sum binary64 s a (not s) a c ≡ fin false 0 (pos 0)
unfolding sum
cancelled true a c h = simp (le-ltb a a (le_refl a), sub_self a) (zero_rounded false c h)
cancelled false a c h = simp (le-ltb a a (le_refl a), sub_self a) (zero_rounded false c h)

pub by_difference : (x : Float) → eq (sub binary64 x x) (of_bits binary64 0) ≡ is_finite x
unfolding sub eq of_bits float_is_finite
by_difference nan = refl
by_difference (inf true) = refl
by_difference (inf false) = refl
by_difference (fin s m e) = rw (cancelled s (m * up e * down e) (down e * down e) (mul-pos (down_pos e) (down_pos e)))

-- ---- `is_finite` decides
pub finite_form : (x : Float) → T (is_finite x) → (s : Bool) × ((m : ℕ) × ((e : ℤ) × (x ≡ fin s m e)))
unfolding float_is_finite
finite_form nan h = absurd h
finite_form (inf s) h = absurd h
finite_form (fin s m e) h = (s, (m, (e, refl)))

pub other_form : (x : Float) → T (not (is_finite x)) → (x ≡ nan) ⊎ ((s : Bool) × (x ≡ inf s))
unfolding float_is_finite
other_form nan h = inl refl
other_form (inf s) h = inr (s, refl)
other_form (fin s m e) h = absurd h

-- ---- a vector or a block is finite exactly where its numbers are
pub vec3_finite : (v : Vec3) → T (vec3_is_finite v) ↔ (T (is_finite v.x) × T (is_finite v.y) × T (is_finite v.z))
unfolding vec3_is_finite
vec3_finite v =
    let a = is_finite v.x in
    let b = is_finite v.y in
    let c = is_finite v.z in
    (λ h. (and_l a b (and_l (a && b) c h), and_r a b (and_l (a && b) c h), and_r (a && b) c h), λ h. and_i (a && b) c (and_i a b h.0 h.1) h.2)

four : (a b c d : Bool) → T (a && b && c && d) ↔ (T a × T b × T c × T d)
four a b c d = (
  λ h. let i = and_l (a && b && c) d h in let j = and_l (a && b) c i in (and_l a b j, and_r a b j, and_r (a && b) c i, and_r (a && b && c) d h),
  λ h. and_i (a && b && c) d (and_i (a && b) c (and_i a b h.0 h.1) h.2) h.3,
)

pub vec4_finite : (v : Vec4) → T (vec4_is_finite v) ↔ (T (is_finite v.x) × T (is_finite v.y) × T (is_finite v.z) × T (is_finite v.w))
unfolding vec4_is_finite
vec4_finite v = four (is_finite v.x) (is_finite v.y) (is_finite v.z) (is_finite v.w)

pub mat4_finite : (m : Mat4) → T (mat4_is_finite m) ↔ (T (vec4_is_finite m.c0) × T (vec4_is_finite m.c1) × T (vec4_is_finite m.c2) × T (vec4_is_finite m.c3))
unfolding mat4_is_finite
mat4_finite m = four (vec4_is_finite m.c0) (vec4_is_finite m.c1) (vec4_is_finite m.c2) (vec4_is_finite m.c3)

-- ---- all together
pub finite_tests : FiniteTests
finite_tests = record { by_difference = by_difference; finite_form = finite_form; other_form = other_form; vec3_finite = vec3_finite; vec4_finite = vec4_finite; mat4_finite = mat4_finite }
