-- Finite numbers, vectors and blocks: what document 01 means by "finite" in its table of refusals.
use Rattle.std.specs.Prelude.{◌≡◌, ◌⊎◌, ◌↔◌, Bool, not, ◌&&◌, ℕ, ℤ, T, Float}
use Rattle.std.specs.Float.{nan, inf, fin, binary64, float_is_finite}
use Rattle.std.specs.Float.Ieee.{of_bits, sub, eq}
use Rattle.vectors.specs.declared.vec3.Vec3.{Vec3}
use Rattle.vectors.specs.declared.vec4.Vec4.{Vec4}
use Rattle.vectors.specs.declared.mat4.Mat4.{Mat4}

-- neither NaN nor an infinity, as the library has it
abbrev pub is_finite : Float → Bool
is_finite = float_is_finite

unfoldable pub vec3_is_finite : Vec3 → Bool
vec3_is_finite v = is_finite v.x && is_finite v.y && is_finite v.z

unfoldable pub vec4_is_finite : Vec4 → Bool
vec4_is_finite v = is_finite v.x && is_finite v.y && is_finite v.z && is_finite v.w

unfoldable pub mat4_is_finite : Mat4 → Bool
mat4_is_finite m = vec4_is_finite m.c0 && vec4_is_finite m.c1 && vec4_is_finite m.c2 && vec4_is_finite m.c3

-- What the tests say.
pub record FiniteTests : Type 0 where
  -- a number is finite exactly where it less itself equals 0, which is how the code tells
  pub by_difference : (x : Float) → eq (sub binary64 x x) (of_bits binary64 0) ≡ is_finite x
  -- a finite number has a sign, a significand and an exponent
  pub finite_form : (x : Float) → T (is_finite x) → (s : Bool) × ((m : ℕ) × ((e : ℤ) × (x ≡ fin s m e)))
  -- every other number is NaN or infinite
  pub other_form : (x : Float) → T (not (is_finite x)) → (x ≡ nan) ⊎ ((s : Bool) × (x ≡ inf s))
  -- a vector or a block is finite exactly where its numbers are
  pub vec3_finite : (v : Vec3) → T (vec3_is_finite v) ↔ (T (is_finite v.x) × T (is_finite v.y) × T (is_finite v.z))
  pub vec4_finite : (v : Vec4) → T (vec4_is_finite v) ↔ (T (is_finite v.x) × T (is_finite v.y) × T (is_finite v.z) × T (is_finite v.w))
  pub mat4_finite : (m : Mat4) → T (mat4_is_finite m) ↔ (T (vec4_is_finite m.c0) × T (vec4_is_finite m.c1) × T (vec4_is_finite m.c2) × T (vec4_is_finite m.c3))
