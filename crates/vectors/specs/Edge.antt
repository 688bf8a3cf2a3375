-- The length of an edge, and which lengths are accepted.
use Rattle.std.specs.Prelude.{◌≡◌, Bool, ◌&&◌, Float}
use Rattle.std.specs.Float.Ieee.{lt}
use Rattle.roots.specs.Sqrt.{sqrt_of}
use Rattle.vectors.specs.Number.{plus_zero}
use Rattle.vectors.specs.Vec3.{vec3_sub, vec3_dot, vec3_norm}
use Rattle.vectors.specs.Finite.{is_finite}
use Rattle.vectors.specs.declared.vec3.Vec3.{Vec3}
use Rattle.vectors.specs.declared.edge3.EdgeLength.{EdgeLength}

-- "squared length not finite or not above 0" is what refusal 7 declines
unfoldable pub acceptable : Float → Bool
acceptable squared = is_finite squared && lt plus_zero squared

unfoldable pub measured_of : Vec3 → EdgeLength
measured_of v = record { value = sqrt_of (vec3_dot v v); acceptable = acceptable (vec3_dot v v) }

-- `edge3::length` is the norm of the difference
unfoldable pub edge_length : Vec3 → Vec3 → EdgeLength
edge_length p0 p1 = measured_of (vec3_sub p1 p0)

-- An edge is as long from either end.
abbrev pub NormReversed : Type 0
NormReversed = (a b : Vec3) → vec3_norm (vec3_sub a b) ≡ vec3_norm (vec3_sub b a)
