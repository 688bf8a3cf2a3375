-- Stretch: spring3.rs, `wdwddw_squared_length_difference`.
use Rattle.std.specs.Prelude.{◌≡◌, Float}
use Rattle.std.specs.Float.Ieee.{neg}
use Rattle.vectors.specs.Number.{◌⊖◌, ◌⊗◌, ◌⊘◌, plus_one}
use Rattle.vectors.specs.Signs.{plus, Side}
use Rattle.vectors.specs.Vec3.{vec3_sub, vec3_scale, vec3_norm}
use Rattle.vectors.specs.Mat3.{mat3_add, mat3_scale, mat3_identity, mat3_scaled_outer_product}
use Rattle.vectors.specs.declared.vec3.Vec3.{Vec3}
use Rattle.vectors.specs.declared.mat3.Mat3.{Mat3}
use Rattle.elements.specs.Square.{half, square}
use Rattle.elements.specs.declared.spring3.Stretch.{Stretch}

-- the energy alone: line 26, with c of line 16
unfoldable pub stretch_energy : Float → Vec3 → Vec3 → Float → Float
stretch_energy stiffness p0 p1 ini = square (half ⊗ stiffness) (ini ⊖ vec3_norm (vec3_sub p0 p1))

-- the block m: lines 18 to 24
unfoldable pub stretch_block : Float → Vec3 → Float → Float → Mat3
stretch_block stiffness v l ini =
    let t0 = stiffness ⊗ ini ⊘ (l ⊗ l ⊗ l) in
    let t1 = stiffness ⊗ (l ⊖ ini) ⊘ l in
    mat3_add (mat3_scale (mat3_scaled_outer_product plus_one v v) t0) (mat3_scale mat3_identity t1)

-- lines 14 to 27 with l given; of the four blocks, m stands on the diagonal and m times -1 beside it (line 25)
unfoldable pub stretch_of_length : Float → Vec3 → Vec3 → Float → Float → Stretch
stretch_of_length stiffness p0 p1 l ini =
    let v = vec3_sub p0 p1 in
    let c = ini ⊖ l in
    let m = stretch_block stiffness v l ini in
    record {
      w = square (half ⊗ stiffness) c;
      dw0 = vec3_scale v (neg c ⊗ stiffness ⊘ l);
      dw1 = vec3_scale v (c ⊗ stiffness ⊘ l);
      same = m;
      other = mat3_scale m (neg plus_one);
    }

-- l is the norm of v: line 15
unfoldable pub wdwddw_squared_length_difference : Float → Vec3 → Vec3 → Float → Stretch
wdwddw_squared_length_difference stiffness p0 p1 ini = stretch_of_length stiffness p0 p1 (vec3_norm (vec3_sub p0 p1)) ini

-- By the edge's own length it is the published stretch.
abbrev pub StretchOfOwnLength : Type 0
StretchOfOwnLength = (stiffness : Float) (p0 p1 : Vec3) (l ini : Float) → l ≡ vec3_norm (vec3_sub p0 p1) → stretch_of_length stiffness p0 p1 l ini ≡ wdwddw_squared_length_difference stiffness p0 p1 ini

-- The energy that the element answers is the one defined alone.
abbrev pub StretchAnswersEnergy : Type 0
StretchAnswersEnergy = (stiffness : Float) (p0 p1 : Vec3) (ini : Float) → (wdwddw_squared_length_difference stiffness p0 p1 ini).w ≡ stretch_energy stiffness p0 p1 ini

-- Where the stiffness is not below 0, neither is the energy; NaN counts as not below 0 in both.
abbrev pub StretchNotBelow : Type 0
StretchNotBelow = (stiffness : Float) (p0 p1 : Vec3) (ini : Float) → Side plus stiffness → Side plus (stretch_energy stiffness p0 p1 ini)
