-- What is made of an edge by a length that is given is what the Rust makes of the edge where that length is the edge's own.
-- The stretch is defined so. The frame's z axis is scaled by 1 over the length, which is how a vector is normalized.
use mathlib.Core.Path.{◌≡◌, refl}
use lib.Ieee.{Float}
use Rattle.vectors.specs.Vec3.{vec3_sub, vec3_norm, vec3_normalize}
use Rattle.vectors.specs.declared.vec3.Vec3.{Vec3}
use Rattle.elements.specs.Spring3.{stretch_of_length, wdwddw_squared_length_difference}
use Rattle.elements.specs.Darboux.{edge_frame, edge_frame_of_length}

pub stretch_of_own_length : (stiffness : Float) (p0 p1 : Vec3) (l ini : Float) → l ≡ vec3_norm (vec3_sub p0 p1) → stretch_of_length stiffness p0 p1 l ini ≡ wdwddw_squared_length_difference stiffness p0 p1 ini
unfolding wdwddw_squared_length_difference
stretch_of_own_length stiffness p0 p1 l ini e = rw e refl

pub frame_of_own_length : (p0 p1 ux : Vec3) (len : Float) → len ≡ vec3_norm (vec3_sub p1 p0) → edge_frame_of_length p0 p1 ux len ≡ edge_frame p0 p1 ux
unfolding edge_frame edge_frame_of_length vec3_normalize
frame_of_own_length p0 p1 ux len e = rw e refl
