-- The turned frame: rod3_darboux.rs, `updated_rod_frame`, lines 23 to 35, of which only the x axis is used.
use Rattle.std.specs.Prelude.{Float}
use Rattle.vectors.specs.Number.{◌⊕◌, plus_one}
use Rattle.vectors.specs.Vec3.{vec3_add, vec3_scale, vec3_dot, vec3_normalize, vec3_cross}
use Rattle.vectors.specs.Angle.{sine_of, cosine_of}
use Rattle.vectors.specs.Rotation.{rotated_of}
use Rattle.vectors.specs.declared.vec3.Vec3.{Vec3}
use Rattle.elements.specs.declared.rod3_darboux.turned.TurnedFrame.{TurnedFrame}

-- one_plus_cosine is 1 + c of document 01, "Update", which refusal 10 tests
unfoldable pub updated_rod_frame : Vec3 → Vec3 → Vec3 → Float → TurnedFrame
updated_rod_frame ux0 z0 dz dtheta =
    let uz0 = vec3_normalize z0 in
    let uz2 = vec3_normalize (vec3_add z0 dz) in
    let uy0 = vec3_cross uz0 ux0 in
    let ux1 = vec3_add (vec3_scale ux0 (cosine_of dtheta)) (vec3_scale uy0 (sine_of dtheta)) in
    record { x = rotated_of uz0 uz2 ux1; one_plus_cosine = plus_one ⊕ vec3_dot uz0 uz2 }
