-- The Darboux vector of two neighbouring edges and its gradient: rod3_darboux.rs, lines 43 to 63 and 165 to 308.
use Rattle.std.specs.Prelude.{◌≡◌, Float}
use Rattle.std.specs.Float.Ieee.{neg}
use Rattle.vectors.specs.Number.{◌⊕◌, ◌⊖◌, ◌⊗◌, ◌⊘◌, plus_zero, plus_one}
use Rattle.vectors.specs.Vec3.{vec3, vec3_add, vec3_sub, vec3_scale, vec3_dot, vec3_norm, vec3_normalize, vec3_cross}
use Rattle.vectors.specs.Mat3.{mat3_scale, mat3_scaled_outer_product, mat3_projection, vec3_times_mat3}
use Rattle.vectors.specs.declared.vec3.Vec3.{Vec3}
use Rattle.vectors.specs.declared.mat3.Mat3.{Mat3}
use Rattle.elements.specs.declared.rod3_darboux.Rod.{Rod}
use Rattle.elements.specs.declared.rod3_darboux.RodFrame.{RodFrame}
use Rattle.elements.specs.declared.rod3_darboux.EdgeFrame.{EdgeFrame}
use Rattle.elements.specs.declared.rod3_darboux.FrameAxis.{FrameAxis}
use Rattle.elements.specs.declared.rod3_darboux.FrameGradient.{FrameGradient}
use Rattle.elements.specs.declared.rod3_darboux.Gradient.{Gradient}
use Rattle.elements.specs.declared.rod3_darboux.DarbouxAxis.{DarbouxAxis}
use Rattle.elements.specs.declared.rod3_darboux.DarbouxGradient.{DarbouxGradient}

abbrev pub zero_vec3 : Vec3
zero_vec3 = vec3 plus_zero plus_zero plus_zero

-- the frame and the length of an edge: lines 244 to 250, and 251 to 257 for the second edge
unfoldable pub edge_frame : Vec3 → Vec3 → Vec3 → EdgeFrame
edge_frame p0 p1 ux =
    let v = vec3_sub p1 p0 in
    let uz = vec3_normalize v in
    let f : RodFrame = record { x = ux; y = vec3_cross uz ux; z = uz } in
    record { frame = f; length = vec3_norm v }

-- the same lines with len given: it stands for the norm, also in `normalize`, which multiplies by 1 / norm (document 01, "Vectors")
unfoldable pub edge_frame_of_length : Vec3 → Vec3 → Vec3 → Float → EdgeFrame
edge_frame_of_length p0 p1 ux len =
    let uz = vec3_scale (vec3_sub p1 p0) (plus_one ⊘ len) in
    let f : RodFrame = record { x = ux; y = vec3_cross uz ux; z = uz } in
    record { frame = f; length = len }

-- By the edge's own length it is the edge's frame.
abbrev pub FrameOfOwnLength : Type 0
FrameOfOwnLength = (p0 p1 ux : Vec3) (len : Float) → len ≡ vec3_norm (vec3_sub p1 p0) → edge_frame_of_length p0 p1 ux len ≡ edge_frame p0 p1 ux

abbrev pub frame_axis : Vec3 → Mat3 → Vec3 → FrameAxis
frame_axis f dvs dts = record { axis = f; dv = dvs; dt = dts }

-- `rod_frame_gradient`, lines 43 to 63: an axis with its derivatives dfdv and dfdt
unfoldable pub rod_frame_gradient : Float → RodFrame → FrameGradient
rod_frame_gradient len f =
    let leninv = plus_one ⊘ len in
    record {
      x = frame_axis f.x (mat3_scaled_outer_product (neg leninv) f.z f.x) f.y;
      y = frame_axis f.y (mat3_scaled_outer_product (neg leninv) f.z f.y) (vec3_scale f.x (neg plus_one));
      z = frame_axis f.z (mat3_scale (mat3_projection f.z) leninv) zero_vec3;
    }

unfoldable pub no_gradient : Gradient
no_gradient = record { p0 = zero_vec3; p1 = zero_vec3; p2 = zero_vec3; t0 = plus_zero; t1 = plus_zero }

-- `add_gradient_of_dot_frame_axis`, lines 165 to 197, for the axis a of the first frame and b of the second
unfoldable pub add_gradient_of_dot_frame_axis : Gradient → Float → FrameAxis → FrameAxis → Gradient
add_gradient_of_dot_frame_axis g c a b =
    let s = vec3_scale (vec3_times_mat3 b.axis a.dv) c in
    let t = vec3_scale (vec3_times_mat3 a.axis b.dv) c in
    record {
      p0 = vec3_sub g.p0 s;
      p1 = vec3_sub (vec3_add g.p1 s) t;
      p2 = vec3_add g.p2 t;
      t0 = g.t0 ⊕ c ⊗ vec3_dot b.axis a.dt;
      t1 = g.t1 ⊕ c ⊗ vec3_dot a.axis b.dt;
    }

-- s, lines 224 and 261: ((1 + d0) + d1) + d2
unfoldable pub darboux_denominator : RodFrame → RodFrame → Float
darboux_denominator a b = plus_one ⊕ vec3_dot a.x b.x ⊕ vec3_dot a.y b.y ⊕ vec3_dot a.z b.z

-- dsdp and dsdt, lines 262 to 276
unfoldable pub denominator_gradient : FrameGradient → FrameGradient → Gradient
denominator_gradient a b =
    let g0 = add_gradient_of_dot_frame_axis no_gradient plus_one a.x b.x in
    let g1 = add_gradient_of_dot_frame_axis g0 plus_one a.y b.y in
    add_gradient_of_dot_frame_axis g1 plus_one a.z b.z

-- the Darboux vector of two frames: lines 224 to 230
unfoldable pub darboux_of : RodFrame → RodFrame → Vec3
darboux_of a b =
    let s = darboux_denominator a b in
    vec3
    ((vec3_dot a.y b.z ⊖ vec3_dot a.z b.y) ⊘ s)
    ((vec3_dot a.z b.x ⊖ vec3_dot a.x b.z) ⊘ s)
    ((vec3_dot a.x b.y ⊖ vec3_dot a.y b.x) ⊘ s)

-- `darboux_rod`, lines 199 to 231
unfoldable pub darboux_rod : Rod → Vec3
darboux_rod rod = darboux_of (edge_frame rod.p0 rod.p1 rod.x0).frame (edge_frame rod.p1 rod.p2 rod.x1).frame

-- lines 300 to 304: dudp scaled by t0 with dsdp scaled by t1 added, and the twists alike
unfoldable pub combined_gradient : Gradient → Float → Gradient → Float → Gradient
combined_gradient a s b t =
    record {
      p0 = vec3_add (vec3_scale a.p0 s) (vec3_scale b.p0 t);
      p1 = vec3_add (vec3_scale a.p1 s) (vec3_scale b.p1 t);
      p2 = vec3_add (vec3_scale a.p2 s) (vec3_scale b.p2 t);
      t0 = a.t0 ⊗ s ⊕ b.t0 ⊗ t;
      t1 = a.t1 ⊗ s ⊕ b.t1 ⊗ t;
    }

-- one turn of the loop over the axes, lines 281 to 305, for the axes j and k after the turn's own; t1 is (-u) / (s s)
unfoldable pub darboux_axis : Float → Gradient → FrameAxis → FrameAxis → FrameAxis → FrameAxis → DarbouxAxis
darboux_axis s ds aj ak bj bk =
    let u = vec3_dot aj.axis bk.axis ⊖ vec3_dot ak.axis bj.axis in
    let du0 = add_gradient_of_dot_frame_axis no_gradient plus_one aj bk in
    let du = add_gradient_of_dot_frame_axis du0 (neg plus_one) ak bj in
    record { c = u ⊘ s; d = combined_gradient du (plus_one ⊘ s) ds (neg u ⊘ (s ⊗ s)) }

-- the Darboux vector of two edges with its gradient: lines 259 to 307; the axes after i are (i + 1) % 3 and (i + 2) % 3
unfoldable pub cdc_of : EdgeFrame → EdgeFrame → DarbouxGradient
cdc_of ea eb =
    let a = rod_frame_gradient ea.length ea.frame in
    let b = rod_frame_gradient eb.length eb.frame in
    let s = darboux_denominator ea.frame eb.frame in
    let ds = denominator_gradient a b in
    let r0 = darboux_axis s ds a.y a.z b.y b.z in
    let r1 = darboux_axis s ds a.z a.x b.z b.x in
    let r2 = darboux_axis s ds a.x a.y b.x b.y in
    record { c = vec3 r0.c r1.c r2.c; d0 = r0.d; d1 = r1.d; d2 = r2.d }

-- `cdc_rod_darboux`, lines 234 to 308
unfoldable pub cdc_rod_darboux : Rod → DarbouxGradient
cdc_rod_darboux rod = cdc_of (edge_frame rod.p0 rod.p1 rod.x0) (edge_frame rod.p1 rod.p2 rod.x1)
