-- How a sample is written down: numbers by their bits, and an element's result as a list of numbers in the order of the Rust's arrays.
use Rattle.std.specs.Prelude.{List, [], ◌∷◌, ◌++◌, ℕ, Float}
use Rattle.std.specs.Float.{binary64}
use Rattle.std.specs.Float.Ieee.{of_bits}
use Rattle.vectors.specs.Vec3.{vec3}
use Rattle.vectors.specs.Samples.{vec3_numbers, vec4_numbers, mat3_numbers}
use Rattle.vectors.specs.declared.vec3.Vec3.{Vec3}
use Rattle.vectors.specs.declared.mat4.Mat4.{Mat4}
use Rattle.elements.specs.declared.spring3.Stretch.{Stretch}
use Rattle.elements.specs.declared.rod3_darboux.Rod.{Rod}
use Rattle.elements.specs.declared.rod3_darboux.RodFrame.{RodFrame}
use Rattle.elements.specs.declared.rod3_darboux.FrameAxis.{FrameAxis}
use Rattle.elements.specs.declared.rod3_darboux.FrameGradient.{FrameGradient}
use Rattle.elements.specs.declared.rod3_darboux.Gradient.{Gradient}
use Rattle.elements.specs.declared.rod3_darboux.DarbouxGradient.{DarbouxGradient}
use Rattle.elements.specs.declared.rod3_darboux.bend.BendRow.{BendRow}
use Rattle.elements.specs.declared.rod3_darboux.bend.Bend.{Bend}

abbrev pub number : ℕ → Float
number b = of_bits binary64 b

abbrev pub v3 : ℕ → ℕ → ℕ → Vec3
v3 a b c = vec3 (number a) (number b) (number c)

abbrev pub rod_of : Vec3 → Vec3 → Vec3 → Vec3 → Vec3 → Rod
rod_of a b c f g = record { p0 = a; p1 = b; p2 = c; x0 = f; x1 = g }

abbrev pub frame_of : Vec3 → Vec3 → Vec3 → RodFrame
frame_of a b c = record { x = a; y = b; z = c }

abbrev pub gradient_of : Vec3 → Vec3 → Vec3 → ℕ → ℕ → Gradient
gradient_of a b c d e = record { p0 = a; p1 = b; p2 = c; t0 = number d; t1 = number e }

abbrev pub mat4_numbers : Mat4 → List Float
mat4_numbers m = vec4_numbers m.c0 ++ vec4_numbers m.c1 ++ vec4_numbers m.c2 ++ vec4_numbers m.c3

abbrev pub stretch_numbers : Stretch → List Float
stretch_numbers s = s.w ∷ vec3_numbers s.dw0 ++ vec3_numbers s.dw1 ++ mat3_numbers s.same

abbrev axis_numbers : FrameAxis → List Float
axis_numbers a = mat3_numbers a.dv ++ vec3_numbers a.dt

abbrev pub frame_gradient_numbers : FrameGradient → List Float
frame_gradient_numbers g = axis_numbers g.x ++ axis_numbers g.y ++ axis_numbers g.z

abbrev pub gradient_numbers : Gradient → List Float
gradient_numbers g = vec3_numbers g.p0 ++ vec3_numbers g.p1 ++ vec3_numbers g.p2 ++ (g.t0 ∷ g.t1 ∷ [])

abbrev pub darboux_numbers : DarbouxGradient → List Float
darboux_numbers d = vec3_numbers d.c ++ gradient_numbers d.d0 ++ gradient_numbers d.d1 ++ gradient_numbers d.d2

abbrev row_numbers : BendRow → List Float
row_numbers r = mat4_numbers r.b0 ++ mat4_numbers r.b1 ++ mat4_numbers r.b2

abbrev pub bend_numbers : Bend → List Float
bend_numbers b = b.w ∷ vec4_numbers b.dw0 ++ vec4_numbers b.dw1 ++ vec4_numbers b.dw2 ++ row_numbers b.row0 ++ row_numbers b.row1 ++ row_numbers b.row2
