-- How a sample is written down: for three vertices, numbers by their bits, vertex by vertex, and a matrix's in the order of the area.
use Rattle.std.specs.Prelude.{Bool, ◌&&◌, ℕ, eqb, Float}
use mathlib.Core.List.{List, ◌∷◌, ◌++◌, map, flat_map}
use Rattle.vectors.specs.Samples.{have_bits}
use Rattle.vectors.specs.declared.vec4.Vec4.{Vec4}
use Rattle.vectors.specs.declared.mat4.Mat4.{Mat4}
use Rattle.elements.specs.Written.{number}
use Rattle.matrix.specs.Rows.{rows3, rows4, flat4, numbers16}
use Rattle.matrix.specs.SparseSquare.{matrix_rows}
use Rattle.matrix.specs.System.{System}
use Rattle.matrix.specs.HairSystem.{Shape}
use Rattle.matrix.specs.ConjugateGradient.{Outcome}

abbrev numbers_of : List ℕ → List Float
numbers_of bs = map number bs

abbrev pub shape_of : List ℕ → List ℕ → Shape
shape_of ps fs = record { positions = rows3 (numbers_of ps) 0 3; frames = rows3 (numbers_of fs) 0 3 }

abbrev pub vector_of : List ℕ → List Vec4
vector_of bs = rows4 (numbers_of bs) 0 3

abbrev pub blocks_of : List ℕ → List (List Mat4)
blocks_of bs = matrix_rows (numbers_of bs) 3

abbrev pub system_of : List ℕ → List ℕ → System
system_of g m = record { gradient = vector_of g; rows = blocks_of m }

abbrev pub block_numbers : List (List Mat4) → List Float
block_numbers rows = flat_map (flat_map numbers16) rows

abbrev pub system_numbers : System → List Float
system_numbers s = flat4 s.gradient ++ block_numbers s.rows

-- Whether a solve answers so: the count, the ratio's bits and the solution's.
abbrev pub has_outcome : Outcome → ℕ → ℕ → List ℕ → Bool
has_outcome o k x u = eqb o.count k && have_bits (o.ratio ∷ flat4 o.left.u) (x ∷ u)
