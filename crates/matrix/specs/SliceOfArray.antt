-- Vectors as lists of rows: slice_of_array.rs.
use mathlib.Core.List.{List, [], ◌∷◌, zip_with}
use Rattle.std.specs.Prelude.{ℕ, Float}
use Rattle.vectors.specs.Number.{◌⊕◌, plus_zero}
use Rattle.vectors.specs.Vec4.{vec4_add, vec4_scale, vec4_dot}
use Rattle.vectors.specs.declared.vec4.Vec4.{Vec4}
use Rattle.matrix.specs.Parts.{table}
use Rattle.matrix.specs.Rows.{zero_row}

-- `set_zero`, lines 1 to 6
unfoldable pub zero_rows : ℕ → List Vec4
zero_rows n = table n (λ _. zero_row)

-- `dot`, lines 8 to 16: s and the rows' products, upward; it begins with +0
unfoldable pub dot_from : Float → List Vec4 → List Vec4 → Float
dot_from s [] bs = s
dot_from s (a ∷ xs) [] = s
dot_from s (a ∷ xs) (b ∷ bs) = dot_from (s ⊕ vec4_dot a b) xs bs

unfoldable pub dot_rows : List Vec4 → List Vec4 → Float
dot_rows a b = dot_from plus_zero a b

-- `add_scaled_vector`, lines 26 to 35: u + alpha p
unfoldable pub add_scaled_vector : List Vec4 → Float → List Vec4 → List Vec4
add_scaled_vector u alpha p = zip_with (λ (x y : Vec4). vec4_add x (vec4_scale y alpha)) u p

-- `scale_and_add_vec`, lines 37 to 47: r + beta p
unfoldable pub scale_and_add_vec : List Vec4 → Float → List Vec4 → List Vec4
scale_and_add_vec p beta r = zip_with (λ (x y : Vec4). vec4_add y (vec4_scale x beta)) p r
