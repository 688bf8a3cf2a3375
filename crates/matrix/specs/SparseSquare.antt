-- The product of the matrix and a vector, alpha times it and beta times the old one: sparse_square.rs, `mult_vec` of a borrowed matrix, lines 419 to 447.
use Rattle.std.specs.Prelude.{◌≡◌, List, [], ◌∷◌, ℕ, ◌+◌, ◌-◌, ◌*◌, get_or, Float}
use Rattle.vectors.specs.Number.{plus_zero, plus_one}
use Rattle.vectors.specs.Vec4.{vec4_add, vec4_scale}
use Rattle.vectors.specs.Mat4.{mat4_times_vec4}
use Rattle.vectors.specs.declared.vec4.Vec4.{Vec4}
use Rattle.vectors.specs.declared.mat4.Mat4.{Mat4}
use Rattle.matrix.specs.Parts.{part, table}
use Rattle.matrix.specs.Rows.{zero_row, zero_block, blocks16}
use Rattle.matrix.specs.Layout.{before, after, row_length, row_start}

-- lines 435 to 441: s and alpha times the products of blocks with rows, upward
unfoldable pub add_products : Float → Vec4 → List Mat4 → List Vec4 → Vec4
add_products alpha s [] xs = s
add_products alpha s (m ∷ ms) [] = s
add_products alpha s (m ∷ ms) (x ∷ xs) = add_products alpha (vec4_add s (vec4_scale (mat4_times_vec4 m x) alpha)) ms xs

-- Row i of n, with the blocks ms, times xs: the old product by beta (line 432), the blocks of the columns before the row's own, those after it, and the diagonal block last (lines 442 to 445).
unfoldable pub row_times : ℕ → ℕ → Float → Float → List Mat4 → List Vec4 → Vec4 → Vec4
row_times n i beta alpha ms xs old =
    let low = before i in
    let high = after n i in
    let s0 = vec4_scale old beta in
    let s1 = add_products alpha s0 (part ms 0 low) (part xs (i - low) low) in
    let s2 = add_products alpha s1 (part ms low high) (part xs (i + 1) high) in
    vec4_add s2 (vec4_scale (mat4_times_vec4 (get_or ms (low + high) zero_block) (get_or xs i zero_row)) alpha)

-- The rows of the matrix that stands at the beginning of the area l.
unfoldable pub matrix_rows : List Float → ℕ → List (List Mat4)
matrix_rows l n = table n (λ i. blocks16 l (16 * row_start n i) (row_length n i))

-- `mult_vec`, row by row, from the old product.
unfoldable pub mult_vec : ℕ → Float → Float → List (List Mat4) → List Vec4 → List Vec4 → List Vec4
mult_vec n beta alpha rows xs olds = table n (λ i. row_times n i beta alpha (get_or rows i []) xs (get_or olds i zero_row))

-- The product of a block and a row, each entry summed from its first term on and not from +0.
unfoldable pub times_from_first : Mat4 → Vec4 → Vec4
times_from_first a v =
    let s1 = vec4_add (vec4_scale a.c0 v.x) (vec4_scale a.c1 v.y) in
    let s2 = vec4_add s1 (vec4_scale a.c2 v.z) in
    vec4_add s2 (vec4_scale a.c3 v.w)

-- No number of v is -0: each stays as it is where it is added to +0.
abbrev pub NoMinusZero : Vec4 → Type 0
NoMinusZero v = vec4_add zero_row v ≡ v

-- To a row without -0 a product may be added that is summed from its first term on, and not taken by alpha 1: the sum is the same, and has no -0 either.
abbrev pub AddedFromFirst : Type 0
AddedFromFirst = (a : Mat4) (v s r : Vec4) → NoMinusZero s → r ≡ vec4_add s (times_from_first a v) → (r ≡ vec4_add s (vec4_scale (mat4_times_vec4 a v) plus_one)) × NoMinusZero r

-- A row that begins as the old one by 0, added to +0, has no -0.
abbrev pub BegunFromZero : Type 0
BegunFromZero = (old s r : Vec4) → s ≡ vec4_scale old plus_zero → r ≡ vec4_add zero_row s → (r ≡ vec4_add zero_row (vec4_scale old plus_zero)) × NoMinusZero r

-- A row that begins so is in the end the one that begins without +0.
abbrev pub EndsTheSame : Type 0
EndsTheSame = (old : Vec4) (alpha : Float) (ms ns : List Mat4) (xs ys : List Vec4) (a : Mat4) (v : Vec4)
    → vec4_add (add_products alpha (add_products alpha (vec4_add zero_row (vec4_scale old plus_zero)) ms xs) ns ys) (vec4_scale (mat4_times_vec4 a v) plus_one)
    ≡ vec4_add (add_products alpha (add_products alpha (vec4_scale old plus_zero) ms xs) ns ys) (vec4_scale (mat4_times_vec4 a v) plus_one)
