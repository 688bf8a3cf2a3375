-- To a row without -0 a block's product may be added that is summed from its first term on, in place of the one from +0 on: the sums are the same. A row begins as the old one by 0, which may be -0.
-- So +0 is added first, which the first product makes good. A product by alpha, which is 1, is the product. Each law is one of crates/vectors/proofs/Zeros.antt, number by number.
use mathlib.Core.Path.{◌≡◌, refl, sym, ap, ◌∙◌}
use mathlib.Core.Bool.{false}
use mathlib.Core.List.{List, [], ◌∷◌}
use lib.Ieee.{Float}
use Rattle.vectors.specs.Number.{◌⊕◌, plus_zero, plus_zero_is, plus_one}
use Rattle.vectors.specs.Vec4.{vec4_add, vec4_scale}
use Rattle.vectors.specs.Mat4.{mat4_times_vec4}
use Rattle.vectors.specs.Fits.{Vec4Fits}
use Rattle.vectors.specs.declared.vec4.Vec4.{Vec4}
use Rattle.vectors.specs.declared.mat4.Mat4.{Mat4}
use Rattle.vectors.proofs.OneTimes.{vec4_by_one}
use Rattle.vectors.proofs.Fitting.{vec4_scale_fits, mat4_times_vec4_fits}
use Rattle.vectors.proofs.Zeros.{Alike, alike_plus, alike_sum, plus_turned, plus_zero_lem, zero_plus}
use Rattle.vectors.proofs.WholeUnits.{sum_kept}
use Rattle.matrix.specs.Rows.{zero_row}
use Rattle.matrix.specs.SparseSquare.{add_products, times_from_first, NoMinusZero}

-- ---- rows
abbrev AlikeRows : Vec4 → Vec4 → Type 0
AlikeRows a b = Alike a.x b.x × Alike a.y b.y × Alike a.z b.z × Alike a.w b.w

rows_plus_lem : {a b : Vec4} (q : Vec4) → AlikeRows a b → AlikeRows (vec4_add a q) (vec4_add b q)
unfolding vec4_add
rows_plus_lem q h = (alike_plus q.x h.0, alike_plus q.y h.1, alike_plus q.z h.2, alike_plus q.w h.3)

row_from_zero : (p : Vec4) → Vec4Fits p → AlikeRows p (vec4_add zero_row p)
unfolding vec4_add
row_from_zero p h = rw plus_zero_is (zero_plus p.x h.0, zero_plus p.y h.1, zero_plus p.z h.2, zero_plus p.w h.3)

products_plus : (alpha : Float) {a b : Vec4} (ms : List Mat4) (xs : List Vec4) → AlikeRows a b → AlikeRows (add_products alpha a ms xs) (add_products alpha b ms xs)
unfolding add_products
products_plus alpha [] xs h = h
products_plus alpha (m ∷ ms) [] h = h
products_plus alpha {a = a} {b = b} (m ∷ ms) (x ∷ xs) h =
    let p = vec4_scale (mat4_times_vec4 m x) alpha in
    products_plus alpha {a = vec4_add a p} {b = vec4_add b p} ms xs (rows_plus_lem p h)

row_turned : (a b : Vec4) → vec4_add a b ≡ vec4_add b a
unfolding vec4_add
row_turned a b = rw (plus_turned a.x b.x, plus_turned a.y b.y, plus_turned a.z b.z, plus_turned a.w b.w) refl

module _ (q : Vec4) (k : NoMinusZero q) where
  by_number : (plus_zero ⊕ q.x ≡ q.x) × (plus_zero ⊕ q.y ≡ q.y) × (plus_zero ⊕ q.z ≡ q.z) × (plus_zero ⊕ q.w ≡ q.w)
  unfolding vec4_add
  by_number = (ap (λ (v : Vec4). v.x) k, ap (λ (v : Vec4). v.y) k, ap (λ (v : Vec4). v.z) k, ap (λ (v : Vec4). v.w) k)

  rows_sum : {a b : Vec4} → AlikeRows a b → vec4_add a q ≡ vec4_add b q
  unfolding vec4_add
  rows_sum h = let n = by_number in rw (alike_sum n.0 h.0, alike_sum n.1 h.1, alike_sum n.2 h.2, alike_sum n.3 h.3) refl

  sum_no_minus : (z : Vec4) → Vec4Fits z → NoMinusZero (vec4_add q z)
  unfolding vec4_add
  sum_no_minus z h =
      let n = by_number in
      rw (
        sum_kept q.x z.x n.0 h.0,
        sum_kept q.y z.y n.1 h.1,
        sum_kept q.z z.z n.2 h.2,
        sum_kept q.w z.w n.3 h.3,
      ) refl

zero_no_minus : NoMinusZero zero_row
unfolding vec4_add
zero_no_minus = rw plus_zero_is (rw (plus_zero_lem false) refl)

begun_no_minus : (s : Vec4) → Vec4Fits s → NoMinusZero (vec4_add zero_row s)
begun_no_minus s h = sum_no_minus zero_row zero_no_minus s h

-- ---- products
module _ (a : Mat4) (v : Vec4) where
  product_alike : AlikeRows (times_from_first a v) (mat4_times_vec4 a v)
  unfolding times_from_first mat4_times_vec4
  product_alike = rows_plus_lem _ (rows_plus_lem _ (rows_plus_lem _ (row_from_zero (vec4_scale a.c0 v.x) (vec4_scale_fits _ _))))

  product_no_minus : NoMinusZero (mat4_times_vec4 a v)
  unfolding mat4_times_vec4
  product_no_minus = sum_no_minus _ (sum_no_minus _ (sum_no_minus _ (begun_no_minus _ (vec4_scale_fits _ _)) _ (vec4_scale_fits _ _)) _ (vec4_scale_fits _ _)) _ (vec4_scale_fits _ _)

  -- alpha is 1
  by_alpha : vec4_scale (mat4_times_vec4 a v) plus_one ≡ mat4_times_vec4 a v
  by_alpha = vec4_by_one (mat4_times_vec4 a v) (mat4_times_vec4_fits a v)

  -- what `add_product` works out
  pub product_added : {s r : Vec4} → NoMinusZero s → r ≡ vec4_add s (times_from_first a v) → (r ≡ vec4_add s (vec4_scale (mat4_times_vec4 a v) plus_one)) × NoMinusZero r
  product_added {s} {r} k e =
      let is : r ≡ vec4_add s (mat4_times_vec4 a v) = e ∙ row_turned s (times_from_first a v) ∙ rows_sum s k product_alike ∙ row_turned (mat4_times_vec4 a v) s in
      (rw by_alpha is, rw is (sum_no_minus s k (mat4_times_vec4 a v) (mat4_times_vec4_fits a v)))

-- ---- the beginning of a row, in `row_product`
module _ (old : Vec4) where
  abbrev begun : Vec4
  begun = vec4_add zero_row (vec4_scale old plus_zero)

  pub begins : {s r : Vec4} → s ≡ vec4_scale old plus_zero → r ≡ vec4_add zero_row s → (r ≡ begun) × NoMinusZero r
  begins e h = let is = h ∙ ap (vec4_add zero_row) e in (is, rw is (begun_no_minus (vec4_scale old plus_zero) (vec4_scale_fits old plus_zero)))

  -- from the first product on the row is the one that begins without +0
  pub row_begun : (alpha : Float) (ms ns : List Mat4) (xs ys : List Vec4) (a : Mat4) (v : Vec4)
      → vec4_add (add_products alpha (add_products alpha begun ms xs) ns ys) (vec4_scale (mat4_times_vec4 a v) plus_one) ≡ vec4_add (add_products alpha (add_products alpha (vec4_scale old plus_zero) ms xs) ns ys) (vec4_scale (mat4_times_vec4 a v) plus_one)
  row_begun alpha ms ns xs ys a v =
      rw (by_alpha a v) (sym (rows_sum (mat4_times_vec4 a v) (product_no_minus a v) (products_plus alpha ns ys (products_plus alpha ms xs (row_from_zero (vec4_scale old plus_zero) (vec4_scale_fits old plus_zero))))))
