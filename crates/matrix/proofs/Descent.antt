-- One iteration in the area: each call stores one vector, and what it reads later is apart from it.
-- So every vector is followed from store to store, and the vectors at the end are those of the definition.
use mathlib.Core.Path.{◌≡◌, ap, ◌∙◌}
use mathlib.Core.List.{List}
use Prim.Native.Nat.{ℕ, ◌≤◌}
use native.Mathlib.Omega.{arith}
use lib.ListN.{length}
use lib.Ieee.{Float, neg}
use Rattle.vectors.specs.Number.{◌⊘◌, plus_zero, plus_one}
use Rattle.vectors.specs.declared.vec4.Vec4.{Vec4}
use Rattle.vectors.specs.declared.mat4.Mat4.{Mat4}
use Rattle.matrix.specs.Parts.{put}
use Rattle.matrix.specs.Rows.{rows4, flat4}
use Rattle.matrix.specs.Area.{place_r, place_u, place_p, place_ap, work_numbers}
use Rattle.matrix.specs.SliceOfArray.{zero_rows, dot_rows, add_scaled_vector, scale_and_add_vec}
use Rattle.matrix.specs.SparseSquare.{matrix_rows, mult_vec}
use Rattle.matrix.specs.ConjugateGradient.{Kept, solving_at, product_of, alpha_of, residual_of, descended, redirected, started}
use Rattle.matrix.proofs.Parts.{length_table}
use Rattle.matrix.proofs.RowLaws.{length_zeros, zip_tables}
use Rattle.matrix.proofs.Products.{rows_unstored}
use Rattle.matrix.proofs.RowsPut.{RowsPut, rows_put, kept, kept_on}

length_product : (n : ℕ) (beta alpha : Float) (rows : List (List Mat4)) (x old : List Vec4) → length (mult_vec n beta alpha rows x old) ≡ n
unfolding mult_vec
length_product n beta alpha rows x old = length_table n _

length_sum : (n : ℕ) (w v : List Float) (a b : ℕ) (alpha : Float) → length (add_scaled_vector (rows4 w a n) alpha (rows4 v b n)) ≡ n
unfolding add_scaled_vector rows4
length_sum n w v a b alpha = ap length (zip_tables _ n _ _) ∙ length_table n _

module _ (n : ℕ) (rho alpha pap q : Float) (w w₁ w₂ w₃ : List Float) (h : (2 ≤ n) × (n ≤ 32)) (long : length w ≡ work_numbers)
    (e₁ : w₁ ≡ put w place_ap (flat4 (mult_vec n plus_zero plus_one (matrix_rows w n) (rows4 w place_p n) (rows4 w place_ap n))))
    (ea : pap ≡ dot_rows (rows4 w₁ place_p n) (rows4 w₁ place_ap n))
    (eb : alpha ≡ rho ⊘ pap)
    (e₂ : w₂ ≡ put w₁ place_u (flat4 (add_scaled_vector (rows4 w₁ place_u n) alpha (rows4 w₁ place_p n))))
    (e₃ : w₃ ≡ put w₂ place_r (flat4 (add_scaled_vector (rows4 w₂ place_r n) (neg alpha) (rows4 w₂ place_ap n))))
    (eq : q ≡ dot_rows (rows4 w₃ place_r n) (rows4 w₃ place_r n)) where
  c₁ : RowsPut w w₁ place_ap n (mult_vec n plus_zero plus_one (matrix_rows w n) (rows4 w place_p n) (rows4 w place_ap n))
  c₁ = rows_put w w₁ place_ap n _ e₁ (length_product n _ _ _ _ _) (omega arith)

  c₂ : RowsPut w₁ w₂ place_u n (add_scaled_vector (rows4 w₁ place_u n) alpha (rows4 w₁ place_p n))
  c₂ = rows_put w₁ w₂ place_u n _ e₂ (length_sum n w₁ w₁ place_u place_p alpha) (omega (arith, c₁.stored.long))

  c₃ : RowsPut w₂ w₃ place_r n (add_scaled_vector (rows4 w₂ place_r n) (neg alpha) (rows4 w₂ place_ap n))
  c₃ = rows_put w₂ w₃ place_r n _ e₃ (length_sum n w₂ w₂ place_r place_ap (neg alpha)) (omega (arith, c₁.stored.long, c₂.stored.long))

  vectors_descend : solving_at n w₃ q ≡ descended n (matrix_rows w n) (solving_at n w rho)
  unfolding solving_at product_of alpha_of residual_of
  vectors_descend =
      let r₁ = rows_unstored c₁.stored place_r n (λ j a b x y. omega arith) in
      let u₁ = rows_unstored c₁.stored place_u n (λ j a b x y. omega arith) in
      let p₁ = rows_unstored c₁.stored place_p n (λ j a b x y. omega arith) in
      let r₂ = rows_unstored c₂.stored place_r n (λ j a b x y. omega arith) in
      let p₂ = rows_unstored c₂.stored place_p n (λ j a b x y. omega arith) in
      let a₂ = rows_unstored c₂.stored place_ap n (λ j a b x y. omega arith) in
      let u₃ = rows_unstored c₃.stored place_u n (λ j a b x y. omega arith) in
      let p₃ = rows_unstored c₃.stored place_p n (λ j a b x y. omega arith) in
      let a₃ = rows_unstored c₃.stored place_ap n (λ j a b x y. omega arith) in
      rw (eq, c₃.there, u₃, p₃, a₃, c₂.there, r₂, p₂, a₂, eb, ea, c₁.there, r₁, u₁, p₁)

  pub descends : (solving_at n w₃ q ≡ descended n (matrix_rows w n) (solving_at n w rho)) × Kept n w w₃
  descends = (vectors_descend, kept_on (kept c₁.stored h (omega arith) (omega arith)) (kept_on (kept c₂.stored h (omega arith) (omega arith)) (kept c₃.stored h (omega arith) (omega arith))))

-- ---- the next direction
length_direction : (n : ℕ) (w v : List Float) (a b : ℕ) (beta : Float) → length (scale_and_add_vec (rows4 w a n) beta (rows4 v b n)) ≡ n
unfolding scale_and_add_vec rows4
length_direction n w v a b beta = ap length (zip_tables _ n _ _) ∙ length_table n _

module _ (n : ℕ) (rho before : Float) (w w₁ : List Float) (h : (2 ≤ n) × (n ≤ 32)) (long : length w ≡ work_numbers)
    (e₁ : w₁ ≡ put w place_p (flat4 (scale_and_add_vec (rows4 w place_p n) (rho ⊘ before) (rows4 w place_r n)))) where
  d₁ : RowsPut w w₁ place_p n (scale_and_add_vec (rows4 w place_p n) (rho ⊘ before) (rows4 w place_r n))
  d₁ = rows_put w w₁ place_p n _ e₁ (length_direction n w w place_p place_r (rho ⊘ before)) (omega arith)

  redirects_vectors : solving_at n w₁ rho ≡ redirected before (solving_at n w rho)
  unfolding solving_at redirected
  redirects_vectors =
      rw (
        d₁.there,
        rows_unstored d₁.stored place_r n (λ j a b x y. omega arith),
        rows_unstored d₁.stored place_u n (λ j a b x y. omega arith),
        rows_unstored d₁.stored place_ap n (λ j a b x y. omega arith),
      )

  pub redirects : (solving_at n w₁ rho ≡ redirected before (solving_at n w rho)) × Kept n w w₁
  redirects = (redirects_vectors, kept d₁.stored h (omega arith) (omega arith))

-- ---- the state before the first iteration
length_rows : (n : ℕ) (w : List Float) (a : ℕ) → length (rows4 w a n) ≡ n
unfolding rows4
length_rows n w a = length_table n _

module _ (n : ℕ) (rho : Float) (w w₁ w₂ w₃ : List Float) (h : (2 ≤ n) × (n ≤ 32)) (long : length w ≡ work_numbers)
    (e₁ : w₁ ≡ put w place_u (flat4 (zero_rows n)))
    (e₂ : w₂ ≡ put w₁ place_ap (flat4 (zero_rows n)))
    (e₃ : w₃ ≡ put w₂ place_p (flat4 (rows4 w₂ place_r n)))
    (eq : rho ≡ dot_rows (rows4 w₃ place_r n) (rows4 w₃ place_r n)) where
  b₁ : RowsPut w w₁ place_u n (zero_rows n)
  b₁ = rows_put w w₁ place_u n _ e₁ (length_zeros n) (omega arith)

  b₂ : RowsPut w₁ w₂ place_ap n (zero_rows n)
  b₂ = rows_put w₁ w₂ place_ap n _ e₂ (length_zeros n) (omega (arith, b₁.stored.long))

  b₃ : RowsPut w₂ w₃ place_p n (rows4 w₂ place_r n)
  b₃ = rows_put w₂ w₃ place_p n _ e₃ (length_rows n w₂ place_r) (omega (arith, b₁.stored.long, b₂.stored.long))

  begins_vectors : solving_at n w₃ rho ≡ started n (rows4 w place_r n)
  unfolding solving_at started
  begins_vectors =
      rw (
        eq,
        b₃.there,
        rows_unstored b₃.stored place_r n (λ j a b x y. omega arith),
        rows_unstored b₃.stored place_u n (λ j a b x y. omega arith),
        rows_unstored b₃.stored place_ap n (λ j a b x y. omega arith),
        b₂.there,
        rows_unstored b₂.stored place_r n (λ j a b x y. omega arith),
        rows_unstored b₂.stored place_u n (λ j a b x y. omega arith),
        b₁.there,
        rows_unstored b₁.stored place_r n (λ j a b x y. omega arith),
      )

  pub begins : (solving_at n w₃ rho ≡ started n (rows4 w place_r n)) × Kept n w w₃
  begins = (begins_vectors, kept_on (kept b₁.stored h (omega arith) (omega arith)) (kept_on (kept b₂.stored h (omega arith) (omega arith)) (kept b₃.stored h (omega arith) (omega arith))))
