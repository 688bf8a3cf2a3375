-- The loop of the solve: what is still to be iterated from the area as it stands is what was to be iterated at the start.
-- A turn takes one iteration off, by what its two halves promise.
use mathlib.Core.Path.{◌≡◌, refl, sym, ap, ◌∙◌}
use mathlib.Core.Bool.{true, false}
use mathlib.Core.List.{List}
use Prim.Native.Nat.{ℕ, ◌+◌, ◌-◌, ◌<◌, ◌≤◌}
use native.Mathlib.Omega.{arith}
use lib.ListN.{length}
use lib.Ieee.{Float, of_bits, lt}
use Rattle.roots.specs.Sqrt.{sqrt_of}
use Rattle.vectors.specs.Number.{◌⊗◌, plus_zero}
use Rattle.vectors.specs.declared.mat4.Mat4.{Mat4}
use Rattle.matrix.specs.Area.{work_numbers}
use Rattle.matrix.specs.SparseSquare.{matrix_rows}
use Rattle.matrix.specs.ConjugateGradient.{Vectors, vectors_at, Solving, Kept, solving_at, descended, redirected, Outcome, outcome, iterated}
use Rattle.matrix.specs.RootBound.{RootIfBelow}
use Rattle.matrix.proofs.RowsPut.{kept_on}
use Rattle.matrix.proofs.Iteration.{spent, enough, onward}

abbrev to_go : (n : ℕ) (w : List Float) (inverse tolerance : Float) (left : ℕ) (v : List Float) (rho : Float) (count : ℕ) (ratio : Float) → Outcome
to_go n w inverse tolerance left v rho count ratio = iterated n (matrix_rows w n) inverse tolerance left false (outcome (vectors_at n v) count ratio) (solving_at n v rho)

pub record Going (n : ℕ) (w : List Float) (first inverse tolerance : Float) (limit : ℕ) (v : List Float) (rho : Float) (count : ℕ) (square : Float) : Type 0 where
  pub same : to_go n w inverse tolerance limit w first 0 plus_zero ≡ to_go n w inverse tolerance (limit - count) v rho count (sqrt_of square)
  pub keeps : Kept n w v
  pub long : length v ≡ work_numbers

pub going_first : (n : ℕ) (w : List Float) (first inverse tolerance : Float) (limit : ℕ) → length w ≡ work_numbers → Going n w first inverse tolerance limit w first 0 plus_zero
unfolding sqrt_of of_bits
going_first n w first inverse tolerance limit h = record { same = (let e : limit - 0 ≡ limit = omega arith in rw e); keeps = record { matrix = refl; after = refl }; long = h }

module _ {n : ℕ} {w : List Float} {first inverse tolerance : Float} {limit : ℕ} {v : List Float} {rho : Float} {count : ℕ} {square : Float} (g : Going n w first inverse tolerance limit v rho count square) where
  pub going_spent : (y : Float) → y ≡ sqrt_of square → limit ≤ count → outcome (vectors_at n v) count y ≡ to_go n w inverse tolerance limit w first 0 plus_zero
  unfolding solving_at
  going_spent y e h = rw e (sym (g.same ∙ spent n (matrix_rows w n) inverse tolerance (limit - count) _ _ (omega arith)))

  module _ (v₁ : List Float) (next y : Float) (h : count < limit) (d : solving_at n v₁ next ≡ descended n (matrix_rows v n) (solving_at n v rho)) (x : RootIfBelow (next ⊗ inverse) tolerance y) where
    here : solving_at n v₁ next ≡ descended n (matrix_rows w n) (solving_at n v rho)
    here = d ∙ ap (λ (m : List (List Mat4)). descended n m (solving_at n v rho)) g.keeps.matrix

    pub going_enough : lt y tolerance ≡ true → outcome (vectors_at n v₁) (count + 1) y ≡ to_go n w inverse tolerance limit w first 0 plus_zero
    unfolding solving_at
    going_enough b = sym (g.same ∙ enough n (matrix_rows w n) inverse tolerance limit count (vectors_at n v) (sqrt_of square) y (solving_at n v rho) (solving_at n v₁ next) h here (x.root b) b)

    abbrev after : Vectors → Solving → Outcome
    after v s = iterated n (matrix_rows w n) inverse tolerance (limit - (count + 1)) false (outcome v (count + 1) (sqrt_of (next ⊗ inverse))) s

    pub going_on : (v₂ : List Float) → lt y tolerance ≡ false → Kept n v v₁ → solving_at n v₂ next ≡ redirected rho (solving_at n v₁ next) → Kept n v₁ v₂ → length v₂ ≡ work_numbers → Going n w first inverse tolerance limit v₂ next (count + 1) (next ⊗ inverse)
    unfolding solving_at
    going_on v₂ b k₁ e k₂ l =
        let o = onward n (matrix_rows w n) inverse tolerance limit count (vectors_at n v) (sqrt_of square) (sqrt_of (next ⊗ inverse)) (solving_at n v rho) (solving_at n v₁ next) h here refl (vectors_at n v₂) (sym x.same ∙ b) in
        record { same = g.same ∙ o ∙ ap (after (vectors_at n v₂)) (sym e); keeps = kept_on g.keeps (kept_on k₁ k₂); long = l }
