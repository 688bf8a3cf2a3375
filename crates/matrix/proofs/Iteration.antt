-- The iterations that are left after one: none where the ratio is below the tolerance, else one fewer from the next direction.
-- Before the first one, a small residual stops the solve in the same way.
use mathlib.Core.Path.{◌≡◌, refl, sym, ◌∙◌}
use mathlib.Core.Bool.{true, false}
use mathlib.Core.List.{List}
use Prim.Native.Nat.{ℕ, zero, suc, ◌+◌, ◌-◌, ◌<◌}
use native.Mathlib.Omega.{arith}
use lib.Ieee.{Float, lt}
use Rattle.roots.specs.Sqrt.{sqrt_of}
use Rattle.vectors.specs.Number.{◌⊗◌, ◌⊘◌, plus_zero, plus_one}
use Rattle.vectors.specs.declared.vec4.Vec4.{Vec4}
use Rattle.vectors.specs.declared.mat4.Mat4.{Mat4}
use Rattle.matrix.specs.ConjugateGradient.{Vectors, vectors_at, Solving, vectors_of, solving_at, started, descended, redirected, Outcome, outcome, ratio_of, iterated, epsilon, conjugate_gradient}

module _ (n : ℕ) (rows : List (List Mat4)) (inverse tolerance : Float) where
  pub stopped : (left : ℕ) (o : Outcome) (s : Solving) → iterated n rows inverse tolerance left true o s ≡ o
  unfolding iterated
  stopped zero o s = refl
  stopped (suc left) o s = refl

  -- no iteration is left
  pub spent : (left : ℕ) (o : Outcome) (s : Solving) → left ≡ 0 → iterated n rows inverse tolerance left false o s ≡ outcome (vectors_of s) o.count o.ratio
  unfolding iterated
  spent left o s e = rw e

  -- where the ratio is not below the tolerance, the vectors of the outcome so far play no part
  pub going_on_from : (left : ℕ) (v w : Vectors) (k : ℕ) (x : Float) (s : Solving) → iterated n rows inverse tolerance left false (outcome v k x) s ≡ iterated n rows inverse tolerance left false (outcome w k x) s
  unfolding iterated
  going_on_from zero v w k x s = refl
  going_on_from (suc left) v w k x s = refl

  module _ (limit count : ℕ) (v : Vectors) (x y : Float) (s t : Solving) (h : count < limit) (e : t ≡ descended n rows s) (q : y ≡ sqrt_of (t.rho ⊗ inverse)) where
    once : iterated n rows inverse tolerance (limit - count) false (outcome v count x) s ≡ iterated n rows inverse tolerance (limit - (count + 1)) (lt y tolerance) (outcome (vectors_of t) (count + 1) y) (redirected s.rho t)
    unfolding iterated ratio_of
    once = let k : limit - count ≡ suc (limit - (count + 1)) = omega arith in rw (k, q, e)

    pub enough : lt y tolerance ≡ true → iterated n rows inverse tolerance (limit - count) false (outcome v count x) s ≡ outcome (vectors_of t) (count + 1) y
    enough b = once ∙ rw b (stopped (limit - (count + 1)) (outcome (vectors_of t) (count + 1) y) (redirected s.rho t))

    pub onward : (w : Vectors) → lt y tolerance ≡ false → iterated n rows inverse tolerance (limit - count) false (outcome v count x) s ≡ iterated n rows inverse tolerance (limit - (count + 1)) false (outcome w (count + 1) y) (redirected s.rho t)
    onward w b = rw b at once ∙ going_on_from (limit - (count + 1)) (vectors_of t) w (count + 1) y (redirected s.rho t)

module _ (n : ℕ) (rows : List (List Mat4)) (tolerance : Float) (limit : ℕ) (r : List Vec4) (w : List Float) (rho : Float) (e : solving_at n w rho ≡ started n r) where
  begun : conjugate_gradient n rows tolerance limit r ≡ iterated n rows (plus_one ⊘ rho) tolerance limit (lt rho epsilon) (outcome (vectors_at n w) 0 plus_zero) (solving_at n w rho)
  unfolding conjugate_gradient solving_at
  begun = rw (← e)

  pub small : lt rho epsilon ≡ true → outcome (vectors_at n w) 0 plus_zero ≡ conjugate_gradient n rows tolerance limit r
  small b = sym (begun ∙ rw b (stopped n rows (plus_one ⊘ rho) tolerance limit (outcome (vectors_at n w) 0 plus_zero) (solving_at n w rho)))

  pub large : lt rho epsilon ≡ false → iterated n rows (plus_one ⊘ rho) tolerance limit false (outcome (vectors_at n w) 0 plus_zero) (solving_at n w rho) ≡ conjugate_gradient n rows tolerance limit r
  large b = sym (rw b at begun)
