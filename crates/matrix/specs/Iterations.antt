-- The outcome of the solve, said without its loop: what each iteration finds, and which of them ends the solve. proofs/Iterations.antt proves it.
use Rattle.std.specs.Prelude.{◌≡◌, List, true, false, cond, ℕ, zero, suc, ◌≤◌, ◌<◌, Float}
use Rattle.std.specs.Float.Ieee.{lt}
use Rattle.roots.specs.Sqrt.{sqrt_of}
use Rattle.vectors.specs.Number.{◌⊗◌, ◌⊘◌, plus_zero, plus_one}
use Rattle.vectors.specs.declared.vec4.Vec4.{Vec4}
use Rattle.vectors.specs.declared.mat4.Mat4.{Mat4}
use Rattle.matrix.specs.ConjugateGradient.{Vectors, Solving, vectors_of, started, descended, redirected, Outcome, outcome, epsilon, conjugate_gradient}

module _ (n : ℕ) (rows : List (List Mat4)) (r : List Vec4) where
  -- The vectors after k whole iterations from the residual r.
  unfoldable pub state_after : ℕ → Solving
  state_after zero = started n r
  state_after (suc k) = let s = state_after k in redirected s.rho (descended n rows s)

  -- The ratio of iteration k: the root of the residual's square times the inverse of the first square. Iterations are numbered from 1; where there was none, +0 stands for it.
  unfoldable pub ratio_after : ℕ → Float
  ratio_after zero = plus_zero
  ratio_after (suc k) = sqrt_of ((state_after (suc k)).rho ⊗ (plus_one ⊘ (started n r).rho))

  -- The vectors as a solve leaves them that ends after k iterations: the last one gives no new direction where its ratio is below the tolerance.
  unfoldable pub left_after : Float → ℕ → Vectors
  left_after tolerance zero = vectors_of (started n r)
  left_after tolerance (suc k) = vectors_of (cond (lt (ratio_after (suc k)) tolerance) (descended n rows (state_after k)) (state_after (suc k)))

  -- The outcome of a solve that ends after k iterations.
  abbrev pub outcome_after : Float → ℕ → Outcome
  outcome_after tolerance k = outcome (left_after tolerance k) k (ratio_after k)

-- o is the outcome of a solve that ends with the first iteration whose ratio is below the tolerance, or with as many as the limit allows where there is none.
pub record FirstBelow (n : ℕ) (rows : List (List Mat4)) (tolerance : Float) (limit : ℕ) (r : List Vec4) (o : Outcome) : Type 0 where
  -- its vectors and its ratio are those after as many iterations as its count says
  pub answer : o ≡ outcome_after n rows r tolerance o.count
  -- there are no more iterations than the limit allows
  pub within : o.count ≤ limit
  -- there is at least one, where the limit allows one
  pub begun : 0 < limit → 0 < o.count
  -- no iteration before the last has a ratio below the tolerance (NaN is not below it)
  pub not_below : (j : ℕ) → 0 < j → j < o.count → lt (ratio_after n rows r j) tolerance ≡ false
  -- where there are fewer than the limit allows, the ratio of the last is below the tolerance
  pub ended : o.count < limit → lt o.ratio tolerance ≡ true

module _ (n : ℕ) (rows : List (List Mat4)) (tolerance : Float) (limit : ℕ) (r : List Vec4) where
  -- A start whose square is below 2^-52 is answered with 0 iterations and ratio +0, and leaves the vectors of the start: solution +0.
  abbrev pub SmallStart : Type 0
  SmallStart = lt (started n r).rho epsilon ≡ true → conjugate_gradient n rows tolerance limit r ≡ outcome (vectors_of (started n r)) 0 plus_zero

  -- Every other start, one whose square is NaN included, is answered by the first iteration below the tolerance.
  abbrev pub SolveIsFirstBelow : Type 0
  SolveIsFirstBelow = lt (started n r).rho epsilon ≡ false → FirstBelow n rows tolerance limit r (conjugate_gradient n rows tolerance limit r)

  -- That determines the answer: two that are so are the same.
  abbrev pub OneAnswer : Type 0
  OneAnswer = (o q : Outcome) → FirstBelow n rows tolerance limit r o → FirstBelow n rows tolerance limit r q → o ≡ q
