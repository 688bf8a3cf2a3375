-- After k iterations of which none has a ratio below the tolerance, the rest of the solve ends with the first that has, or at the limit.
-- By induction on how many are left: with none left, k is the limit; else the ratio of iteration k + 1 is below and
-- ends the solve, or none of k + 1 iterations has one below, and one fewer is left. At k = 0 this is the whole solve.
use mathlib.Core.Path.{◌≡◌, refl, sym, ap, ◌∙◌}
use mathlib.Core.Bool.{Bool, true, false}
use mathlib.Core.List.{List}
use Prim.Native.Nat.{ℕ, zero, suc, ◌+◌, ◌<◌}
use native.Mathlib.Numerals.{add-one}
use native.Mathlib.Omega.{arith}
use borrow.Author.Count.{below_more}
use lib.Ieee.{Float, lt}
use Rattle.vectors.specs.Number.{◌⊘◌, plus_zero, plus_one}
use Rattle.vectors.specs.declared.vec4.Vec4.{Vec4}
use Rattle.vectors.specs.declared.mat4.Mat4.{Mat4}
use Rattle.matrix.specs.ConjugateGradient.{Vectors, vectors_of, started, descended, redirected, Outcome, outcome, ratio_of, iterated, conjugate_gradient}
use Rattle.matrix.specs.Iterations.{state_after, ratio_after, left_after, outcome_after, FirstBelow, SmallStart, SolveIsFirstBelow, OneAnswer}
use Rattle.matrix.proofs.Iteration.{stopped, going_on_from}

module _ (n : ℕ) (rows : List (List Mat4)) (tolerance : Float) (limit : ℕ) (r : List Vec4) where
  abbrev First : Outcome → Type 0
  First o = FirstBelow n rows tolerance limit r o

  -- Whether iteration k is below the tolerance.
  abbrev below : ℕ → Bool
  below k = lt (ratio_after n rows r k) tolerance

  -- No iteration before iteration m is below the tolerance; the first has the number 1.
  abbrev NoneBefore : ℕ → Type 0
  NoneBefore m = (j : ℕ) → j < m → 0 < j → below j ≡ false

  -- The outcome of a solve that has made k iterations, with so many left, where the last ratio is not below the tolerance.
  abbrev from : ℕ → ℕ → Outcome
  from left k = iterated n rows (plus_one ⊘ (started n r).rho) tolerance left false (outcome_after n rows r tolerance k) (state_after n rows r k)

  -- The vectors before the direction of iteration k + 1 is found.
  abbrev descent : ℕ → Vectors
  descent k = vectors_of (descended n rows (state_after n rows r k))

  -- The outcome after one more, which may be below it.
  abbrev next : ℕ → Bool → ℕ → Outcome
  next left stop k = iterated n rows (plus_one ⊘ (started n r).rho) tolerance left stop (outcome (descent k) (k + 1) (ratio_after n rows r (k + 1))) (state_after n rows r (k + 1))

  once : (left k : ℕ) → from (suc left) k ≡ next left (below (k + 1)) k
  unfolding iterated ratio_of state_after ratio_after redirected
  once left k = rw add-one

  ends_at : (k : ℕ) → below (k + 1) ≡ true → outcome (descent k) (k + 1) (ratio_after n rows r (k + 1)) ≡ outcome_after n rows r tolerance (k + 1)
  unfolding left_after
  ends_at k t = let d : below (suc k) ≡ true = rw add-one at t in rw (add-one, d)

  by_test : (left k : ℕ) (b : Bool) → below (k + 1) ≡ b → k + 1 + left ≡ limit → NoneBefore (k + 1) → (NoneBefore (k + 1 + 1) → First (from left (k + 1))) → First (next left b k)
  by_test left k true t e a later = rw stopped record { answer = ends_at k t; within = omega arith; begun = λ _. omega arith; not_below = λ j p l. a j l p; ended = λ _. t }
  by_test left k false t e a later =
      rw (going_on_from n rows (plus_one ⊘ (started n r).rho) tolerance left (descent k) (left_after n rows r tolerance (k + 1)) (k + 1) (ratio_after n rows r (k + 1)) (state_after n rows r (k + 1)))
      (later (below_more (λ j. 0 < j → below j ≡ false) (k + 1) a (λ _. t)))

  -- the direction of the last iteration was found
  spent_at : (k : ℕ) → NoneBefore (k + 1) → outcome (vectors_of (state_after n rows r k)) k (ratio_after n rows r k) ≡ outcome_after n rows r tolerance k
  unfolding left_after state_after
  spent_at zero a = refl
  spent_at (suc k) a = rw (a (suc k) (omega arith) (omega arith))

  first_from : (left k : ℕ) → k + left ≡ limit → NoneBefore (k + 1) → First (from left k)
  unfolding iterated
  first_from zero k e a = rw (spent_at k a) record { answer = refl; within = omega arith; begun = λ h. omega arith; not_below = λ j p l. a j (omega arith) (omega arith); ended = λ h. absurd (omega arith) }
  first_from (suc left) k e a = rw once (by_test left k (below (k + 1)) refl (omega arith) a (first_from left (k + 1) (omega arith)))

  pub small_start : SmallStart n rows tolerance limit r
  unfolding conjugate_gradient
  small_start b = rw b (stopped n rows (plus_one ⊘ (started n r).rho) tolerance limit (outcome (vectors_of (started n r)) 0 plus_zero) (started n r))

  pub first_below : SolveIsFirstBelow n rows tolerance limit r
  unfolding conjugate_gradient state_after ratio_after left_after
  first_below b = rw b (first_from limit 0 (omega arith) (λ j l h. absurd (omega arith)))

  -- The last iteration of o is below the tolerance by f and not below it by g.
  not_earlier : (o q : Outcome) → First o → First q → o.count < q.count → ⊥
  not_earlier o q f g l =
      let t = f.ended (omega arith) in
      let b = g.not_below o.count (f.begun (omega arith)) l in
      let e : o.ratio ≡ ratio_after n rows r o.count = ap (λ (x : Outcome). x.ratio) f.answer in
      let z : ◌≡◌ {A = ℕ} 0 1 = cc in
      omega arith

  pub one_answer : OneAnswer n rows tolerance limit r
  one_answer o q f g =
      let a = not_earlier o q f g in
      let b = not_earlier q o g f in
      let e : o.count ≡ q.count = omega arith in
      f.answer ∙ ap (outcome_after n rows r tolerance) e ∙ sym g.answer
