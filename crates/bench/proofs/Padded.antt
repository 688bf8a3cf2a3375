-- A list with zeros behind it fills the part of 32 vertices, and parts stored one behind the other are one store.
use mathlib.Core.Path.{◌≡◌, sym, ap, ◌∙◌}
use mathlib.Core.List.{List, ◌++◌}
use Prim.Native.Nat.{ℕ, ◌+◌, ◌≤◌}
use native.Mathlib.Omega.{arith}
use lib.ListN.{length, replicate, length-replicate, length-append}
use lib.Ieee.{Float}
use Rattle.vectors.specs.Number.{plus_zero}
use Rattle.matrix.specs.Parts.{put}
use Rattle.matrix.proofs.Parts.{put_append}
use Rattle.bench.specs.Areas.{vector_part}
use Rattle.bench.specs.Requests.{padded}

pub length_padded : (l : List Float) → length l ≤ vector_part → length (padded l) ≡ vector_part
unfolding padded
length_padded l h = simp (length-append, length-replicate) (omega arith)

behind : (w : List Float) (o k : ℕ) (p q : List Float) → length p ≡ k → put w o (p ++ q) ≡ put (put w o p) (o + k) q
behind w o k p q e = put_append w o p q ∙ ap (λ (i : ℕ). put (put w o p) (o + i) q) e

module _ (w : List Float) (o : ℕ) (xs fs : List Float) (hx : length xs ≤ vector_part) (hf : length fs ≤ vector_part) where
  pub laid_rest : put (put w o (padded xs)) (o + vector_part) (padded fs) ≡ put w o (padded xs ++ padded fs)
  laid_rest = sym (behind w o vector_part (padded xs) (padded fs) (length_padded xs hx))

  -- velocities and working copy after them
  pub laid_drape : put (put (put w o (padded xs ++ padded fs)) (o + vector_part + vector_part) (replicate vector_part plus_zero)) (o + vector_part + vector_part + vector_part) (padded xs)
      ≡ put w o (padded xs ++ (padded fs ++ (replicate vector_part plus_zero ++ padded xs)))
  laid_drape =
      rw (
        behind w o vector_part (padded xs) (padded fs ++ (replicate vector_part plus_zero ++ padded xs)) (length_padded xs hx),
        behind (put w o (padded xs)) (o + vector_part) vector_part (padded fs) (replicate vector_part plus_zero ++ padded xs) (length_padded fs hf),
        behind (put (put w o (padded xs)) (o + vector_part) (padded fs)) (o + vector_part + vector_part) vector_part (replicate vector_part plus_zero) (padded xs) (length-replicate vector_part plus_zero),
        ← laid_rest,
      )
