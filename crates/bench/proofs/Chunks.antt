-- Where a list is cut into arrays of one width, the array at an index is the part that begins so many widths in.
-- By induction on the index.
use mathlib.Core.Path.{◌≡◌, ap, ◌∙◌}
use mathlib.Core.List.{List, []}
use Prim.Native.Nat.{ℕ, zero, suc, ◌+◌, ◌*◌, ◌<◌}
use native.Mathlib.Omega.{arith}
use lib.ListN.{get_or, take, drop}
use Rattle.std.specs.Simd.{first_chunks}
use Rattle.std.proofs.lemmas.List.{drop-drop}
use Rattle.std.proofs.Math.Nat.{mul-suc}
use Rattle.matrix.specs.Parts.{part}

module _ {A : Type 0} (w : ℕ) where
  pub chunk_at : (n s : ℕ) (l : List A) → s < n → get_or (first_chunks w n l) s [] ≡ part l (w * s) w
  unfolding part
  chunk_at zero s l h = absurd (omega (arith, h))
  chunk_at (suc n) zero l h =
      let e : 0 ≡ w * 0 = omega arith in
      ap (λ (o : ℕ). take w (drop o l)) e
  chunk_at (suc n) (suc s) l h =
      let e : w + w * s ≡ w * suc s = omega (arith, mul-suc w s) in
      chunk_at n s (drop w l) (omega arith) ∙ ap (take w) (drop-drop (w * s) w l ∙ ap (λ (o : ℕ). drop o l) e)
