-- Rows of +0 stored over the gradient and over all blocks in use leave the system of no element.
use mathlib.Core.Path.{◌≡◌, refl, sym, ap, ◌∙◌}
use mathlib.Core.List.{List, []}
use Prim.Native.Nat.{ℕ, ◌+◌, ◌-◌, ◌*◌, ◌≤◌, ◌<◌}
use native.Mathlib.Omega.{arith}
use lib.ListN.{length, get_or}
use lib.Ieee.{Float}
use Rattle.vectors.specs.declared.vec4.Vec4.{Vec4}
use Rattle.matrix.specs.Parts.{put}
use Rattle.matrix.specs.Rows.{zero_row, zero_block, row4, block16, flat4}
use Rattle.matrix.specs.SliceOfArray.{zero_rows}
use Rattle.matrix.specs.Layout.{block_place, Near}
use Rattle.matrix.specs.Area.{place_r, work_numbers, after_vectors}
use Rattle.matrix.specs.System.{system_at}
use Rattle.matrix.specs.HairSystem.{sum_gradients, sum_blocks, assembled}
use Rattle.matrix.proofs.Parts.{get_or_table}
use Rattle.matrix.proofs.RowLaws.{length_zeros, unstored}
use Rattle.matrix.proofs.Products.{row_at_lem}
use Rattle.matrix.proofs.RowsPut.{RowsPut, rows_put, after_kept}
use Rattle.matrix.proofs.Columns.{place_in_use}
use Rattle.matrix.proofs.BlockLaws.{block_at, holds_system}

zero_at : {w v : List Float} {o n : ℕ} → RowsPut w v o n (zero_rows n) → (i k : ℕ) → i < n → k ≡ o + 4 * i → row4 v k ≡ zero_row
unfolding zero_rows
zero_at {w} {v} {o} {n} p i k h e = sym (row_at_lem zero_row v o n i k h e) ∙ ap (λ (l : List Vec4). get_or l i zero_row) p.there ∙ get_or_table n (λ _. zero_row) i zero_row h

module _ (n : ℕ) (w w₁ w₂ : List Float) (h : (2 ≤ n) × (n ≤ 32)) (long : length w ≡ work_numbers) (e₁ : w₁ ≡ put w place_r (flat4 (zero_rows n))) (e₂ : w₂ ≡ put w₁ 0 (flat4 (zero_rows (4 * (5 * n - 6))))) where
  c₁ : RowsPut w w₁ place_r n (zero_rows n)
  c₁ = rows_put w w₁ place_r n _ e₁ (length_zeros n) (omega arith)

  c₂ : RowsPut w₁ w₂ 0 (4 * (5 * n - 6)) (zero_rows (4 * (5 * n - 6)))
  c₂ = rows_put w₁ w₂ 0 (4 * (5 * n - 6)) _ e₂ (length_zeros (4 * (5 * n - 6))) (omega (arith, c₁.stored.long))

  zero_block_lem : (i j : ℕ) → Near n i j → block_at n w₂ i j ≡ zero_block
  unfolding block16
  zero_block_lem i j near =
      let b = place_in_use near h.0 in
      rw (
        zero_at c₂ (4 * block_place n i j) (16 * block_place n i j) (omega arith) (omega arith),
        zero_at c₂ (4 * block_place n i j + 1) (16 * block_place n i j + 4) (omega arith) (omega arith),
        zero_at c₂ (4 * block_place n i j + 2) (16 * block_place n i j + 8) (omega arith) (omega arith),
        zero_at c₂ (4 * block_place n i j + 3) (16 * block_place n i j + 12) (omega arith) (omega arith),
      )

  pub cleared : system_at n w₂ ≡ assembled n []
  unfolding assembled sum_gradients sum_blocks
  cleared = holds_system (record {
    gradient = λ i b. unstored c₂.stored (place_r + 4 * i) (λ j x y z t. omega arith) ∙ zero_at c₁ i (place_r + 4 * i) b refl;
    block = zero_block_lem;
  })

  pub cleared_after : after_vectors w₂ ≡ after_vectors w
  cleared_after = after_kept c₂.stored (omega arith) ∙ after_kept c₁.stored (omega arith)
