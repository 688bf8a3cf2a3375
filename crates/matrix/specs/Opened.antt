-- Opens all that computing a system, a product and a solve needs: an evaluated example says `unfolding opened`, and nothing else does.
use mathlib.Core.List.{zip_with}
use Rattle.std.specs.Prelude.{ℕ}
use Rattle.elements.specs.Opened.{opened as opened_elements}
use Rattle.matrix.specs.Parts.{part, put, table}
use Rattle.matrix.specs.Rows.{row3, rows3, row4, rows4, block16, blocks16, numbers4, flat4, numbers16}
use Rattle.matrix.specs.SliceOfArray.{zero_rows, dot_from, dot_rows, add_scaled_vector, scale_and_add_vec}
use Rattle.matrix.specs.Layout.{before, after, row_length, row_start, column_at, column_place, block_place}
use Rattle.matrix.specs.SparseSquare.{add_products, row_times, matrix_rows, mult_vec}
use Rattle.matrix.specs.Blocks.{matrix_of, block_in}
use Rattle.matrix.specs.Pins.{unless_pinned, row_unless_fixed, set_fix_dof_to_rhs_vector, pinned_columns, block_fixed, set_fixed_bc}
use Rattle.matrix.specs.Area.{after_vectors}
use Rattle.matrix.specs.System.{system_at, changed_if, every, system_is_finite}
use Rattle.matrix.specs.HairSystem.{stretch_element, bend_element, staged_shape, rod_of, stretch_at, bend_at, stretches, bends, plus_gradient, plus_block, add_gradients, add_blocks, plus_element, plus_elements, sum_energies, sum_gradients, sum_blocks, assembled, diagonal_plus, with_diagonal, hair_elements, hair_energy, hair_system}
use Rattle.matrix.specs.Loads.{pick_force, pulled, with_pull, with_pick, with_inertia}
use Rattle.matrix.specs.Fixed.{fixed_where, with_fixed, with_pins}
use Rattle.matrix.specs.ConjugateGradient.{solving_at, product_of, alpha_of, residual_of, redirected, started, ratio_of, iterated, conjugate_gradient}
use Rattle.matrix.specs.Iterations.{state_after, ratio_after, left_after}

unfoldable pub opened : ℕ
unfolding part put table row3 rows3 row4 rows4 block16 blocks16 numbers4 flat4 numbers16 zero_rows dot_from dot_rows add_scaled_vector scale_and_add_vec before after row_length row_start column_at column_place block_place add_products row_times matrix_rows mult_vec matrix_of block_in unless_pinned row_unless_fixed set_fix_dof_to_rhs_vector pinned_columns block_fixed set_fixed_bc after_vectors system_at changed_if every system_is_finite stretch_element bend_element staged_shape rod_of stretch_at bend_at stretches bends plus_gradient plus_block add_gradients add_blocks plus_element plus_elements sum_energies sum_gradients sum_blocks assembled diagonal_plus with_diagonal hair_elements hair_energy hair_system pick_force pulled with_pull with_pick with_inertia fixed_where with_fixed with_pins solving_at product_of alpha_of residual_of redirected started ratio_of iterated conjugate_gradient state_after ratio_after left_after zip_with opened_elements
opened = 0
