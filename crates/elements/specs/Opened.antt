-- Opens all that computing an element needs: an evaluated example says `unfolding opened`, and nothing else does.
use Rattle.std.specs.Prelude.{ℕ}
use Rattle.vectors.specs.Opened.{opened as opened_vectors}
use Rattle.elements.specs.Square.{square}
use Rattle.elements.specs.Spring3.{stretch_energy, stretch_block, stretch_of_length, wdwddw_squared_length_difference}
use Rattle.elements.specs.Darboux.{edge_frame, edge_frame_of_length, rod_frame_gradient, no_gradient, add_gradient_of_dot_frame_axis, darboux_denominator, denominator_gradient, darboux_of, darboux_rod, combined_gradient, darboux_axis, cdc_of, cdc_rod_darboux}
use Rattle.elements.specs.Bend.{entrywise, bend_energy, weighted_sum, bend_node0, bend_node1, bend_node2, bend_gradient, block_sum, with_coupling, bend_block, coupled_of, bend_row0, bend_row1, bend_row2, approx_hessian_of, wdwdwdw_darboux_rod_hair_approx_hessian}
use Rattle.elements.specs.Turned.{updated_rod_frame}

unfoldable pub opened : ℕ
unfolding square stretch_energy stretch_block stretch_of_length wdwddw_squared_length_difference edge_frame edge_frame_of_length rod_frame_gradient no_gradient add_gradient_of_dot_frame_axis darboux_denominator denominator_gradient darboux_of darboux_rod combined_gradient darboux_axis cdc_of cdc_rod_darboux entrywise bend_energy weighted_sum bend_node0 bend_node1 bend_node2 bend_gradient block_sum with_coupling bend_block coupled_of bend_row0 bend_row1 bend_row2 approx_hessian_of wdwdwdw_darboux_rod_hair_approx_hessian updated_rod_frame opened_vectors
opened = 0
