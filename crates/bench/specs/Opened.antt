-- Opens all that computing calls and steps needs: an evaluated example says `unfolding opened`, and nothing else does.
use Rattle.std.specs.Prelude.{ℕ}
use Rattle.matrix.specs.Opened.{opened as opened_matrix}
use Rattle.matrix.specs.Rows.{numbers3, flat3}
use Rattle.bench.specs.Rows.{any, first}
use Rattle.bench.specs.Strand.{new_record, new_bench, strand_of, put_strand, put_all}
use Rattle.bench.specs.Given.{good_settings, good_seat, good_record, edges_fit}
use Rattle.bench.specs.Refusals.{refusal_number, refusal_of}
use Rattle.bench.specs.Answers.{step_numbers}
use Rattle.bench.specs.Update.{vec3_unless_pinned, orthonormalize_framex_for_hair, turn_at, is_turned, turned_frames, moved_at, update_solution_hair, turns_fit}
use Rattle.bench.specs.Step.{pick_fits, goal_fits, time_fits, predicted, predicted_copy, predicted_shape, shape_by, with_picked, energy_of, picked_system, timed, begun_with, begin_rows, solved, static_drape, velocity_after, velocities_after, positions_after, dynamic_drape, drape_after, outcome_is_finite, drape_is_finite, finish_rows, update_of}
use Rattle.bench.specs.Asks.{lent_of}
use Rattle.bench.specs.Requests.{padded, loaded_on, emptied, pinned_on, shown_of, case_at}
use Rattle.bench.specs.Calls.{lent_long, seat_rows, case_of, done_of}
use Rattle.bench.specs.Runs.{run}

unfoldable pub opened : ℕ
unfolding numbers3 flat3 any first new_record new_bench strand_of put_strand put_all good_settings good_seat good_record edges_fit step_numbers refusal_number refusal_of vec3_unless_pinned orthonormalize_framex_for_hair turn_at is_turned turned_frames moved_at update_solution_hair turns_fit pick_fits goal_fits time_fits predicted predicted_copy predicted_shape shape_by with_picked energy_of picked_system timed begun_with begin_rows solved static_drape velocity_after velocities_after positions_after dynamic_drape drape_after outcome_is_finite drape_is_finite finish_rows update_of lent_of padded loaded_on emptied pinned_on shown_of case_at lent_long seat_rows case_of done_of run opened_matrix
opened = 0
