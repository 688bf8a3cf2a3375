-- The theorems of specs/Theorems.antt, each by its proof: without one of them this page is refused.
use Rattle.matrix.specs.Theorems.{Theorems}
use Rattle.matrix.proofs.Parts.{get_or_inside, get_or_outside}
use Rattle.matrix.proofs.AreaMap.{consecutive}
use Rattle.matrix.proofs.RowPlaces.{placed, all_blocks}
use Rattle.matrix.proofs.Columns.{place_injective}
use Rattle.matrix.proofs.EnergySign.{energy_has_plus}
use Rattle.matrix.proofs.FromFirst.{product_added, begins, row_begun}
use Rattle.matrix.proofs.Iterations.{small_start, first_below, one_answer}
use Rattle.matrix.proofs.RootBound.{zero_bounds, above_square_bounds, infinity_bounds, in_place}
use Rattle.matrix.proofs.Samples.{energy, assembled, loads, pins, product, limited, converged}

theorems : Theorems
theorems = record {
  stored_inside = get_or_inside;
  old_outside = get_or_outside;
  consecutive = consecutive;
  row_start_placed = placed;
  all_blocks = all_blocks;
  one_pair = λ n p q i j. place_injective;
  energy_has_plus = energy_has_plus;
  added_from_first = λ a v s r. product_added a v;
  begun_from_zero = λ old s r. begins old;
  ends_the_same = row_begun;
  small_start = small_start;
  solve_is_first_below = first_below;
  one_answer = one_answer;
  zero_bounds = zero_bounds;
  above_square_bounds = above_square_bounds;
  infinity_bounds = infinity_bounds;
  infinity_in_place = in_place;
  energy = energy;
  assembly = assembled;
  loads = loads;
  pins = pins;
  product = product;
  limited = limited;
  converged = converged;
}
