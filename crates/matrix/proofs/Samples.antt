-- The samples, computed by the checker from the definitions.
use mathlib.Core.List.{flat_map}
use Rattle.vectors.specs.Samples.{have_bits}
use Rattle.matrix.specs.Opened.{opened}
use Rattle.matrix.specs.SamplesSystem.{rest_shape, now_shape, hair, hair_energy_sample, hair_gradient, hair_blocks, hair_sample, picked_gradient, picked_blocks, picked_sample, inert_blocks, inert_sample, sample_pins, pinned_gradient, pinned_gradient_sample, pinned_blocks, pinned_blocks_sample, EnergyHolds, AssemblyHolds, LoadsHold, PinsHold}
use Rattle.matrix.specs.SamplesSolve.{product_sample, limited_solve, converged_solve, ProductHolds, LimitedHolds, ConvergedHolds}

pub energy : EnergyHolds
unfolding opened have_bits rest_shape now_shape hair_energy_sample
energy = tt

pub assembled : AssemblyHolds
unfolding opened have_bits flat_map rest_shape now_shape hair hair_gradient hair_blocks hair_sample
assembled = tt

pub loads : LoadsHold
unfolding opened have_bits flat_map hair_gradient hair_blocks picked_gradient picked_blocks inert_blocks picked_sample inert_sample
loads = tt

pub pins : PinsHold
unfolding opened have_bits flat_map picked_gradient inert_blocks sample_pins pinned_gradient pinned_blocks pinned_gradient_sample pinned_blocks_sample
pins = tt

pub product : ProductHolds
unfolding opened have_bits pinned_blocks product_sample
product = tt

pub limited : LimitedHolds
unfolding opened have_bits pinned_gradient pinned_blocks limited_solve
limited = tt

pub converged : ConvergedHolds
unfolding opened have_bits pinned_gradient pinned_blocks converged_solve
converged = tt
