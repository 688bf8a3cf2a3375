-- The samples of the two kinds of step, computed by the checker from the definitions.
use lib.Dec.{T}
use Rattle.vectors.specs.Samples.{have_bits}
use Rattle.elements.specs.Written.{number}
use Rattle.bench.specs.Opened.{opened}
use Rattle.bench.specs.Step.{still, over, update_of}
use Rattle.bench.specs.SamplesStep.{vectors, rest_bits, drape_bits, step_pins, sample_settings, step_settings, velocities_before, copy_before, step_rest, drape_before, step_strand, step_pick, leaves, static_after, dynamic_after, StepSamples}

static : T (leaves (update_of step_strand step_pick still) 0x3FB3_EA2D_4272_13B1 0x3F85_EAEC_08AF_D690 5 static_after)
unfolding opened have_bits vectors rest_bits drape_bits step_pins sample_settings step_settings velocities_before copy_before step_rest drape_before step_strand step_pick leaves static_after
static = tt

dynamic : T (leaves (update_of step_strand step_pick (over (number 0x3FD7_AE14_7AE1_47AE))) 0x3FC1_78CE_242A_9F0A 0x3F75_E4B4_89AB_16FA 4 dynamic_after)
unfolding opened have_bits vectors rest_bits drape_bits step_pins sample_settings step_settings velocities_before copy_before step_rest drape_before step_strand step_pick leaves dynamic_after
dynamic = tt

pub step_samples : StepSamples
step_samples = record { static = static; dynamic = dynamic }
