-- The samples, computed by the checker from the definitions.
use Rattle.vectors.specs.Opened.{opened}
use Rattle.vectors.specs.Samples.{have_bits, angle_row, angles, va, vb, vc, factor, vectors, blocks, wa, wb, minus_zeros, ones, fours, turns, SamplesHold}

pub samples : SamplesHold
unfolding opened have_bits angle_row angles va vb vc factor vectors blocks wa wb minus_zeros ones fours turns
samples = tt
