-- The examples, computed by the checker: the table P1 to P4, and the samples.
use Rattle.roots.specs.Opened.{opened}
use Rattle.roots.specs.Examples.{root_row, p1, p2, p3, p4, ExamplesHold}
use Rattle.roots.specs.Samples.{all_hold, SamplesHold}

pub table : ExamplesHold
unfolding opened root_row p1 p2 p3 p4
table = tt

pub samples : SamplesHold
unfolding opened root_row all_hold
samples = tt
