-- The samples, computed by the checker from the definitions.
use Rattle.vectors.specs.Samples.{have_bits}
use Rattle.elements.specs.Opened.{opened}
use Rattle.elements.specs.SamplesSpring3.{stretch1, stretch2, stretch3, p5, StretchesHold}
use Rattle.elements.specs.SamplesDarboux.{frame1, frame2, frame3, dot_gradient1, dot_gradient2, dot_gradient3, darboux1, darboux2, darboux3, p6, darboux_gradient1, darboux_gradient2, darboux_gradient3, turned1, turned2, turned3, FramesHold, DarbouxVectorsHold, TurnsHold}
use Rattle.elements.specs.SamplesBend.{bend1, bend2, bend3, BendsHold}

pub stretches : StretchesHold
unfolding opened have_bits stretch1 stretch2 stretch3 p5
stretches = tt

pub frames : FramesHold
unfolding opened have_bits frame1 frame2 frame3 dot_gradient1 dot_gradient2 dot_gradient3
frames = tt

pub darboux_vectors : DarbouxVectorsHold
unfolding opened have_bits darboux1 darboux2 darboux3 p6 darboux_gradient1 darboux_gradient2 darboux_gradient3
darboux_vectors = tt

pub turns : TurnsHold
unfolding opened have_bits turned1 turned2 turned3
turns = tt

pub bends : BendsHold
unfolding opened have_bits bend1 bend2 bend3
bends = tt
