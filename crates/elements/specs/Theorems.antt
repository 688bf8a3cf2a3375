-- What is proved of the elements beyond the contracts: each theorem that the documents claim. proofs/Theorems.antt has a proof of every one.
use Rattle.elements.specs.Spring3.{StretchAnswersEnergy, StretchOfOwnLength, StretchNotBelow}
use Rattle.elements.specs.Darboux.{FrameOfOwnLength}
use Rattle.elements.specs.Bend.{BendAnswersEnergy, BendNotBelow}
use Rattle.elements.specs.SamplesSpring3.{StretchesHold}
use Rattle.elements.specs.SamplesDarboux.{FramesHold, DarbouxVectorsHold, TurnsHold}
use Rattle.elements.specs.SamplesBend.{BendsHold}

pub record Theorems : Type 0 where
  -- the stretch answers `stretch_energy`
  pub stretch_answers_energy : StretchAnswersEnergy
  -- bend and twist answer `bend_energy`
  pub bend_answers_energy : BendAnswersEnergy
  -- where no stiffness is below 0, no energy is
  pub stretch_not_below : StretchNotBelow
  pub bend_not_below : BendNotBelow
  -- by an edge's own length the stretch is the published one
  pub stretch_of_own_length : StretchOfOwnLength
  -- and the frame is the edge's
  pub frame_of_own_length : FrameOfOwnLength
  -- the samples of stretch, with document 01's P5
  pub stretches : StretchesHold
  -- of frames and their gradients
  pub frames : FramesHold
  -- of the Darboux vector, with P6, and its gradient
  pub darboux_vectors : DarbouxVectorsHold
  -- of the turned frame
  pub turns : TurnsHold
  -- of bend and twist
  pub bends : BendsHold
