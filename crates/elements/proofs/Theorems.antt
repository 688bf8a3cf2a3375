-- The theorems of specs/Theorems.antt, each by its proof: without one of them this page is refused.
use Rattle.elements.specs.Theorems.{Theorems}
use Rattle.elements.proofs.Energy.{stretch_energy_lem, bend_energy_lem}
use Rattle.elements.proofs.EnergySide.{stretch_not_below, bend_not_below}
use Rattle.elements.proofs.OwnLength.{stretch_of_own_length, frame_of_own_length}
use Rattle.elements.proofs.Samples.{stretches, frames, darboux_vectors, turns, bends}

theorems : Theorems
theorems = record {
  stretch_answers_energy = stretch_energy_lem;
  bend_answers_energy = bend_energy_lem;
  stretch_not_below = stretch_not_below;
  bend_not_below = bend_not_below;
  stretch_of_own_length = stretch_of_own_length;
  frame_of_own_length = frame_of_own_length;
  stretches = stretches;
  frames = frames;
  darboux_vectors = darboux_vectors;
  turns = turns;
  bends = bends;
}
