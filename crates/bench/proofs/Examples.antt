-- Document 01's examples P1 to P10, and what two of them tell of a pin, computed by the checker from the definitions.
use mathlib.Core.Path.{refl}
use Rattle.bench.specs.Opened.{opened}
use Rattle.bench.specs.PinStory.{events_of, history, next, story}
use Rattle.bench.specs.Examples.{answer_numbers, Examples, PinsTold}

pub examples : Examples
unfolding opened answer_numbers
examples = record { p1 = refl; p2 = refl; p3 = refl; p4 = refl; p5 = refl; p6 = refl; p7 = refl; p8 = refl; p9 = refl; p10 = refl }

pub pins_told : PinsTold
unfolding opened events_of history next story
pins_told = record { pinned = refl; loose = refl }
