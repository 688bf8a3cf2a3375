-- The companion says what the look is refused with, and leaves the bench.
use Rattle.std.proofs.Common.{◌∙◌, sym, ap}
use Rattle.bench.specs.Answers.{said}
use Rattle.bench.specs.Refusals.{told}
use Rattle.bench.proofs.Refusals.{told_on}
use Rattle.bench.proofs.LookRows.{companion_keeps}
use Rattle.bench.proofs.EveryCall.{companion_tells}
use Rattle.bench.proofs.look.companion.Goals as goal

pub returns-in_err-place_of-clause-answer : goal.returns-in_err-place_of-clause-answer
unfolding told
returns-in_err-place_of-clause-answer c pins = ap said (told_on _ _ c.from_residual.ensures.1 ∙ c.in_err-place_of.ensures.number pins) ∙ sym (companion_tells _ _ _)

pub returns-in_err-place_of-clause-after : goal.returns-in_err-place_of-clause-after
returns-in_err-place_of-clause-after c pins = companion_keeps _ _ _

pub returns-clause-answer : goal.returns-clause-answer
unfolding told
returns-clause-answer c pins = ap said (c.in_ok-place_of.ensures.number pins) ∙ sym (companion_tells _ _ _)

pub returns-clause-after : goal.returns-clause-after
returns-clause-after c pins = companion_keeps _ _ _
