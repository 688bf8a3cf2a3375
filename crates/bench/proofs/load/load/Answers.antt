-- The record is changed where the call is accepted, and only there.
use Rattle.std.proofs.Common.{ap, ◌∙◌}
use Rattle.bench.specs.Answers.{said}
use Rattle.bench.specs.Refusals.{told, record_after}
use Rattle.bench.proofs.Refusals.{told_on}
use Rattle.bench.proofs.load.load.Goals as goal

pub returns-in_err-seats-clause-answer : goal.returns-in_err-seats-clause-answer
unfolding told
returns-in_err-seats-clause-answer c = ap said (told_on _ _ c.from_residual.ensures.1) ∙ c.in_err-seats.ensures.answer

pub returns-in_err-seats-clause-after : goal.returns-in_err-seats-clause-after
unfolding record_after
returns-in_err-seats-clause-after c = c.in_err-seats.ensures.after

pub returns-clause-answer : goal.returns-clause-answer
unfolding told
returns-clause-answer c = c.in_ok-seats.ensures.answer

pub returns-clause-after : goal.returns-clause-after
unfolding record_after
returns-clause-after c = c.in_ok-seats.ensures.after
