-- A refused look hands back nothing; another the numbers at its place.
use native.Mathlib.Nat.{add-sub_cancel_left}
use Rattle.matrix.specs.Parts.{part}
use Rattle.bench.specs.Refusals.{told}
use Rattle.bench.proofs.Refusals.{number_not_0}
use Rattle.bench.proofs.Entered.{call_declined}
use Rattle.bench.proofs.LookRows.{look_keeps}
use Rattle.bench.proofs.look.look.Goals as goal

pub returns-in_default-clause-answer : goal.returns-in_default-clause-answer
unfolding told
returns-in_default-clause-answer c pins = (call_declined _ _ _ (c.in_default.ensures.number pins) (number_not_0 _)).0

pub returns-in_default-clause-after : goal.returns-in_default-clause-after
returns-in_default-clause-after c pins = look_keeps _ _ _

pub returns-in-Rest-clause-answer : goal.returns-in-Rest-clause-answer
unfolding part
returns-in-Rest-clause-answer c pins = rw (add-sub_cancel_left c.in-Ok.p.at c.in-Ok.p.count) (rw c.in-Rest.is at (c.in-Ok.ensures.shown pins))

pub returns-in-Rest-clause-after : goal.returns-in-Rest-clause-after
returns-in-Rest-clause-after c pins = look_keeps _ _ _

pub returns-in-Drape-clause-answer : goal.returns-in-Drape-clause-answer
unfolding part
returns-in-Drape-clause-answer c pins = rw (add-sub_cancel_left c.in-Ok.p.at c.in-Ok.p.count) (rw c.in-Drape.is at (c.in-Ok.ensures.shown pins))

pub returns-in-Drape-clause-after : goal.returns-in-Drape-clause-after
returns-in-Drape-clause-after c pins = look_keeps _ _ _
