-- A refused call leaves the bytes; an accepted one stores one.
use Rattle.std.proofs.Common.{[], refl, arith}
use Rattle.bench.specs.Refusals.{told}
use Rattle.bench.proofs.Entered.{call_refused}
use Rattle.bench.proofs.PinRows.{pin_accepted, pin_done}
use Rattle.bench.proofs.pin.pin.Goals as goal

pub returns-in_err-asked-clause-answer : goal.returns-in_err-asked-clause-answer
unfolding told
returns-in_err-asked-clause-answer c rest drape = (call_refused _ _ _ _ c.from_residual.ensures.1 (c.in_err-asked.ensures rest drape c.args.byte)).0

pub returns-in_err-asked-clause-after : goal.returns-in_err-asked-clause-after
unfolding told
returns-in_err-asked-clause-after c rest drape = (call_refused _ _ _ _ c.from_residual.ensures.1 (c.in_err-asked.ensures rest drape c.args.byte)).1

pub overflow_mul-pins : goal.overflow_mul-pins
unfolding told
overflow_mul-pins c = let p = pin_accepted _ _ _ _ _ _ _ _ 0 (c.in_ok-asked.ensures [] [] 0) refl in omega (arith, p.seat)

pub overflow_mul-pins-2 : goal.overflow_mul-pins-2
unfolding told
overflow_mul-pins-2 c = let p = pin_accepted _ _ _ _ _ _ _ _ 0 (c.in_ok-asked.ensures [] [] 0) refl in omega (arith, p.vertex)

pub overflow_add-pins : goal.overflow_add-pins
unfolding told
overflow_add-pins c = let p = pin_accepted _ _ _ _ _ _ _ _ 0 (c.in_ok-asked.ensures [] [] 0) refl in omega (arith, p.vertex, p.component)

pub overflow_add-pins-2 : goal.overflow_add-pins-2
unfolding told
overflow_add-pins-2 c = let p = pin_accepted _ _ _ _ _ _ _ _ 0 (c.in_ok-asked.ensures [] [] 0) refl in omega (arith, p.seat, p.vertex, p.component)

pub bounds-pins-seat : goal.bounds-pins-seat
unfolding told
bounds-pins-seat c = let p = pin_accepted _ _ _ _ _ _ _ _ 0 (c.in_ok-asked.ensures [] [] 0) refl in omega (arith, p.long, p.seat, p.vertex, p.component)

pub returns-clause-answer : goal.returns-clause-answer
unfolding told
returns-clause-answer c rest drape = (pin_done _ _ _ _ _ _ _ _ 0 (c.in_ok-asked.ensures rest drape c.args.byte) refl).0

pub returns-clause-after : goal.returns-clause-after
unfolding told
returns-clause-after c rest drape = (pin_done _ _ _ _ _ _ _ _ 0 (c.in_ok-asked.ensures rest drape c.args.byte) refl).1
