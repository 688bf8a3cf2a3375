-- The entry's number, or the row whose test was the first to hold behind it.
use Rattle.std.proofs.Common.{◌≡◌, refl, sym, ap, ◌∙◌}
use Rattle.std.specs.Option.{ok_or}
use Rattle.bench.specs.declared.refusal.Refusal.TheVariants.{Lists}
use Rattle.bench.specs.Asks.{load_of}
use Rattle.bench.specs.Refusals.{refusal_number, told}
use Rattle.bench.proofs.Refusals.{told_on, refused_on}
use Rattle.bench.proofs.LoadRows.{counted, not_counted, load_tests}
use Rattle.bench.proofs.load.asked.Goals as goal

pub returns-in_err-vacant-clause-number : goal.returns-in_err-vacant-clause-number
unfolding told
returns-in_err-vacant-clause-number c =
    let a = c.args in
    refused_on _ _ _ _ c.from_residual.ensures.1 (load_tests a.seats a.rest.now a.drape.now a.pins.now a.seat (load_of a.n a.settings a.positions.now a.frames.now) _ (rw c.are_whole-long.ensures at c.in_err-vacant.ensures))

pub returns-in_err-n-clause-number : goal.returns-in_err-n-clause-number
unfolding told refusal_number
returns-in_err-n-clause-number c =
    let a = c.args in
    told_on _ _ c.from_residual-in_err-n.ensures.1
    ∙ ap told (c.in_err-n.ensures.value ∙ ap (λ o. ok_or o Lists) c.in_err-n.ensures.ok_part)
    ∙ sym (rw (load_tests a.seats a.rest.now a.drape.now a.pins.now a.seat (load_of a.n a.settings a.positions.now a.frames.now) 0 (rw c.are_whole-long.ensures at c.in_ok-vacant.ensures), not_counted c.new.result a.n c.new.ensures.variant c.in_err-n.ensures.ok_part) refl)

pub returns-then-not-lists_fit-clause-number : goal.returns-then-not-lists_fit-clause-number
unfolding told refusal_number
returns-then-not-lists_fit-clause-number c =
    let a = c.args in
    let e : c.in_ok-n.n.count ≡ a.n = rw c.in_ok-n.ensures.ok_part at c.new.ensures.value in
    rw (load_tests a.seats a.rest.now a.drape.now a.pins.now a.seat (load_of a.n a.settings a.positions.now a.frames.now) 0 (rw c.are_whole-long.ensures at c.in_ok-vacant.ensures), counted c.in_ok-n.n a.n e, rw (c.lists_fit.ensures, e) at c.if-not-lists_fit.true)

pub returns-then-not-given_fit-clause-number : goal.returns-then-not-given_fit-clause-number
unfolding told refusal_number
returns-then-not-given_fit-clause-number c =
    let a = c.args in
    let e : c.in_ok-n.n.count ≡ a.n = rw c.in_ok-n.ensures.ok_part at c.new.ensures.value in
    rw (load_tests a.seats a.rest.now a.drape.now a.pins.now a.seat (load_of a.n a.settings a.positions.now a.frames.now) 0 (rw c.are_whole-long.ensures at c.in_ok-vacant.ensures), counted c.in_ok-n.n a.n e, rw (c.lists_fit.ensures, e) at c.if-not-lists_fit.false, rw c.given_fit.ensures at c.if-not-given_fit.true)

pub returns-then-not-edges_fit-clause-number : goal.returns-then-not-edges_fit-clause-number
unfolding told refusal_number
returns-then-not-edges_fit-clause-number c =
    let a = c.args in
    let e : c.in_ok-n.n.count ≡ a.n = rw c.in_ok-n.ensures.ok_part at c.new.ensures.value in
    rw (load_tests a.seats a.rest.now a.drape.now a.pins.now a.seat (load_of a.n a.settings a.positions.now a.frames.now) 0 (rw c.are_whole-long.ensures at c.in_ok-vacant.ensures), counted c.in_ok-n.n a.n e, rw (c.lists_fit.ensures, e) at c.if-not-lists_fit.false, rw c.given_fit.ensures at c.if-not-given_fit.false, rw (c.edges_fit.ensures, e) at c.if-not-edges_fit.true)

pub returns-clause-number : goal.returns-clause-number
unfolding told
returns-clause-number c =
    let a = c.args in
    let e : c.in_ok-n.n.count ≡ a.n = rw c.in_ok-n.ensures.ok_part at c.new.ensures.value in
    rw (load_tests a.seats a.rest.now a.drape.now a.pins.now a.seat (load_of a.n a.settings a.positions.now a.frames.now) 0 (rw c.are_whole-long.ensures at c.in_ok-vacant.ensures), counted c.in_ok-n.n a.n e, rw (c.lists_fit.ensures, e) at c.if-not-lists_fit.false, rw c.given_fit.ensures at c.if-not-given_fit.false, rw (c.edges_fit.ensures, e) at c.if-not-edges_fit.false)
