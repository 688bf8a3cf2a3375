-- The entry's number, or 5 where there is no such kind; else the numbers stand within the lengths that were tested.
use Rattle.std.proofs.Common.{◌≡◌, ℕ, List, [], refl, sym, ◌∙◌, get_or}
use Rattle.bench.specs.Strand.{bench_of}
use Rattle.bench.specs.Refusals.{told}
use Rattle.bench.specs.Asks.{look, call}
use Rattle.bench.specs.Calls.{number_of}
use Rattle.bench.specs.Looks.{place_on}
use Rattle.bench.proofs.Refusals.{told_on, refused_on}
use Rattle.bench.proofs.LookRows.{Looks, look_tests, looks, place_fits, place_shows}
use Rattle.bench.proofs.look.place_of.Goals as goal
use Rattle.bench.proofs.look.place_of.Goals.{After-place_on}

pub returns-in_err-n-clause-number : goal.returns-in_err-n-clause-number
unfolding told
returns-in_err-n-clause-number c pins =
    let a = c.args in
    refused_on _ _ _ _ c.from_residual.ensures.1 (look_tests a.seats a.rest.now a.drape.now pins a.seat a.kind _ c.in_err-n.ensures.number)

pub returns-in_err-shown-clause-number : goal.returns-in_err-shown-clause-number
unfolding told
returns-in_err-shown-clause-number c pins =
    let a = c.args in
    told_on _ _ c.from_residual-in_err-shown.ensures.1 ∙ c.in_err-shown.ensures.0 ∙ sym (look_tests a.seats a.rest.now a.drape.now pins a.seat a.kind 0 c.in_ok-n.ensures.number)

accepted : (c : After-place_on) (pins : List ℕ) → 0 ≡ number_of (call c.args.seat (look c.args.kind)) (bench_of c.args.seats c.args.rest.now c.args.drape.now pins)
unfolding told
accepted c pins = let a = c.args in c.in_ok-shown.ensures.0 ∙ sym (look_tests a.seats a.rest.now a.drape.now pins a.seat a.kind 0 c.in_ok-n.ensures.number)

looked : (c : After-place_on) (pins : List ℕ) → Looks c.args.seats c.args.rest.now c.args.drape.now pins c.args.seat c.args.kind
looked c pins = looks _ _ _ _ _ _ 0 (accepted c pins) refl

stands : (c : After-place_on) → c.place_on.result ≡ place_on c.args.seat c.args.kind (get_or c.args.seats.counts c.args.seat 0)
stands c = rw (c.in_ok-shown.ensures.1, c.in_ok-n.ensures.count) at c.place_on.ensures

pub returns-clause-number : goal.returns-clause-number
unfolding told
returns-clause-number c = accepted c

pub returns-clause-fits : goal.returns-clause-fits
returns-clause-fits c = place_fits _ _ _ [] _ _ _ (stands c) (looked c [])

pub returns-clause-shown : goal.returns-clause-shown
returns-clause-shown c pins = place_shows _ _ _ pins _ _ _ (stands c) (looked c pins)
