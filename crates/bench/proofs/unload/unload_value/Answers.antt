-- A refused call leaves everything; an accepted one leaves the empty strand.
use Rattle.std.proofs.Common.{◌≡◌, refl, rules}
use Rattle.vectors.specs.Number.{plus_zero}
use Rattle.bench.specs.Strand.{settings_of, put_strand, put_all}
use Rattle.bench.specs.Refusals.{told, record_after}
use Rattle.bench.specs.Requests.{emptied, case_at}
use Rattle.bench.specs.Calls.{case_of}
use Rattle.bench.proofs.Refusals.{record_kept}
use Rattle.bench.proofs.Entered.{call_refused, call_done, entered}
use Rattle.bench.proofs.unload.unload_value.Goals as goal

pub returns-in_err-asked-clause-answer : goal.returns-in_err-asked-clause-answer
unfolding told
returns-in_err-asked-clause-answer c = (call_refused _ _ _ _ c.from_residual.ensures.1 c.in_err-asked.ensures).0

pub returns-in_err-asked-clause-after : goal.returns-in_err-asked-clause-after
unfolding told
returns-in_err-asked-clause-after c = rw (record_kept c.args.seats _ _ c.from_residual.ensures.1) (call_refused _ _ _ _ c.from_residual.ensures.1 c.in_err-asked.ensures).1

pub clear-requires : goal.clear-requires
unfolding told
clear-requires c =
    let h = entered _ _ _ _ 0 c.in_ok-asked.ensures refl in
    record {
      seat_lt_seats = h.seat;
      rest_len = h.areas.rest refl;
      drape_len = h.areas.drape refl;
      pins_len = h.areas.pins refl;
    }

pub seated-requires : goal.seated-requires
unfolding told
seated-requires c = (entered _ _ _ _ 0 c.in_ok-asked.ensures refl).seat

pub returns-clause-answer : goal.returns-clause-answer
unfolding told case_of case_at
returns-clause-answer c = (call_done _ _ 0 c.in_ok-asked.ensures refl).0

pub returns-clause-after : goal.returns-clause-after
unfolding told record_after case_of case_at put_all put_strand emptied
returns-clause-after c =
    let w = c.clear.ensures in
    let z : c.default.result ≡ settings_of plus_zero = search rules in
    rw (w.rest_after, w.drape_after, w.pins_after, c.seated.ensures, z) (call_done _ _ 0 c.in_ok-asked.ensures refl).1
