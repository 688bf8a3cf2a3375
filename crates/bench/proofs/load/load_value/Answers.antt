-- A refused call leaves everything; an accepted one leaves the loaded strand.
use Rattle.std.proofs.Common.{refl}
use Rattle.bench.specs.Strand.{put_strand, put_all}
use Rattle.bench.specs.Refusals.{told, record_after}
use Rattle.bench.specs.Requests.{loaded_on, case_at}
use Rattle.bench.specs.Calls.{case_of}
use Rattle.bench.proofs.Refusals.{record_kept}
use Rattle.bench.proofs.Entered.{call_refused, call_done, entered}
use Rattle.bench.proofs.load.load_value.Goals as goal

pub returns-in_err-lists-clause-answer : goal.returns-in_err-lists-clause-answer
unfolding told
returns-in_err-lists-clause-answer c = (call_refused _ _ _ _ c.from_residual.ensures.1 c.in_err-lists.ensures.number).0

pub returns-in_err-lists-clause-after : goal.returns-in_err-lists-clause-after
unfolding told
returns-in_err-lists-clause-after c = rw (record_kept c.args.seats _ _ c.from_residual.ensures.1) (call_refused _ _ _ _ c.from_residual.ensures.1 c.in_err-lists.ensures.number).1

pub lay-requires : goal.lay-requires
unfolding told
lay-requires c =
    let h = entered _ _ _ _ 0 c.in_ok-lists.ensures.number refl in
    record {
      seat_lt_seats = h.seat;
      rest_len = h.areas.rest refl;
      drape_len = h.areas.drape refl;
      pins_len = h.areas.pins refl;
    }

pub seated-requires : goal.seated-requires
unfolding told
seated-requires c = (entered _ _ _ _ 0 c.in_ok-lists.ensures.number refl).seat

pub returns-clause-answer : goal.returns-clause-answer
unfolding told case_of case_at
returns-clause-answer c = (call_done _ _ 0 c.in_ok-lists.ensures.number refl).0

pub returns-clause-after : goal.returns-clause-after
unfolding told record_after case_of case_at put_all put_strand loaded_on
returns-clause-after c =
    let w = c.lay.ensures in
    let l = c.in_ok-lists.ensures.lists in
    rw (w.rest_after, w.drape_after, w.pins_after, c.seated.ensures, l.0, l.1) (call_done _ _ 0 c.in_ok-lists.ensures.number refl).1
