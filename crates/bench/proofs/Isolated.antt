-- The theorem: a seat alone is a party, and the new bench agrees with itself. The pins are followed through the list, call by call, from the empty seat, and what work areas hold does not matter.
use mathlib.Core.Path.{◌≡◌, refl, sym, ap, ◌∙◌}
use mathlib.Core.Bool.{Bool, true, false≢true, or-false}
use mathlib.Core.List.{List, [], ◌∷◌}
use Prim.Native.Nat.{ℕ, ◌<◌}
use lib.Dec.{eqb, ltb}
use native.Mathlib.Omega.{arith}
use borrow.Author.Tests.{eq-eqb, ne_eqb, eqb-true, ltb-false}
use Rattle.matrix.specs.System.{every}
use Rattle.bench.specs.Areas.{seats}
use Rattle.bench.specs.Strand.{Bench, new_bench, strand_of}
use Rattle.bench.specs.Rows.{any}
use Rattle.bench.specs.Answers.{finite_answer}
use Rattle.bench.specs.Asks.{Asks, of, Call}
use Rattle.bench.specs.Calls.{after_of}
use Rattle.bench.specs.Runs.{run, after, kept_by, KeepsItsOwn, answers_to}
use Rattle.bench.specs.PinStory.{events_of, history, Story, empty, story}
use Rattle.bench.specs.Isolation.{Isolation}
use Rattle.matrix.proofs.Cases.{by_test}
use Rattle.bench.proofs.SeatParts.{Good, good_new, empty_new}
use Rattle.bench.proofs.Tracking.{Tracks, story_append, stays_by}
use Rattle.bench.proofs.EveryCall.{finite_answer_lem, good_after, tracks_call}
use Rattle.bench.proofs.Contents.{same_answers, same_after}
use Rattle.bench.proofs.Lists.{Respected, none, more, Closed, alike_lists, respects}

-- ---- the pins
tracks_list : (i j s : ℕ) → s < seats → (cs : List Call) (t : Story) (b : Bench) → Good b → Tracks i j t (strand_of s b) → Tracks i j (story i j t (history s cs b)) (strand_of s (after cs b))
unfolding history run story
tracks_list i j s m [] t b g q = q
tracks_list i j s m (c ∷ cs) t b g q =
    rw (story_append i j t (events_of s c b) (history s cs (after_of c b))) (tracks_list i j s m cs (story i j t (events_of s c b)) (after_of c b) (good_after c b g) (tracks_call c i j t b g s m q))

-- ---- the answers
finite_answers : (kept : Call → Bool) (cs : List Call) (b : Bench) → Good b → every finite_answer (answers_to kept cs b) ≡ true
unfolding answers_to every
finite_answers kept [] b g = refl
finite_answers kept (c ∷ cs) b g = let ih = finite_answers kept cs (after_of c b) (good_after c b g) in by_test (kept c) (λ e. rw (e, finite_answer_lem c b g) ih) (λ e. rw e ih)

-- ---- a seat alone
pub keeps_its_own : KeepsItsOwn
unfolding any every
keeps_its_own s t a w h = by_test (ltb t seats) (λ q. rw q (or-false (eqb s t))) (λ q. rw q (sym (ne_eqb s t (λ e. omega (arith, ltb-false t seats q)))))

one_named : (s : ℕ) (a : Asks) → Closed (eqb s) a
unfolding any every
one_named s (of r a) e t f =
    by_test (ltb r seats)
    (λ q. eq-eqb s t (eqb-true s r (sym (or-false (eqb s r)) ∙ (rw q at e)) ∙ sym (eqb-true t r (sym (or-false (eqb t r)) ∙ (rw q at f)))))
    (λ q. absurd (false≢true (rw q at e)))

alone : (s : ℕ) (cs : List Call) → Respected (eqb s) cs
alone s [] = none
alone s (c ∷ cs) = more (respects (eqb s) c (one_named s c.asks)) (alone s cs)

pub isolation : Isolation
isolation s cs ds m e =
    let a = alike_lists (eqb s) (alone s cs) new_bench new_bench (record { left = good_new; right = good_new; strands = λ t k p. refl }) in
    record {
      same_answers = a.0 ∙ sym (same_answers e new_bench);
      same_strand = a.1.strands s m (eq-eqb s s refl) ∙ ap (strand_of s) (sym (same_after e new_bench));
      finite_answers = finite_answers (kept_by (eqb s)) cs new_bench good_new;
      finite = (a.1.left.fine s m).finite;
      pins_hold = λ i j. stays_by i j (story i j empty (history s cs new_bench)) (strand_of s (after cs new_bench)) (tracks_list i j s m cs empty new_bench good_new (empty_new s m));
    }
