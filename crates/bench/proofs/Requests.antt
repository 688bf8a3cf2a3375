-- What a request does to its seat's strand, where none of its rows fails: it answers finite numbers, leaves fine strands, of its own seat only, and what it tells of a component is so of what it leaves.
-- One pass over the requests; what a row demands is asked for by its number.
use mathlib.Core.Path.{◌≡◌, refl, sym, ap, ◌∙◌}
use mathlib.Core.Bool.{Bool, true, false, not, cond, ◌&&◌, true≢false}
use mathlib.Core.List.{List, [], ◌∷◌, ◌++◌}
use mathlib.Core.Logic.{◌≢◌}
use Prim.Native.Nat.{ℕ, ◌+◌, ◌-◌, ◌*◌, ◌≤◌, ◌<◌}
use native.Mathlib.Omega.{arith}
use lib.Dec.{eqb, ltb}
use lib.ListN.{length, get_or, replicate, length-set, length-replicate, length-append, get_or-replicate, get_or-append}
use lib.Seq.{get_or-set_same, get_or-set_other}
use lib.Ieee.{Float, nan}
use borrow.Author.Tests.{ltb-true, eq-eqb, ne_eqb}
use Rattle.vectors.specs.Number.{plus_zero}
use Rattle.vectors.specs.Finite.{is_finite}
use Rattle.matrix.specs.System.{every}
use Rattle.matrix.proofs.Every.{and_left}
use Rattle.matrix.proofs.Cases.{by_test, by_equality}
use Rattle.bench.specs.declared.answers.Pick.{Pick}
use Rattle.bench.specs.declared.seats.Settings.{Settings}
use Rattle.bench.specs.Areas.{seats, vector_part, rest_part, drape_part, pin_part}
use Rattle.bench.specs.Strand.{Strand, with_drape, setting_numbers, on_seat}
use Rattle.bench.specs.Given.{good_count, not_negative, good_settings}
use Rattle.bench.specs.Rows.{first, last_number, in_table}
use Rattle.bench.specs.Step.{Time, begin_rows, finish_rows, update_of}
use Rattle.bench.specs.Answers.{step_numbers, finite_answer, Tells}
use Rattle.bench.specs.Asks.{Load, Request, load, unload, pin, look, companion, step, refusal_at}
use Rattle.bench.specs.Requests.{padded, loaded_on, emptied, pinned_on, shown_of, asked_rows, case_at}
use Rattle.bench.specs.PinStory.{Event, pinned, events_at, Story, empty, laid, next, story}
use Rattle.bench.specs.Accepted.{StepLeaves}
use Rattle.bench.proofs.Padded.{length_padded}
use Rattle.bench.proofs.EveryNumber.{every_append, every_part, every_weaken}
use Rattle.bench.proofs.Refusals.{number_of_reason}
use Rattle.bench.proofs.RowLaws.{demands_of, passed, holds, second_none}
use Rattle.bench.proofs.LoadRows.{Sized, sized}
use Rattle.bench.proofs.SeatParts.{Fine, count_small, left_at, Sit, none, one, finite_zero, finite_zeros, finite_unset}
use Rattle.bench.proofs.Tracking.{pinned_in, Tracks, step_tracks}
use Rattle.bench.proofs.AcceptedKinds.{step_accepts}

-- ---- the rows
pub numbered : (a : Request) (t : Strand) → every in_table (case_at a t).rows ≡ true
unfolding case_at update_of begin_rows finish_rows every
numbered (load g) t = refl
numbered unload t = refl
numbered (pin v c x) t = refl
numbered (look k) t = refl
numbered (companion k) t = refl
numbered (step p d) t = refl

-- demand i of row k of an accepted request
pub shown : (a : Request) (t : Strand) → first (case_at a t).rows ≡ 0 → (k i : ℕ) → get_or (demands_of k (case_at a t).rows) i true ≡ true
shown a t e = holds (case_at a t).rows (numbered a t) e

-- the request whose events are es takes x to y
record Next (es : List Event) (x y : Strand) : Type 0 where
  pub fine : Fine y
  pub tracks : (i j : ℕ) (t : Story) → Tracks i j t x → Tracks i j (story i j t es) y

-- ---- load
record Given (g : Load) : Type 0 where
  pub count : good_count g.count ≡ true
  pub sized : Sized g
  pub finite_positions : every is_finite g.positions ≡ true
  pub finite_frames : every is_finite g.frames ≡ true
  pub settings : good_settings g.settings ≡ true

given : (g : Load) (t : Strand) → first (case_at (load g) t).rows ≡ 0 → Given g
unfolding case_at demands_of
given g t e =
    let at = shown (load g) t e in
    record {
      count = at 4 0;
      sized = sized g (passed 4 (case_at (load g) t).rows (numbered (load g) t) e);
      finite_positions = at 6 0;
      finite_frames = at 6 1;
      settings = at 6 2;
    }

unpinned : (k : ℕ) → k < pin_part → not (eqb (get_or (replicate pin_part 0) k 0) 0) ≡ false
unpinned k h = ap (λ (b : ℕ). not (eqb b 0)) (get_or-replicate pin_part k 0 0 h)

given_first : (xs rest : List Float) (k : ℕ) → k < length xs → length xs ≤ vector_part → get_or (padded xs ++ rest) k nan ≡ get_or xs k nan
unfolding padded
given_first xs rest k h m = get_or-append (padded xs) rest nan k (omega (arith, length_padded xs m)) ∙ get_or-append xs (replicate (vector_part - length xs) plus_zero) nan k h

finite_padded : (xs : List Float) → every is_finite xs ≡ true → every is_finite (padded xs) ≡ true
unfolding padded
finite_padded xs h = every_append is_finite xs _ h (finite_zeros (vector_part - length xs))

finite_settings : (g : Settings) → good_settings g ≡ true → every is_finite (setting_numbers g) ≡ true
unfolding good_settings
finite_settings g h = every_weaken is_finite not_negative (λ x e. and_left (is_finite x) _ e) (setting_numbers g) h

load_next : (g : Load) (x : Strand) → Given g → Next (events_at (load g)) x (loaded_on g x)
unfolding loaded_on story next
load_next g x z =
    let xs = g.positions in
    let fs = g.frames in
    let small = z.sized.count.most in
    let px = length_padded xs (omega (arith, z.sized.positions)) in
    let pf = length_padded fs (omega (arith, z.sized.frames)) in
    let fx = finite_padded xs z.finite_positions in
    let ff = finite_padded fs z.finite_frames in
    record {
      fine = record {
        rest = simp length-append (omega arith);
        drape = simp (length-append, length-replicate) (omega arith);
        pins = refl;
        taken = λ _. record { count = z.count; settings = z.settings };
        finite = record {
          settings = finite_settings g.settings z.settings;
          rest = every_append is_finite (padded xs) _ fx ff;
          drape = every_append is_finite (padded xs) _ fx (every_append is_finite (padded fs) _ ff (every_append is_finite (replicate vector_part plus_zero) _ (finite_zeros vector_part) fx));
        };
      };
      tracks = λ i j t q u v. (sym (unpinned (4 * i + j) (omega arith)), λ e. given_first xs _ (3 * i + j) (omega (arith, z.sized.positions)) (omega (arith, z.sized.positions)));
    }

-- ---- unload
unload_next : (x : Strand) → Next (events_at unload) x (emptied x)
unfolding emptied story next
unload_next x = record {
  fine = record { rest = refl; drape = refl; pins = refl; taken = λ e. absurd (true≢false e); finite = record { settings = finite_unset; rest = finite_zeros rest_part; drape = finite_zeros drape_part } };
  tracks = λ i j t q. refl;
}

-- ---- pin
module _ (v c b : ℕ) (x : Strand) (f : Fine x) (vn : v < x.count) (c4 : c < 4) where
  pin_byte : (i j : ℕ) (p : Bool) → j < 3 → p ≡ pinned_in i j x → cond (eqb v i && eqb c j) (not (eqb b 0)) p ≡ pinned_in i j (pinned_on v c b x)
  unfolding pinned_on
  pin_byte i j p j3 q = by_equality v i (λ e. by_equality c j (here e) (λ d. rw (eq-eqb v i e, ne_eqb c j d) (other (λ k. d (omega arith))))) (λ e. rw (ne_eqb v i e) (other (λ k. e (omega arith))))
    where
      here : v ≡ i → c ≡ j → cond (eqb v i && eqb c j) (not (eqb b 0)) p ≡ pinned_in i j (pinned_on v c b x)
      here e d = rw (eq-eqb v i e, eq-eqb c j d, ← e, ← d, get_or-set_same x.pins (4 * v + c) b 0 (omega (arith, count_small x f, f.pins)))

      other : 4 * i + j ≢ 4 * v + c → p ≡ pinned_in i j (pinned_on v c b x)
      other n = rw (get_or-set_other x.pins (4 * v + c) (4 * i + j) b 0 n) q

  pin_tracks : (i j : ℕ) (t : Story) → Tracks i j t x → Tracks i j (next i j t (pinned v c b)) (pinned_on v c b x)
  unfolding next pinned_on
  pin_tracks i j empty q = q
  pin_tracks i j (laid g last always) q = λ u w. (pin_byte i j last w (q u w).0, (q u w).1)

pin_next : (v c b : ℕ) (x : Strand) → Fine x → first (case_at (pin v c b) x).rows ≡ 0 → Next (events_at (pin v c b)) x (pinned_on v c b x)
unfolding story pinned_on case_at demands_of
pin_next v c b x f e =
    let five = shown (pin v c b) x e 5 in
    let vn = ltb-true v x.count (five 0) in
    let c4 = ltb-true c 4 (five 1) in
    record {
      fine = record { rest = f.rest; drape = f.drape; pins = length-set x.pins (4 * v + c) b ∙ f.pins; taken = f.taken; finite = record { settings = f.finite.settings; rest = f.finite.rest; drape = f.finite.drape } };
      tracks = pin_tracks v c b x f vn c4;
    }

-- ---- a step
pub asked_then : (p : Pick) (d : Time) (x : Strand) → first (case_at (step p d) x).rows ≡ 0 → first (update_of x p d).rows ≡ 0
unfolding case_at every
asked_then p d x e = second_none (asked_rows x p d) (update_of x p d).rows refl e

step_leaves : (p : Pick) (d : Time) (x : Strand) → Fine x → first (case_at (step p d) x).rows ≡ 0 → StepLeaves x (update_of x p d)
step_leaves p d x f e = step_accepts x p d (record { count = count_small x f; drape = f.drape }) (asked_then p d x e)

step_next : (p : Pick) (d : Time) (x : Strand) → Fine x → StepLeaves x (update_of x p d) → Next (events_at (step p d)) x (with_drape x (update_of x p d).drape)
unfolding story
step_next p d x f a = record {
  fine = record {
    rest = f.rest;
    drape = a.long ∙ f.drape;
    pins = f.pins;
    taken = f.taken;
    finite = record { settings = f.finite.settings; rest = f.finite.rest; drape = a.all_finite f.finite.drape };
  };
  tracks = step_tracks x (update_of x p d) a;
}

-- ---- an answer tells the number
pub refusal_tells : (a : Request) (k : ℕ) → 1 ≤ k → k ≤ last_number → Tells (refusal_at a k) k
unfolding step_numbers
refusal_tells (load g) k l m = refl
refusal_tells unload k l m = refl
refusal_tells (pin v c b) k l m = refl
refusal_tells (look j) k l m = tt
refusal_tells (companion j) k l m = refl
refusal_tells (step p d) k l m = number_of_reason k l m

pub answer_tells : (a : Request) (t : Strand) → Tells (case_at a t).answer 0
unfolding case_at step_numbers
answer_tells (load g) t = refl
answer_tells unload t = refl
answer_tells (pin v c b) t = refl
answer_tells (look k) t = tt
answer_tells (companion k) t = refl
answer_tells (step p d) t = refl

pub refusal_finite : (a : Request) (k : ℕ) → finite_answer (refusal_at a k) ≡ true
unfolding finite_answer step_numbers every
refusal_finite (load g) k = refl
refusal_finite unload k = refl
refusal_finite (pin v c b) k = refl
refusal_finite (look j) k = refl
refusal_finite (companion j) k = refl
refusal_finite (step p d) k = rw finite_zero

-- what is looked at is a part of a finite list
shown_finite : (kind : ℕ) (x : Strand) → Fine x → every is_finite (shown_of kind x) ≡ true
unfolding shown_of
shown_finite kind x f =
    by_test (ltb kind 2)
    (λ e. rw e (every_part is_finite (vector_part * kind) (3 * x.count) x.rest f.finite.rest))
    (λ e. rw e (every_part is_finite (vector_part * (kind - 2)) (3 * x.count) x.drape f.finite.drape))

-- ---- every request, at its seat

-- it answers finite numbers, leaves fine strands, of seat s alone, and what it tells is so
pub record Lawful (s : ℕ) (a : Request) (x : Strand) : Type 0 where
  pub answer : finite_answer (case_at a x).answer ≡ true
  pub sit : Sit (on_seat s (case_at a x).leaves)
  pub alone : (t : ℕ) (y : Strand) → t ≢ s → left_at t (on_seat s (case_at a x).leaves) y ≡ y
  pub tracks : (i j : ℕ) (t : Story) → Tracks i j t x → Tracks i j (story i j t (events_at a)) (left_at s (on_seat s (case_at a x).leaves) x)

module _ (s : ℕ) (h : s < seats) where
  leaves_one : (a : Request) (x y : Strand) → finite_answer (case_at a x).answer ≡ true → (case_at a x).leaves ≡ y ∷ [] → Next (events_at a) x y → Lawful s a x
  unfolding left_at
  leaves_one a x y w e n = record {
    answer = w;
    sit = rw e (one h n.fine none);
    alone = λ t z d. rw (e, ne_eqb t s d);
    tracks = λ i j t q. rw (e, eq-eqb s s refl) (n.tracks i j t q);
  }

  leaves_none : (a : Request) (x : Strand) → finite_answer (case_at a x).answer ≡ true → (case_at a x).leaves ≡ [] → events_at a ≡ [] → Lawful s a x
  unfolding left_at story
  leaves_none a x w e n = record { answer = w; sit = rw e none; alone = λ t z d. rw e; tracks = λ i j t q. rw (e, n) q }

  pub lawful : (a : Request) (x : Strand) → Fine x → first (case_at a x).rows ≡ 0 → Lawful s a x
  unfolding case_at finite_answer step_numbers
  lawful (load g) x f e = leaves_one (load g) x _ refl refl (load_next g x (given g x e))
  lawful unload x f e = leaves_one unload x _ refl refl (unload_next x)
  lawful (pin v c b) x f e = leaves_one (pin v c b) x _ refl refl (pin_next v c b x f e)
  lawful (look k) x f e = leaves_none (look k) x (shown_finite k x f) refl refl
  lawful (companion k) x f e = leaves_none (companion k) x refl refl refl
  lawful (step p d) x f e = let a = step_leaves p d x f e in leaves_one (step p d) x _ (rw (a.energy_finite, a.ratio_finite)) refl (step_next p d x f a)
