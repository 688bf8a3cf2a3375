-- Lists of calls, for any set of seats, the party: the calls that are kept answer alike, and leave the party's strands alike, with the others between them and without.
-- By induction over the list; of a call it is known only that a kept one does the same to benches that agree on the party, and that another leaves the party's strands.
use mathlib.Core.Path.{◌≡◌, refl, sym, ap₂, ◌∙◌}
use mathlib.Core.Bool.{Bool, true, false, false≢true}
use mathlib.Core.List.{List, [], ◌∷◌}
use Prim.Native.Nat.{ℕ, ◌<◌}
use lib.Dec.{eqb}
use lib.Ieee.{Float}
use Rattle.bench.specs.Areas.{seats}
use Rattle.bench.specs.Strand.{Bench, strand_of}
use Rattle.bench.specs.Rows.{any}
use Rattle.bench.specs.Asks.{Asks, of, Call, names}
use Rattle.bench.specs.Calls.{answer_of, after_of}
use Rattle.bench.specs.Runs.{run, answers, after, always, kept_by, solo, answers_to}
use Rattle.matrix.proofs.Cases.{by_test}
use Rattle.bench.proofs.EveryNumber.{any_of}
use Rattle.bench.proofs.SeatParts.{Good}
use Rattle.bench.proofs.CallLaws.{on, Local}
use Rattle.bench.proofs.OneSeat.{local_of}
use Rattle.bench.proofs.EveryCall.{good_after, strand_after}

-- two good benches that agree on the party's seats
pub record Agree (party : ℕ → Bool) (u v : Bench) : Type 0 where
  pub left : Good u
  pub right : Good v
  pub strands : (t : ℕ) → t < seats → party t ≡ true → strand_of t u ≡ strand_of t v

pub record Respects (party : ℕ → Bool) (c : Call) : Type 0 where
  pub own : (u v : Bench) → kept_by party c ≡ true → Agree party u v → (answer_of c u ≡ answer_of c v) × Agree party (after_of c u) (after_of c v)
  pub other : (u v : Bench) → kept_by party c ≡ false → Agree party u v → Agree party (after_of c u) v

-- every call of the list does
pub data Respected (party : ℕ → Bool) : List Call → Type 0 where
  none : Respected party []
  more : {c : Call} {cs : List Call} → Respects party c → Respected party cs → Respected party (c ∷ cs)

module _ (party : ℕ → Bool) where
  abbrev Alike : List Call → Bench → Bench → Type 0
  Alike cs u v = (answers_to (kept_by party) cs u ≡ answers (solo (kept_by party) cs) v) × Agree party (after cs u) (after (solo (kept_by party) cs) v)

  kept_case : (c : Call) (cs : List Call) (u v : Bench) → Respects party c → Agree party u v → kept_by party c ≡ true → (Agree party (after_of c u) (after_of c v) → Alike cs (after_of c u) (after_of c v)) → Alike (c ∷ cs) u v
  unfolding answers_to run solo
  kept_case c cs u v r a e ih = let o = r.own u v e a in let k = ih o.1 in rw e (ap₂ ◌∷◌ o.0 k.0, k.1)

  other_case : (c : Call) (cs : List Call) (u v : Bench) → Respects party c → Agree party u v → kept_by party c ≡ false → (Agree party (after_of c u) v → Alike cs (after_of c u) v) → Alike (c ∷ cs) u v
  unfolding answers_to run solo
  other_case c cs u v r a e ih = rw e (ih (r.other u v e a))

  pub alike_lists : {cs : List Call} → Respected party cs → (u v : Bench) → Agree party u v → Alike cs u v
  unfolding answers_to run solo
  alike_lists none u v a = (refl, a)
  alike_lists (more {c = c} {cs = cs} r rs) u v a =
      by_test (kept_by party c) (λ e. kept_case c cs u v r a e (alike_lists rs (after_of c u) (after_of c v))) (λ e. other_case c cs u v r a e (alike_lists rs (after_of c u) v))

-- ---- a call respects a party that it names only members of, or none
abbrev pub Closed : (ℕ → Bool) → Asks → Type 0
Closed party a = any party (names a) ≡ true → (t : ℕ) → any (eqb t) (names a) ≡ true → party t ≡ true

module _ (party : ℕ → Bool) (c : Call) (l : Local c) (h : Closed party c.asks) where
  own_strand : (u v : Bench) → Agree party u v → any party (names c.asks) ≡ true → (t : ℕ) → t < seats → party t ≡ true → strand_of t (after_of c u) ≡ strand_of t (after_of c v)
  own_strand u v a k t m p =
      let q = l.alike u v a.left a.right (λ r n e. a.strands r n (h k r e)) in
      strand_after c u a.left t m ∙ rw (q.1, a.strands t m p) (sym (strand_after c v a.right t m))

  other_strand : (u : Bench) → Good u → any party (names c.asks) ≡ false → (t : ℕ) → t < seats → party t ≡ true → strand_of t (after_of c u) ≡ strand_of t u
  other_strand u g k t m p = strand_after c u g t m ∙ l.alone u g t (strand_of t u) (by_test (on t c) (λ e. absurd (false≢true (sym k ∙ any_of party t (names c.asks) p e))) (λ e. e))

  by_names : always c.asks ≡ false → Respects party c
  by_names z = record {
    own = λ u v k a.
        let j : any party (names c.asks) ≡ true = rw z at k in
        ((l.alike u v a.left a.right (λ r n e. a.strands r n (h j r e))).0, record { left = good_after c u a.left; right = good_after c v a.right; strands = own_strand u v a j });
    other = λ u v k a. let j : any party (names c.asks) ≡ false = rw z at k in record { left = good_after c u a.left; right = a.right; strands = λ t m p. other_strand u a.left j t m p ∙ a.strands t m p };
  }

respects_by : (party : ℕ → Bool) (a : Asks) (w : List Float) → Closed party a → Respects party (record { asks = a; work = w })
unfolding any
respects_by party (of s a) w h = by_names party _ (local_of s a w) h refl

pub respects : (party : ℕ → Bool) (c : Call) → Closed party c.asks → Respects party c
respects party c h = respects_by party c.asks c.work h
