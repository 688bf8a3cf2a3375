-- What the theorem on lists is proved from: laws of a call.
use mathlib.Core.Path.{◌≡◌, refl}
use mathlib.Core.Bool.{Bool, true, false}
use mathlib.Core.List.{List, []}
use mathlib.Core.Logic.{◌≢◌}
use Prim.Native.Nat.{ℕ, zero, suc, ◌<◌}
use lib.Dec.{eqb}
use Rattle.bench.specs.Areas.{seats}
use Rattle.bench.specs.Strand.{Strand, Bench, strand_of}
use Rattle.bench.specs.Rows.{any}
use Rattle.bench.specs.Answers.{finite_answer}
use Rattle.bench.specs.Asks.{Call, names, Lends, Lent}
use Rattle.bench.specs.Calls.{lent_long, answer_of, leaves_of}
use Rattle.bench.specs.PinStory.{Event, events_by, events_of, Story, story}
use Rattle.bench.proofs.SeatParts.{Long, Good, left_at, Sit}
use Rattle.bench.proofs.Tracking.{Tracks}

-- whether the call names seat t
abbrev pub on : ℕ → Call → Bool
on t c = any (eqb t) (names c.asks)

-- of every call: it answers finite numbers and leaves fine strands, and what it tells is so of them
pub record Sound (c : Call) : Type 0 where
  pub answer : (b : Bench) → Good b → finite_answer (answer_of c b) ≡ true
  pub sit : (b : Bench) → Good b → Sit (leaves_of c b)
  pub tracks : (i j : ℕ) (t : Story) (b : Bench) → Good b → (r : ℕ) → r < seats → Tracks i j t (strand_of r b) → Tracks i j (story i j t (events_of r c b)) (left_at r (leaves_of c b) (strand_of r b))

-- of a call that goes by the strands of the seats that it names, and leaves no other
pub record Local (c : Call) : Type 0 where
  pub alone : (b : Bench) → Good b → (t : ℕ) (y : Strand) → on t c ≡ false → left_at t (leaves_of c b) y ≡ y
  pub alike : (u v : Bench) → Good u → Good v → ((t : ℕ) → t < seats → on t c ≡ true → strand_of t u ≡ strand_of t v) → (answer_of c u ≡ answer_of c v) × (leaves_of c u ≡ leaves_of c v)

-- ---- a refused call tells nothing
pub events_refused : (n : ℕ) (es : List Event) → n ≢ 0 → events_by n es ≡ []
events_refused zero es h = absurd (h refl)
events_refused (suc n) es h = refl

-- ---- refusal 1 of a good bench asks only what the call gives
pub lent_alike : (e : Lends) (l : Lent) (u v : Bench) → Long u → Long v → lent_long e l u ≡ lent_long e l v
unfolding lent_long
lent_alike e l u v g h = rw (g.rest, g.drape, g.pins, h.rest, h.drape, h.pins)
