-- What the accepted calls of a seat tell of one position component of its strand: the number that the load gave, and whether it was pinned at every step since.
use Rattle.std.specs.Prelude.{◌≡◌, Bool, true, false, not, cond, ◌&&◌, List, [], ◌∷◌, ◌++◌, ℕ, zero, suc, ◌+◌, ◌*◌, eqb, get_or, Float}
use Rattle.std.specs.Float.{nan}
use Rattle.bench.specs.Strand.{Bench}
use Rattle.bench.specs.Asks.{Request, load, unload, pin, look, companion, step, Asks, of, Call}
use Rattle.bench.specs.Calls.{number_of, after_of}

-- ---- events

-- What an accepted call did to a seat.
pub data Event : Type 0 where
  loaded : (positions : List Float) → Event
  pinned : (vertex component byte : ℕ) → Event
  stepped : Event
  unloaded : Event

abbrev pub events_at : Request → List Event
events_at (load g) = loaded g.positions ∷ []
events_at unload = unloaded ∷ []
events_at (pin v c x) = pinned v c x ∷ []
events_at (look k) = []
events_at (companion k) = []
events_at (step p d) = stepped ∷ []

-- What happens on seat s in a call on the bench b, if it is accepted.
abbrev pub events_if : ℕ → Asks → Bench → List Event
events_if s (of t a) b = cond (eqb s t) (events_at a) []

abbrev pub events_by : ℕ → List Event → List Event
events_by zero es = es
events_by (suc k) es = []

unfoldable pub events_of : ℕ → Call → Bench → List Event
events_of s c b = events_by (number_of c b) (events_if s c.asks b)

-- The events of seat s, in order.
unfoldable pub history : ℕ → List Call → Bench → List Event
history s [] b = []
history s (c ∷ cs) b = events_of s c b ++ history s cs (after_of c b)

-- ---- what they tell of the component j of vertex i

-- Component j of vertex i in a list of positions.
abbrev pub position : ℕ → ℕ → List Float → Float
position i j l = get_or l (3 * i + j) nan

pub data Story : Type 0 where
  -- no strand: no load, or none since the last unload
  empty : Story
  -- the number that the load gave; whether the last pin since gave a nonzero byte; whether it was so at every step since
  laid : (given : Float) (pinned_now pinned_always : Bool) → Story

unfoldable pub next : ℕ → ℕ → Story → Event → Story
next i j t (loaded xs) = laid (position i j xs) false true
next i j empty (pinned v c x) = empty
next i j (laid g last always) (pinned v c x) = laid g (cond (eqb v i && eqb c j) (not (eqb x 0)) last) always
next i j empty stepped = empty
next i j (laid g last always) stepped = laid g last (always && last)
next i j t unloaded = empty

unfoldable pub story : ℕ → ℕ → Story → List Event → Story
story i j t [] = t
story i j t (e ∷ es) = story i j (next i j t e) es

-- x is the number that the load gave, if the component was pinned at every step since; and there was a load.
abbrev pub StaysIfPinned : Story → Float → Type 0
StaysIfPinned empty x = ⊥
StaysIfPinned (laid g last true) x = x ≡ g
StaysIfPinned (laid g last false) x = Unit
