-- When what is told of a position component is so of a strand, and that it stays so over an accepted step: the step changes nothing but the drape, and there keeps what is pinned.
use mathlib.Core.Path.{◌≡◌, refl, ◌∙◌}
use mathlib.Core.Bool.{Bool, true, false, not}
use mathlib.Core.List.{List, [], ◌∷◌, ◌++◌}
use Prim.Native.Nat.{ℕ, ◌+◌, ◌*◌, ◌<◌}
use native.Mathlib.Omega.{arith}
use lib.Dec.{eqb}
use lib.ListN.{get_or}
use borrow.Author.Tests.{eqb-false, not-true}
use Rattle.matrix.proofs.Every.{and_left, and_right}
use Rattle.bench.specs.Strand.{Strand, with_drape}
use Rattle.bench.specs.Step.{Update}
use Rattle.bench.specs.PinStory.{Event, stepped, position, Story, empty, laid, next, story, StaysIfPinned}
use Rattle.bench.specs.Accepted.{StepLeaves}

-- whether the pin of a component is set
abbrev pub pinned_in : ℕ → ℕ → Strand → Bool
pinned_in i j x = not (eqb (get_or x.pins (4 * i + j) 0) 0)

-- what is told of the component j of vertex i is so of the strand x
abbrev pub Tracks : ℕ → ℕ → Story → Strand → Type 0
Tracks i j empty x = x.count ≡ 0
Tracks i j (laid g last always) x = i < x.count → j < 3 → (last ≡ pinned_in i j x) × (always ≡ true → position i j x.drape ≡ g)

pub step_tracks : (x : Strand) (u : Update) → StepLeaves x u → (i j : ℕ) (t : Story) → Tracks i j t x → Tracks i j (next i j t stepped) (with_drape x u.drape)
unfolding next
step_tracks x u a i j empty q = q
step_tracks x u a i j (laid g last always) q =
    λ m n. ((q m n).0, λ c. a.pinned i j m n (eqb-false _ 0 (not-true _ (rw (q m n).0 at (and_right always last c)))) ∙ (q m n).1 (and_left always last c))

-- ---- lists of events
pub story_append : (i j : ℕ) (t : Story) (es fs : List Event) → story i j t (es ++ fs) ≡ story i j (story i j t es) fs
unfolding story
story_append i j t [] fs = refl
story_append i j t (e ∷ es) fs = story_append i j (next i j t e) es fs

pub stays_by : (i j : ℕ) (t : Story) (x : Strand) → Tracks i j t x → i < x.count → j < 3 → StaysIfPinned t (position i j x.drape)
stays_by i j empty x q u v = omega arith
stays_by i j (laid g last true) x q u v = (q u v).1 refl
stays_by i j (laid g last false) x q u v = tt
