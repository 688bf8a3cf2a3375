-- What a lent work area holds does not matter: of it a call asks the length alone.
use mathlib.Core.Path.{◌≡◌, refl, ap₂, ◌∙◌}
use mathlib.Core.List.{List, [], ◌∷◌}
use Rattle.bench.specs.Strand.{Bench}
use Rattle.bench.specs.Asks.{Call, lent_of}
use Rattle.bench.specs.Calls.{done_of, after_of}
use Rattle.bench.specs.Runs.{run, answers, after, SameCalls, none, more, SameAsItself}
use Rattle.bench.specs.Isolation.{ContentsDoNotMatter}

pub contents_do_not_matter : ContentsDoNotMatter
unfolding done_of lent_of
contents_do_not_matter c d b e = rw (e.long, e.asks) (refl, refl)

pub same_as_itself : SameAsItself
same_as_itself [] = none
same_as_itself (c ∷ cs) = more (record { asks = refl; long = refl }) (same_as_itself cs)

pub same_answers : {cs ds : List Call} → SameCalls cs ds → (b : Bench) → answers cs b ≡ answers ds b
unfolding run
same_answers none b = refl
same_answers (more {c = c} {d = d} e r) b = let q = contents_do_not_matter c d b e in ap₂ ◌∷◌ q.0 (same_answers r (after_of c b) ∙ rw q.1)

pub same_after : {cs ds : List Call} → SameCalls cs ds → (b : Bench) → after cs b ≡ after ds b
unfolding run
same_after none b = refl
same_after (more {c = c} {d = d} e r) b = same_after r (after_of c b) ∙ rw (contents_do_not_matter c d b e).1
