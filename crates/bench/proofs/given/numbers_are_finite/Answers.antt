-- The chain asks every number, as the test of all does.
use Rattle.std.proofs.Common.{◌≡◌, Bool, List, [], ◌∷◌, refl, ◌∙◌, rules, tests}
use Rattle.std.specs.List.{list_all}
use Rattle.std.proofs.lemmas.Iterator.{YieldsList-from_slice}
use Rattle.std.proofs.lemmas.Iterator.Search.{all_from_yields_List}
use Rattle.vectors.specs.Finite.{is_finite}
use Rattle.matrix.specs.System.{every}
use Rattle.bench.proofs.given.numbers_are_finite.Goals as goal

every_is_all : {A : Type 0} (t : A → Bool) (l : List A) → list_all t l ≡ every t l
unfolding every
every_is_all t [] = refl
every_is_all t (x ∷ l) = rw (every_is_all t l)

pub returns : goal.returns
returns c = all_from_yields_List is_finite _ _ _ c.all.ensures.ran (YieldsList-from_slice c.args.list.now cc) (λ x b q k. search (rules, tests)) ∙ every_is_all is_finite c.args.list.now
