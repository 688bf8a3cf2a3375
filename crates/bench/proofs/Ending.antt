-- How a step ends: which of its last three rows is the first that fails, by the tests that the code makes in their order.
use mathlib.Core.Path.{◌≡◌}
use mathlib.Core.Bool.{true, false}
use mathlib.Core.List.{List}
use Prim.Native.Nat.{ℕ}
use lib.Ieee.{Float}
use Rattle.matrix.specs.System.{every}
use Rattle.matrix.specs.HairSystem.{Shape}
use Rattle.matrix.specs.ConjugateGradient.{Outcome}
use Rattle.bench.specs.Rows.{first}
use Rattle.bench.specs.Update.{turns_fit}
use Rattle.bench.specs.Step.{outcome_is_finite, drape_is_finite, finish_rows}

module _ (n : ℕ) (pins : List ℕ) (staged : Shape) (o : Outcome) (d : List Float) where
  pub ends_nine : outcome_is_finite o ≡ false → 9 ≡ first (finish_rows n pins staged o d)
  unfolding finish_rows first every
  ends_nine h = rw h

  module _ (h : outcome_is_finite o ≡ true) where
    pub ends_ten : turns_fit n pins staged o.left.u ≡ false → 10 ≡ first (finish_rows n pins staged o d)
    unfolding finish_rows first every
    ends_ten g = rw (h, g)

    module _ (g : turns_fit n pins staged o.left.u ≡ true) where
      pub ends_eleven : drape_is_finite n d ≡ false → 11 ≡ first (finish_rows n pins staged o d)
      unfolding finish_rows first every
      ends_eleven f = rw (h, g, f)

      pub ends_well : drape_is_finite n d ≡ true → 0 ≡ first (finish_rows n pins staged o d)
      unfolding finish_rows first every
      ends_well f = rw (h, g, f)
