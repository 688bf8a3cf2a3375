-- How a step begins: which of its first two rows is the first that fails, by the tests that the code makes in their order.
use mathlib.Core.Path.{◌≡◌}
use mathlib.Core.Bool.{true, false}
use Prim.Native.Nat.{ℕ}
use Rattle.matrix.specs.System.{every, system_is_finite}
use Rattle.bench.specs.Given.{edges_fit}
use Rattle.bench.specs.Rows.{first}
use Rattle.bench.specs.Step.{Begun, begin_rows}

module _ (n : ℕ) (b : Begun) where
  pub begins_seven : edges_fit n b.staged.positions ≡ false → 7 ≡ first (begin_rows n b)
  unfolding begin_rows first every
  begins_seven h = rw h

  module _ (h : edges_fit n b.staged.positions ≡ true) where
    pub begins_eight : system_is_finite b.energy b.system ≡ false → 8 ≡ first (begin_rows n b)
    unfolding begin_rows first every
    begins_eight g = rw (h, g)

    pub begins_well : system_is_finite b.energy b.system ≡ true → 0 ≡ first (begin_rows n b)
    unfolding begin_rows first every
    begins_well g = rw (h, g)
