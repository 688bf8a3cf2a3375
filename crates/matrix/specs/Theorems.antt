-- What is proved of a strand's system and its solve beyond the contracts: each theorem that the documents claim. proofs/Theorems.antt has a proof of every one.
use Rattle.std.specs.Prelude.{List, ℕ, Float}
use Rattle.vectors.specs.declared.vec4.Vec4.{Vec4}
use Rattle.vectors.specs.declared.mat4.Mat4.{Mat4}
use Rattle.matrix.specs.Parts.{StoredInside, OldOutside}
use Rattle.matrix.specs.Layout.{RowStartPlaced, AllBlocks, OnePair}
use Rattle.matrix.specs.Area.{Consecutive}
use Rattle.matrix.specs.HairSystem.{EnergyHasPlus}
use Rattle.matrix.specs.SparseSquare.{AddedFromFirst, BegunFromZero, EndsTheSame}
use Rattle.matrix.specs.RootBound.{ZeroBounds, AboveSquareBounds, InfinityBounds, InfinityInPlace}
use Rattle.matrix.specs.Iterations.{SmallStart, SolveIsFirstBelow, OneAnswer}
use Rattle.matrix.specs.SamplesSystem.{EnergyHolds, AssemblyHolds, LoadsHold, PinsHold}
use Rattle.matrix.specs.SamplesSolve.{ProductHolds, LimitedHolds, ConvergedHolds}

-- What holds of every solve.
abbrev pub OfEverySolve : (ℕ → List (List Mat4) → Float → ℕ → List Vec4 → Type 0) → Type 0
OfEverySolve Holds = (n : ℕ) (rows : List (List Mat4)) (tolerance : Float) (limit : ℕ) (r : List Vec4) → Holds n rows tolerance limit r

pub record Theorems : Type 0 where
  -- ---- the area
  -- inside what was put into an area stands what was put
  pub stored_inside : StoredInside Float
  -- outside of it stands what stood there
  pub old_outside : OldOutside Float
  -- the parts of the work area follow one another
  pub consecutive : Consecutive
  -- ---- the matrix
  -- where a row begins, in closed form
  pub row_start_placed : RowStartPlaced
  -- there are 5n - 6 blocks in all
  pub all_blocks : AllBlocks
  -- a place belongs to one pair of row and column
  pub one_pair : OnePair
  -- ---- the energy
  -- where no stiffness is below 0, it has the sign plus, or is NaN
  pub energy_has_plus : EnergyHasPlus
  -- ---- the product may leave out the +0 that its sums begin with, and alpha 1
  -- each block's product may be summed from its first term on, and added as it is
  pub added_from_first : AddedFromFirst
  -- since a row that begins from +0 has no -0
  pub begun_from_zero : BegunFromZero
  -- and it ends as the one that does not begin from +0
  pub ends_the_same : EndsTheSame
  -- ---- the solve
  -- a start whose square is below 2^-52 is answered at once
  pub small_start : OfEverySolve SmallStart
  -- every other is answered by the first iteration whose ratio is below the tolerance, or by the limit
  pub solve_is_first_below : OfEverySolve SolveIsFirstBelow
  -- that determines the answer
  pub one_answer : OfEverySolve OneAnswer
  -- ---- when the solve takes a root: no number from the bound on has one below the tolerance
  -- the bound is 0 for a tolerance that is not above 0
  pub zero_bounds : ZeroBounds
  -- a number above the rounded square for any other
  pub above_square_bounds : AboveSquareBounds
  -- or infinity
  pub infinity_bounds : InfinityBounds
  -- where the root is not taken, infinity serves in its place
  pub infinity_in_place : InfinityInPlace
  -- ---- the samples of a strand of three vertices
  -- its energy
  pub energy : EnergyHolds
  -- its system
  pub assembly : AssemblyHolds
  -- with a pick, and with inertia
  pub loads : LoadsHold
  -- with pins
  pub pins : PinsHold
  -- the product with a vector
  pub product : ProductHolds
  -- a solve that the limit ends
  pub limited : LimitedHolds
  -- a solve that the tolerance ends
  pub converged : ConvergedHolds
