-- The sign of a number and the side of 0 on which it lies, and what rounded products and sums make of them.
use Rattle.std.specs.Prelude.{◌≡◌, Bool, false, ◌≢◌, ◌↔◌, ℕ, ℤ, Float}
use Rattle.std.specs.Float.{nan, inf, fin}
use Rattle.std.specs.Float.Ieee.{unlike, lt}
use Rattle.vectors.specs.Number.{◌⊕◌, ◌⊗◌, plus_zero, minus_zero}

-- Signs are those of lib.Ieee, where true is minus.
abbrev pub plus : Bool
plus = false

-- x has the sign s; zeros and infinities have one, too. NaN has none, and is taken for either.
pub data Sign (s : Bool) : Float → Type 0 where
  no_number : Sign s nan
  endless : Sign s (inf s)
  number : (m : ℕ) (e : ℤ) → Sign s (fin s m e)

-- x lies on the side s of 0: it has that sign, or is a zero, which lies on both sides whatever its sign.
pub data Side (s : Bool) : Float → Type 0 where
  signed : {x : Float} → Sign s x → Side s x
  nought : (t : Bool) (e : ℤ) → Side s (fin t 0 e)

-- What holds of all values: zeros of both signs, infinities, and NaN, with which the result is NaN.
pub record SignLaws : Type 0 where
  -- a product has minus where just one of its factors has it
  pub product_sign : (s t : Bool) (x y : Float) → Sign s x → Sign t y → Sign (unlike s t) (x ⊗ y)
  -- and lies on the minus side where just one of them does
  pub product_side : (s t : Bool) (x y : Float) → Side s x → Side t y → Side (unlike s t) (x ⊗ y)
  -- (k r) r lies on the side of k, whatever r is
  pub square_side : (s : Bool) (k r : Float) → Side s k → Side s (k ⊗ r ⊗ r)
  -- a sum of numbers with one sign has that sign
  pub sum_sign : (s : Bool) (x y : Float) → Sign s x → Sign s y → Sign s (x ⊕ y)
  -- plus stays where a number on its side is added, -0 too; minus does not: -0 and +0 make +0
  pub sum_plus : (x y : Float) → Sign plus x → Side plus y → Sign plus (x ⊕ y)
  -- a sum of numbers on the plus side lies there
  pub sum_side : (x y : Float) → Side plus x → Side plus y → Side plus (x ⊕ y)
  -- the plus side is what the comparison of IEEE 754 calls not below 0
  pub not_below : (x : Float) → (lt x plus_zero ≡ false) ↔ Side plus x
  -- and a number with the sign plus is not -0
  pub not_minus_zero : (x : Float) → Sign plus x → x ≢ minus_zero
