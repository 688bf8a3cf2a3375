-- The four operations of binary64, each rounded to nearest, and the numbers that formulas and claims name.
use Rattle.std.specs.Prelude.{◌≡◌, refl, true, false, T, pos, Float}
use Rattle.std.specs.Float.{fin, binary64}
use Rattle.std.specs.Float.Ieee.{of_bits, fits, add, sub, mul, div}

infixl 60 ◌⊕◌
infixl 60 ◌⊖◌
infixl 70 ◌⊗◌
infixl 70 ◌⊘◌
abbrev pub ◌⊕◌ : Float → Float → Float
a ⊕ b = add binary64 a b

abbrev pub ◌⊖◌ : Float → Float → Float
a ⊖ b = sub binary64 a b

abbrev pub ◌⊗◌ : Float → Float → Float
a ⊗ b = mul binary64 a b

abbrev pub ◌⊘◌ : Float → Float → Float
a ⊘ b = div binary64 a b

abbrev pub plus_zero : Float
plus_zero = of_bits binary64 0

abbrev pub minus_zero : Float
minus_zero = of_bits binary64 0x8000_0000_0000_0000

abbrev pub plus_one : Float
plus_one = of_bits binary64 0x3ff0_0000_0000_0000

-- which numbers these bits are, computed
pub plus_zero_is : plus_zero ≡ fin false 0 (pos 0)
unfolding of_bits
plus_zero_is = refl

pub minus_zero_is : minus_zero ≡ fin true 0 (pos 0)
unfolding of_bits
minus_zero_is = refl

pub plus_one_is : plus_one ≡ fin false 1 (pos 0)
unfolding of_bits
plus_one_is = refl

-- 1 times a value of the format is that value: -0, an infinity and NaN too.
abbrev pub OneTimes : Type 0
OneTimes = (x : Float) → T (fits binary64 x) → plus_one ⊗ x ≡ x
