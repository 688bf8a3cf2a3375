-- What it means that a root is correctly rounded, said in whole numbers, and the theorems that `root_of` and `sqrt_of` are. proofs/ proves each of them.
-- Every finite value of a format f is a whole number of units, the unit being f's smallest positive value, 1 / L with L = 2 ^ low f.
-- The root of a / c, in units, is the real number whose square is a * L * L / c. So M halves of a unit are at least the root exactly where 4 * a * (L * L) ≤ M * M * c.
use Rattle.std.specs.Prelude.{◌≡◌, Bool, true, false, ℕ, suc, ◌+◌, ◌-◌, ◌*◌, ◌%◌, ◌^◌, ◌≤◌, ◌<◌, T, ℤ, Float}
use Rattle.std.specs.Float.{fin, Format, binary64}
use Rattle.std.specs.Float.Ieee.{prec, low, up, down, fits, to_bits, of_bits, le}
use Rattle.std.specs.Float.Ieee.Exact.{HasValue}
use Rattle.std.specs.Float.Ieee.Scale.{finite}
use Rattle.std.specs.Float.Ieee.Positive.{positive, num, den}
use Rattle.roots.specs.Sqrt.{root_of, sqrt_of}

-- y has the sign s (true: negative) and is Y units in size.
abbrev pub InUnits : Format → Float → Bool → ℕ → Type 0
InUnits f y s Y = HasValue y s Y (2 ^ low f)

-- Four times the square of that root, times c: what M * M * c is compared with.
abbrev pub four_squares : Format → ℕ → ℕ
four_squares f a = 4 * a * (2 ^ low f * 2 ^ low f)

-- A value of Y units with the sign s is no nearer to the root of a / c than R units are: the midpoint of the two is the root or lies on that value's side of it.
-- For a negative value the midpoint is half of R - Y, which is 0 where Y is the larger.
unfoldable pub NoNearer : Format → ℕ → ℕ → ℕ → Bool → ℕ → Type 0
NoNearer f a c R false Y = (R < Y → four_squares f a ≤ (R + Y) * (R + Y) * c) × (Y < R → (R + Y) * (R + Y) * c ≤ four_squares f a)
NoNearer f a c R true Y = (R - Y) * (R - Y) * c ≤ four_squares f a

-- R units and another value of Y units are equally near: the root of a / c is their midpoint. (No negative value ties: 0 is nearer.)
abbrev pub Tie : Format → ℕ → ℕ → ℕ → ℕ → Type 0
Tie f a c R Y = (R ≡ Y → ⊥) × ((R + Y) * (R + Y) * c ≡ four_squares f a)

-- r is the root of a / c rounded as IEEE 754-2019, clause 4.3.1, says under roundTiesToEven: a finite value of the format, none nearer, and in a tie the last digit is even.
pub record Rounded (f : Format) (a c : ℕ) (r : Float) : Type 0 where
  pub held : T (fits f r)
  pub count : ℕ
  pub counted : InUnits f r false count
  pub nearest : (y : Float) (s : Bool) (Y : ℕ) → T (fits f y) → InUnits f y s Y → NoNearer f a c count s Y
  pub even : (y : Float) (Y : ℕ) → T (fits f y) → InUnits f y false Y → Tie f a c count Y → to_bits f r % 2 ≡ 0

-- Every fraction whose root does not overflow is rounded so, in either format.
abbrev pub RootIsRounded : Type 0
RootIsRounded = (f : Format) (a c : ℕ) → 0 < c → T (finite (root_of f a c)) → Rounded f a c (root_of f a c)

-- squareRoot of every positive finite value of binary64 is its rounded root, and so finite.
abbrev pub SqrtIsRounded : Type 0
SqrtIsRounded = (x : Float) → T (fits binary64 x) → T (positive x) → Rounded binary64 (num x) (den x) (sqrt_of x)

-- Among the roots of values of binary64 no tie occurs.
abbrev pub SqrtNeverTies : Type 0
SqrtNeverTies = (x y : Float) (R Y : ℕ) → T (fits binary64 x) → T (positive x) → T (fits binary64 y) → InUnits binary64 (sqrt_of x) false R → InUnits binary64 y false Y
    → Tie binary64 (num x) (den x) R Y → ⊥

-- The rounded root is monotone: from x ≤ y, with x not below 0, follows root x ≤ root y. Infinities and both zeros are included.
abbrev pub SqrtIsMonotone : Type 0
SqrtIsMonotone = (x y : Float) → T (le (of_bits binary64 0) x) → T (le x y) → T (le (sqrt_of x) (sqrt_of y))

-- The root of every value of binary64, of those too that are not positive, is a value of binary64.
abbrev pub SqrtFits : Type 0
SqrtFits = (x : Float) → T (fits binary64 x) → T (fits binary64 (sqrt_of x))

-- A finite value other than 0, in units, is its significand, of no more digits than the format has, times a power of two.
abbrev pub WrittenInUnits : Type 0
WrittenInUnits = (f : Format) (s : Bool) (m : ℕ) (e : ℤ) → T (fits f (fin s (suc m) e)) → (suc m < 2 ^ prec f) × ((j : ℕ) × (suc m * up e * 2 ^ low f ≡ suc m * 2 ^ j * down e))
