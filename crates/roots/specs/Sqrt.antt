-- squareRoot of IEEE 754-2019 (clause 5.4.1) with roundTiesToEven: the exact root, rounded once.
-- `Float`, `Format` and `round` are the kit's: `round f s a c` is the value of the format f nearest to the fraction a / c, a tie going to the even one.
use Rattle.std.specs.Prelude.{true, false, cond, ℕ, zero, suc, ◌+◌, ◌*◌, ◌/◌, ◌^◌, eqb, Float}
use Rattle.std.specs.Float.{nan, inf, fin, Format, binary64}
use Rattle.std.specs.Float.Ieee.{low, up, down, round}
use Rattle.roots.specs.WholeRoot.{whole_root}

-- The root of the fraction a / c, for a c above 0, rounded to the format f.
-- Take half of the format's smallest value as the unit: then each value of the format, and each midpoint of two neighbours, is a whole number of units.
-- r is the whole part of the root in units. Rounding asks only how the root compares with whole numbers of units, so r serves where the root is exactly r, and r and a half where it lies above r.
unfoldable pub root_of : Format → ℕ → ℕ → Float
root_of f a c =
    let n = a * 4 ^ suc (low f) in
    let r = whole_root (n / c) in
    round f false (2 * r + cond (eqb (r * r * c) n) 0 1) (2 ^ suc (suc (low f)))

-- Document 01, "Roots": a zero keeps its sign, +infinity is its own root, negative numbers and NaN give NaN; a positive finite number gives its rounded root.
unfoldable pub sqrt_of : Float → Float
sqrt_of nan = nan
sqrt_of (inf true) = nan
sqrt_of (inf false) = inf false
sqrt_of (fin s zero e) = fin s zero e
sqrt_of (fin true (suc m) e) = nan
sqrt_of (fin false (suc m) e) = root_of binary64 (suc m * up e) (down e)
