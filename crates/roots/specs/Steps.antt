-- What the functions below `sqrt` promise one another. Nothing here is seen from outside the crate.
use Rattle.std.specs.Prelude.{◌≡◌, false, not, ℕ, ◌+◌, ◌*◌, ◌%◌, ◌^◌, ◌≤◌, ◌<◌, T, Float}
use Rattle.std.specs.Float.{binary64}
use Rattle.std.specs.Float.Ieee.{low, of_bits, nan_bits}
use Rattle.roots.specs.Sqrt.{sqrt_of}
use Rattle.roots.specs.Correct.{InUnits}

-- q is the whole number nearest to the root of n: 2 * q - 1 < 2 * √n < 2 * q + 1, squared. An odd square is never 4 * n, so there is no tie.
pub record NearestRoot (n q : ℕ) : Type 0 where
  pub above : 4 * (q * q) + 1 < 4 * n + 4 * q
  pub below : 4 * n < (2 * q + 1) * (2 * q + 1)

-- A root of which `left` binary digits are still to come, the lowest of them with the weight 1 and the highest with half of unit.
-- root is four times its value so far, R, and rem * unit is four times what R * R leaves of the radicand. The radicand's lower digits are part of rem.
pub record Partial (root rem unit left : ℕ) : Type 0 where
  pub weight : unit ≡ 2 ^ left
  pub begun : 0 < root
  pub fourfold : root % 4 ≡ 0
  pub small : root + 4 * unit ≤ 2 ^ 55
  pub close : rem < 2 * root + 4 * unit

-- 16 times the radicand n of such a root.
abbrev pub radicand : ℕ → ℕ → ℕ → ℕ
radicand root rem unit = root * root + 4 * (rem * unit)

-- r is the bit pattern, and not a NaN's, of the root of each positive number of v units with v * 2 ^ 1074 ≡ w: its root is √w units.
unfoldable pub RootBits : ℕ → ℕ → Type 0
RootBits w r = (x : Float) (v : ℕ) → InUnits binary64 x false v → 0 < v → v * 2 ^ low binary64 ≡ w → (of_bits binary64 r ≡ sqrt_of x) × T (not (nan_bits binary64 r))
