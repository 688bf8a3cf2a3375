-- The whole part of a square root, by binary digits, so that the checker can compute it.
use Rattle.std.specs.Prelude.{cond, ℕ, zero, suc, ◌+◌, ◌*◌, ◌/◌, leb}
use Rattle.std.specs.Float.Ieee.{size}

-- One digit more: from r, the whole part of the root of n / 4, that of the root of n.
abbrev pub extended : ℕ → ℕ → ℕ
extended n r = cond (leb ((2 * r + 1) * (2 * r + 1)) n) (2 * r + 1) (2 * r)

-- The k binary digits of the whole part of the root of an n below 4 ^ k.
unfoldable pub root_digits : ℕ → ℕ → ℕ
root_digits zero n = zero
root_digits (suc k) n = extended n (root_digits k (n / 4))

-- The largest r with r * r at most n. A root has half as many digits as its square, rounded up.
unfoldable pub whole_root : ℕ → ℕ
whole_root n = root_digits (suc (size n) / 2) n
