-- The series of sine and cosine, entry by entry, and the rule of their tables.
-- A loop from the last entry down has the series of the entries that it has passed.
use mathlib.Core.Path.{◌≡◌, refl}
use mathlib.Core.Bool.{false, true≢false}
use mathlib.Core.List.{List, [], ◌∷◌, ◌++◌, append_assoc}
use lib.ListN.{length}
use lib.Ieee.{Float, nan, inf, fin, of_bits, of_int, sub, mul, div, rem, lt}
use Rattle.std.specs.Float.{float_is_finite}
use Rattle.vectors.specs.Number.{◌⊖◌, ◌⊗◌, ◌⊘◌, plus_one}
use Rattle.vectors.specs.Angle.{reduced_of, series_of, sine_divisors, cosine_divisors, sine_of, cosine_of, sine_table, cosine_table}
use Rattle.vectors.specs.Finite.{is_finite}

-- no divisor yet
pub none : (z : Float) → plus_one ≡ series_of z []
unfolding series_of
none z = refl

-- one divisor more, before those that the series has
pub more : (z t d : Float) (l r s p : List Float) → l ≡ r ++ p → r ≡ s ++ (d ∷ []) → t ≡ series_of z p → (q : List Float) × (l ≡ s ++ q) × (plus_one ⊖ z ⊘ d ⊗ t ≡ series_of z q)
unfolding series_of
more z t d l r s p e f g = (d ∷ p, rw (e, f) (append_assoc s (d ∷ []) p), rw g refl)

-- all divisors
pub all : (z t : Float) (l r p : List Float) → length r ≡ 0 → l ≡ r ++ p → t ≡ series_of z p → t ≡ series_of z l
all z t l [] p h e g = rw e g
all z t l (d ∷ r) p h e g = absurd (cc)

-- The code's tables, as the checker sees them, follow their rule.
pub sine_rule : sine_table ≡ sine_divisors
unfolding of_bits of_int sine_divisors
sine_rule = refl

pub cosine_rule : cosine_table ≡ cosine_divisors
unfolding of_bits of_int cosine_divisors
cosine_rule = refl

-- ---- an angle that is not finite: its remainder is NaN, no test of it holds, and each operation passes it on
pub sine_not_finite : (x : Float) → is_finite x ≡ false → sine_of x ≡ nan
unfolding float_is_finite sine_of reduced_of rem lt of_bits mul
sine_not_finite nan h = refl
sine_not_finite (inf s) h = refl
sine_not_finite (fin s m e) h = absurd (true≢false h)

pub cosine_not_finite : (x : Float) → is_finite x ≡ false → cosine_of x ≡ nan
unfolding float_is_finite cosine_of reduced_of series_of cosine_divisors rem lt of_bits sub mul div
cosine_not_finite nan h = refl
cosine_not_finite (inf s) h = refl
cosine_not_finite (fin s m e) h = absurd (true≢false h)
