-- Sine and cosine: document 01, "Update" (stand-ins).
use Rattle.std.specs.Prelude.{◌≡◌, cond, List, [], ◌∷◌, map, ℕ, ◌+◌, ◌-◌, ◌*◌, pos, Float}
use Rattle.std.specs.Float.{binary64}
use Rattle.std.specs.Float.Ieee.{of_bits, of_int, neg, rem, lt}
use Rattle.vectors.specs.Number.{◌⊕◌, ◌⊖◌, ◌⊗◌, ◌⊘◌, plus_one}

-- 6.283185307179586
abbrev pub two_pi : Float
two_pi = of_bits binary64 0x4019_21FB_5444_2D18

-- 3.141592653589793
abbrev pub pi_of : Float
pi_of = of_bits binary64 0x4009_21FB_5444_2D18

-- a = angle % 6.283185307179586, minus that constant if above 3.141592653589793, plus it if below the negative
unfoldable pub reduced_of : Float → Float
reduced_of angle =
    let a = rem binary64 angle two_pi in
    cond (lt pi_of a) (a ⊖ two_pi) (cond (lt a (neg pi_of)) (a ⊕ two_pi) a)

-- t = 1, then t = 1 - (z / d) t for each divisor from the last to the first
unfoldable pub series_of : Float → List Float → Float
series_of z [] = plus_one
series_of z (d ∷ ds) = plus_one ⊖ z ⊘ d ⊗ series_of z ds

-- d = 2k(2k+1), k from 13 down to 1
unfoldable pub sine_divisors : List Float
sine_divisors = map (λ (k : ℕ). of_int binary64 (pos (2 * k * (2 * k + 1)))) (1 ∷ 2 ∷ 3 ∷ 4 ∷ 5 ∷ 6 ∷ 7 ∷ 8 ∷ 9 ∷ 10 ∷ 11 ∷ 12 ∷ 13 ∷ [])

-- d = (2k-1)2k, k from 14 down to 1
unfoldable pub cosine_divisors : List Float
cosine_divisors = map (λ (k : ℕ). of_int binary64 (pos ((2 * k - 1) * (2 * k)))) (1 ∷ 2 ∷ 3 ∷ 4 ∷ 5 ∷ 6 ∷ 7 ∷ 8 ∷ 9 ∷ 10 ∷ 11 ∷ 12 ∷ 13 ∷ 14 ∷ [])

-- z = a a; for sine the result is a t
unfoldable pub sine_of : Float → Float
sine_of angle = let a = reduced_of angle in a ⊗ series_of (a ⊗ a) sine_divisors

-- for cosine it is t
unfoldable pub cosine_of : Float → Float
cosine_of angle = let a = reduced_of angle in series_of (a ⊗ a) cosine_divisors

-- The code's tables of these divisors, as the checker sees them.
abbrev pub sine_table : List Float
sine_table = map (of_bits binary64) (0x4018_0000_0000_0000 ∷ 0x4034_0000_0000_0000 ∷ 0x4045_0000_0000_0000 ∷ 0x4052_0000_0000_0000 ∷ 0x405b_8000_0000_0000 ∷ 0x4063_8000_0000_0000 ∷ 0x406a_4000_0000_0000 ∷ 0x4071_0000_0000_0000 ∷ 0x4075_6000_0000_0000 ∷ 0x407a_4000_0000_0000 ∷ 0x407f_a000_0000_0000 ∷ 0x4082_c000_0000_0000 ∷ 0x4085_f000_0000_0000 ∷ [])

abbrev pub cosine_table : List Float
cosine_table = map (of_bits binary64) (0x4000_0000_0000_0000 ∷ 0x4028_0000_0000_0000 ∷ 0x403e_0000_0000_0000 ∷ 0x404c_0000_0000_0000 ∷ 0x4056_8000_0000_0000 ∷ 0x4060_8000_0000_0000 ∷ 0x4066_c000_0000_0000 ∷ 0x406e_0000_0000_0000 ∷ 0x4073_2000_0000_0000 ∷ 0x4077_c000_0000_0000 ∷ 0x407c_e000_0000_0000 ∷ 0x4081_4000_0000_0000 ∷ 0x4084_5000_0000_0000 ∷ 0x4087_a000_0000_0000 ∷ [])

-- The table of sine follows the rule of its divisors.
abbrev pub SineRule : Type 0
SineRule = sine_table ≡ sine_divisors

-- So does the table of cosine.
abbrev pub CosineRule : Type 0
CosineRule = cosine_table ≡ cosine_divisors
