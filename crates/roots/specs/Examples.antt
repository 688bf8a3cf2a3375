-- Document 01's checked examples of the root, P1 to P4: a row each, for one table.
use Rattle.std.specs.Prelude.{Bool, ◌&&◌, ℕ, T, eqb}
use Rattle.std.specs.Float.{binary64}
use Rattle.std.specs.Float.Ieee.{of_bits, to_bits}
use Rattle.roots.specs.Sqrt.{sqrt_of}

-- The root of the number with the bits x has the bits r. The two zeros have bits of their own, so this sees a zero's sign.
unfoldable pub root_row : ℕ → ℕ → Bool
root_row x r = eqb (to_bits binary64 (sqrt_of (of_bits binary64 x))) r

-- The root of 4 is 2.
unfoldable pub p1 : Bool
p1 = root_row 0x4010_0000_0000_0000 0x4000_0000_0000_0000

-- The root of 2 has the bits 3FF6A09E667F3BCD.
unfoldable pub p2 : Bool
p2 = root_row 0x4000_0000_0000_0000 0x3FF6_A09E_667F_3BCD

-- The root of 2 ^ -1074, the smallest number, is 2 ^ -537.
unfoldable pub p3 : Bool
p3 = root_row 0x0000_0000_0000_0001 0x1E60_0000_0000_0000

-- The root of -0 is -0.
unfoldable pub p4 : Bool
p4 = root_row 0x8000_0000_0000_0000 0x8000_0000_0000_0000

-- All four hold.
abbrev pub ExamplesHold : Type 0
ExamplesHold = T (p1 && p2 && p3 && p4)
