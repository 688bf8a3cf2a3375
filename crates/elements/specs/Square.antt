-- What the energies of stretch and of bend share.
use Rattle.std.specs.Prelude.{Float}
use Rattle.std.specs.Float.{binary64}
use Rattle.std.specs.Float.Ieee.{of_bits}
use Rattle.vectors.specs.Number.{◌⊗◌}

-- `half`, spring3.rs line 13 and rod3_darboux.rs line 424: one / (one + one)
abbrev pub half : Float
half = of_bits binary64 0x3fe0_0000_0000_0000

-- (k r) r, as `half * stiffness * c * c` and `stiff_bendtwist[0] * r[0] * r[0]` group it
unfoldable pub square : Float → Float → Float
square k r = k ⊗ r ⊗ r
