-- Further roots, by bits. The answers are those of the processor's own square root (IEEE 754 asks it to be correctly rounded), taken with Python's math.sqrt on x86-64.
use Rattle.std.specs.Prelude.{Bool, true, ◌&&◌, List, [], ◌∷◌, ℕ, T}
use Rattle.roots.specs.Examples.{root_row}

-- An argument and its root.
pub record Sample : Type 0 where
  pub argument : ℕ
  pub root : ℕ

abbrev pub sample : ℕ → ℕ → Sample
sample x r = record { argument = x; root = r }

-- Whether each sample's root is the defined one.
unfoldable pub all_hold : List Sample → Bool
all_hold [] = true
all_hold (s ∷ ss) = root_row s.argument s.root && all_hold ss

-- Zeros, infinities, NaN and negative numbers. 7FF8000000000000 is how `to_bits` writes NaN.
abbrev pub specials : List Sample
specials =
    sample 0x0000_0000_0000_0000 0x0000_0000_0000_0000 ∷
    sample 0x8000_0000_0000_0000 0x8000_0000_0000_0000 ∷
    sample 0x7FF0_0000_0000_0000 0x7FF0_0000_0000_0000 ∷
    sample 0xFFF0_0000_0000_0000 0x7FF8_0000_0000_0000 ∷
    sample 0x7FF8_0000_0000_0000 0x7FF8_0000_0000_0000 ∷
    sample 0xFFF0_0000_0000_0001 0x7FF8_0000_0000_0000 ∷
    sample 0xBFF0_0000_0000_0000 0x7FF8_0000_0000_0000 ∷
    sample 0x8000_0000_0000_0001 0x7FF8_0000_0000_0000 ∷
    sample 0xFFEF_FFFF_FFFF_FFFF 0x7FF8_0000_0000_0000 ∷
    []

-- Subnormal numbers.
abbrev pub subnormals : List Sample
subnormals =
    sample 0x0000_0000_0000_0001 0x1E60_0000_0000_0000 ∷
    sample 0x0000_0000_0000_0002 0x1E66_A09E_667F_3BCD ∷
    sample 0x0000_0000_0000_0003 0x1E6B_B67A_E858_4CAA ∷
    sample 0x0000_0000_0000_0004 0x1E70_0000_0000_0000 ∷
    sample 0x000F_FFFF_FFFF_FFFF 0x1FFF_FFFF_FFFF_FFFF ∷
    sample 0x0008_0000_0000_0000 0x1FF6_A09E_667F_3BCD ∷
    sample 0x0000_0000_0001_0000 0x1EE0_0000_0000_0000 ∷
    sample 0x0000_0000_0004_D03B 0x1EF1_8D33_B4B8_561F ∷
    sample 0x0000_0003_067C_E045 0x1F6B_D462_0853_C1E6 ∷
    sample 0x0006_2149_B3CD_5540 0x1FF3_CE9F_5ED4_3B69 ∷
    []

-- The smallest and the largest normal numbers and their neighbours.
abbrev pub extremes : List Sample
extremes =
    sample 0x0010_0000_0000_0000 0x2000_0000_0000_0000 ∷
    sample 0x0010_0000_0000_0001 0x2000_0000_0000_0000 ∷
    sample 0x001F_FFFF_FFFF_FFFF 0x2006_A09E_667F_3BCC ∷
    sample 0x0020_0000_0000_0000 0x2006_A09E_667F_3BCD ∷
    sample 0x7FEF_FFFF_FFFF_FFFF 0x5FEF_FFFF_FFFF_FFFF ∷
    sample 0x7FEF_FFFF_FFFF_FFFE 0x5FEF_FFFF_FFFF_FFFF ∷
    sample 0x7FE0_0000_0000_0000 0x5FE6_A09E_667F_3BCD ∷
    sample 0x7FDF_FFFF_FFFF_FFFF 0x5FE6_A09E_667F_3BCC ∷
    []

-- Exact squares, each between its two neighbours.
abbrev pub squares : List Sample
squares =
    sample 0x3FEF_FFFF_FFFF_FFFF 0x3FEF_FFFF_FFFF_FFFF ∷
    sample 0x3FF0_0000_0000_0000 0x3FF0_0000_0000_0000 ∷
    sample 0x3FF0_0000_0000_0001 0x3FF0_0000_0000_0000 ∷
    sample 0x4021_FFFF_FFFF_FFFF 0x4007_FFFF_FFFF_FFFF ∷
    sample 0x4022_0000_0000_0000 0x4008_0000_0000_0000 ∷
    sample 0x4022_0000_0000_0001 0x4008_0000_0000_0001 ∷
    sample 0x4038_FFFF_FFFF_FFFF 0x4014_0000_0000_0000 ∷
    sample 0x4039_0000_0000_0000 0x4014_0000_0000_0000 ∷
    sample 0x4039_0000_0000_0001 0x4014_0000_0000_0000 ∷
    sample 0x4001_FFFF_FFFF_FFFF 0x3FF7_FFFF_FFFF_FFFF ∷
    sample 0x4002_0000_0000_0000 0x3FF8_0000_0000_0000 ∷
    sample 0x4002_0000_0000_0001 0x3FF8_0000_0000_0001 ∷
    sample 0x433F_FFFF_F8EF_F970 0x4196_A09E_6400_0000 ∷
    sample 0x433F_FFFF_F8EF_F971 0x4196_A09E_6400_0000 ∷
    sample 0x433F_FFFF_F8EF_F972 0x4196_A09E_6400_0000 ∷
    sample 0x432F_FFFF_F000_0001 0x418F_FFFF_F7FF_FFFF ∷
    sample 0x432F_FFFF_F000_0002 0x418F_FFFF_F800_0000 ∷
    sample 0x432F_FFFF_F000_0003 0x418F_FFFF_F800_0001 ∷
    sample 0x3FAF_FFFF_FFFF_FFFF 0x3FCF_FFFF_FFFF_FFFF ∷
    sample 0x3FB0_0000_0000_0000 0x3FD0_0000_0000_0000 ∷
    sample 0x3FB0_0000_0000_0001 0x3FD0_0000_0000_0000 ∷
    []

-- Any numbers.
abbrev pub generics : List Sample
generics =
    sample 0x2A4F_5441_B7D9_43F8 0x351F_A9AC_6ADE_B04C ∷
    sample 0x26B8_7BE1_D415_6625 0x3353_CAE0_94AD_126C ∷
    sample 0x1680_E99E_2956_522F 0x2B37_4385_5993_273E ∷
    sample 0x2CA2_9F53_2D68_A704 0x3648_6950_6361_AD44 ∷
    sample 0x31E1_E3BD_B389_80FF 0x38E7_ED21_B7A0_0574 ∷
    sample 0x1CF2_3F1C_CCC0_98FF 0x2E71_161D_4969_EE3C ∷
    sample 0x0C4F_9405_A0F7_F64B 0x261F_C9D4_F7C1_21F9 ∷
    sample 0x3CB7_6DA3_EB2E_362B 0x3E53_5C71_99F1_6288 ∷
    []

-- Every sample holds.
abbrev pub SamplesHold : Type 0
SamplesHold = T (all_hold specials && all_hold subnormals && all_hold extremes && all_hold squares && all_hold generics)
