-- Samples of a product and of two solves, with the pinned system of SamplesSystem.
-- The bits come from the unchanged Rust, compiled over document 01's stand-ins for what it imports (tests/oracle, program `rows`).
use Rattle.std.specs.Prelude.{Bool, [], ◌∷◌, T}
use Rattle.vectors.specs.Number.{plus_zero, plus_one}
use Rattle.vectors.specs.Samples.{have_bits}
use Rattle.elements.specs.Written.{number}
use Rattle.matrix.specs.Rows.{flat4}
use Rattle.matrix.specs.SparseSquare.{mult_vec}
use Rattle.matrix.specs.ConjugateGradient.{conjugate_gradient}
use Rattle.matrix.specs.Written.{vector_of, blocks_of, has_outcome}
use Rattle.matrix.specs.SamplesSystem.{pinned_gradient, pinned_blocks}

-- a vector, and what stood where its product goes
unfoldable pub product_sample : Bool
product_sample =
    have_bits
    (flat4 (mult_vec 3 plus_zero plus_one (blocks_of pinned_blocks) (vector_of (0x3FD7_AE14_7AE1_47AE ∷ 0xBFF3_D70A_3D70_A3D7 ∷ 0x3FE2_8F5C_28F5_C28F ∷ 0x3FED_1EB8_51EB_851F ∷ 0xBFE5_1EB8_51EB_851F ∷ 0x3FEA_8F5C_28F5_C28F ∷ 0x3FF1_1EB8_51EB_851F ∷ 0xBFD2_8F5C_28F5_C28F ∷ 0x3FF2_147A_E147_AE14 ∷ 0x3FDC_28F5_C28F_5C29 ∷ 0xBFE7_0A3D_70A3_D70A ∷ 0x3FE1_EB85_1EB8_51EC ∷ [])) (vector_of (0xBFDE_B851_EB85_1EB8 ∷ 0x3FC5_C28F_5C28_F5C3 ∷ 0x3FEE_6666_6666_6666 ∷ 0xBFF4_F5C2_8F5C_28F6 ∷ 0x3FE3_D70A_3D70_A3D7 ∷ 0xBFE8_A3D7_0A3D_70A4 ∷ 0x3FD5_C28F_5C28_F5C3 ∷ 0x3FF3_0A3D_70A3_D70A ∷ 0xBFCD_70A3_D70A_3D71 ∷ 0x3FF6_B851_EB85_1EB8 ∷ 0xBFEB_851E_B851_EB85 ∷ 0x3FE6_147A_E147_AE14 ∷ []))))
    (0x4014_7CE6_9A6E_A5C2 ∷ 0xBFF3_D70A_3D70_A3D7 ∷ 0x401B_0E38_B42E_DF7B ∷ 0x3FF6_9464_E0E7_083A ∷ 0xC034_89E2_0A3C_F6A2 ∷ 0x4037_DFE9_B7C3_94D2 ∷ 0x3FF1_1EB8_51EB_851F ∷ 0xBFE2_8B2E_D51E_D664 ∷ 0x402C_6143_2001_BFEE ∷ 0x4012_1368_35C6_DB1A ∷ 0xC020_D601_1624_9303 ∷ 0x3FE1_EB85_1EB8_51EC ∷ [])

-- ended by the limit: tolerance 10 ^ -9, at most 3 iterations
unfoldable pub limited_solve : Bool
limited_solve =
    has_outcome
    (conjugate_gradient 3 (blocks_of pinned_blocks) (number 0x3E11_2E0B_E826_D695) 3 (vector_of pinned_gradient))
    3 0x3FCF_B77D_E7C2_0D96
    (0xBF7B_E7D2_B78C_97E8 ∷ 0x0000_0000_0000_0000 ∷ 0x3F73_A140_19F5_9C87 ∷ 0xBFCB_2B0E_11B3_B228 ∷ 0x3F6F_DA07_A891_6A98 ∷ 0xBF97_A0CA_6BA7_6A7F ∷ 0x0000_0000_0000_0000 ∷ 0x3FC3_8C1E_C33A_CC1B ∷ 0xBF70_7453_CA67_2822 ∷ 0xBF64_7668_DD97_1194 ∷ 0x3F84_0C5C_3D8B_91F0 ∷ 0x0000_0000_0000_0000 ∷ [])

-- ended by the tolerance: 0.7, at most 1000 iterations
unfoldable pub converged_solve : Bool
converged_solve =
    has_outcome
    (conjugate_gradient 3 (blocks_of pinned_blocks) (number 0x3FE6_6666_6666_6666) 1000 (vector_of pinned_gradient))
    2 0x3FE5_36EE_5DA8_DB4A
    (0x3F2F_EFF8_3096_2148 ∷ 0x0000_0000_0000_0000 ∷ 0xBF35_23D2_CAD3_C83E ∷ 0xBFC0_9ED1_0349_101C ∷ 0xBF72_965B_5FEB_823A ∷ 0xBF92_6E40_19AA_59FE ∷ 0x0000_0000_0000_0000 ∷ 0x3FB8_D8F9_6E64_96AD ∷ 0xBF7F_0E1D_0F99_E692 ∷ 0xBF6E_4294_5E1C_AE81 ∷ 0x3FAB_9C48_7AC3_5227 ∷ 0x0000_0000_0000_0000 ∷ [])

-- The sample of the product holds.
abbrev pub ProductHolds : Type 0
ProductHolds = T product_sample

-- The solve that the limit ends holds.
abbrev pub LimitedHolds : Type 0
LimitedHolds = T limited_solve

-- The solve that the tolerance ends holds.
abbrev pub ConvergedHolds : Type 0
ConvergedHolds = T converged_solve
