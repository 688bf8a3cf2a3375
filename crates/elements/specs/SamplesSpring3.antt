-- Samples of stretch; P5 of document 01 is the one by hand: ends 0 and (2, 0, 0), rest 1, stiffness 1.
-- The bits come from the unchanged Rust, compiled over document 01's stand-ins for what it imports (tests/oracle, program `rows`); the inputs are decimals of few digits, and frames made from such.
use Rattle.std.specs.Prelude.{Bool, ◌&&◌, [], ◌∷◌, T}
use Rattle.vectors.specs.Samples.{have_bits}
use Rattle.elements.specs.Spring3.{wdwddw_squared_length_difference}
use Rattle.elements.specs.Written.{number, v3, stretch_numbers}

unfoldable pub stretch1 : Bool
stretch1 =
    have_bits
    (stretch_numbers (wdwddw_squared_length_difference (number 0x3FE6_6666_6666_6666) (v3 0x3FEF_5C28_F5C2_8F5C 0x3FF2_E147_AE14_7AE1 0x3FF7_5C28_F5C2_8F5C) (v3 0x3FFB_AE14_7AE1_47AE 0x3FDA_E147_AE14_7AE1 0x3FFA_8F5C_28F5_C28F) (number 0x3FE7_0A3D_70A3_D70A)))
    (0x3FA8_0C25_5479_DEBD ∷ 0xBFC6_A92A_8291_A49E ∷ 0x3FC6_F683_D2D1_0663 ∷ 0xBFA8_2BE9_13CE_8D74 ∷ 0x3FC6_A92A_8291_A49E ∷ 0xBFC6_F683_D2D1_0663 ∷ 0x3FA8_2BE9_13CE_8D74 ∷ 0x3FDD_42AA_2B23_D314 ∷ 0xBFCC_AF0F_829B_B7C0 ∷ 0x3FAE_3189_96F4_C169 ∷ 0xBFCC_AF0F_829B_B7C0 ∷ 0x3FDD_A3ED_95CE_B65E ∷ 0xBFAE_9899_13D9_4C86 ∷ 0x3FAE_3189_96F4_C169 ∷ 0xBFAE_9899_13D9_4C86 ∷ 0x3FD0_1D18_649C_7431 ∷ [])

unfoldable pub stretch2 : Bool
stretch2 =
    have_bits
    (stretch_numbers (wdwddw_squared_length_difference (number 0x3FF4_CCCC_CCCC_CCCD) (v3 0xBFEA_3D70_A3D7_0A3D 0x3FED_70A3_D70A_3D71 0xBFFF_3333_3333_3333) (v3 0xBFE9_EB85_1EB8_51EC 0xBFDA_3D70_A3D7_0A3D 0xBFF0_F5C2_8F5C_28F6) (number 0x4001_EB85_1EB8_51EC)))
    (0x3FD1_0564_607E_76D6 ∷ 0x3F75_487F_15B2_E2C5 ∷ 0xBFE6_1D54_0C8B_DFE1 ∷ 0x3FDD_98D0_BA2C_C3AF ∷ 0xBF75_487F_15B2_E2C5 ∷ 0x3FE6_1D54_0C8B_DFE1 ∷ 0xBFDD_98D0_BA2C_C3AF ∷ 0xBFE0_A00E_495F_8601 ∷ 0xBF83_5A32_00B5_5267 ∷ 0x3F79_E66D_4450_FCB8 ∷ 0xBF83_5A32_00B5_5267 ∷ 0x3FE7_96CC_A085_0E5A ∷ 0xBFEA_E96D_88FC_26E5 ∷ 0x3F79_E66D_4450_FCB8 ∷ 0xBFEA_E96D_88FC_26E5 ∷ 0x3FA6_194B_08C8_E910 ∷ [])

unfoldable pub stretch3 : Bool
stretch3 =
    have_bits
    (stretch_numbers (wdwddw_squared_length_difference (number 0x3FEC_CCCC_CCCC_CCCD) (v3 0x3FF5_EB85_1EB8_51EC 0x3F94_7AE1_47AE_147B 0xBFD6_6666_6666_6666) (v3 0x3FD8_F5C2_8F5C_28F6 0x3FF1_47AE_147A_E148 0x3FEB_851E_B851_EB85) (number 0x3FFA_3D70_A3D7_0A3D)))
    (0x3F9B_5A72_EBDC_4B8E ∷ 0x3FBD_3484_7256_9A30 ∷ 0xBFBF_96D8_66C6_2963 ∷ 0xBFC2_079A_E88B_AAF1 ∷ 0xBFBD_3484_7256_9A30 ∷ 0x3FBF_96D8_66C6_2963 ∷ 0x3FC2_079A_E88B_AAF1 ∷ 0x3FD5_065A_8F60_FEFC ∷ 0xBFCD_5D84_8457_D3CB ∷ 0xBFD0_C2A8_9DA6_0D69 ∷ 0xBFCD_5D84_8457_D3CB ∷ 0x3FD7_54DF_0179_D5F4 ∷ 0x3FD2_20EA_A011_A603 ∷ 0xBFD0_C2A8_9DA6_0D69 ∷ 0x3FD2_20EA_A011_A603 ∷ 0x3FDC_24EC_C078_03A4 ∷ [])

-- P5: energy 0.5, gradients (-1, +0, +0) and (1, -0, -0), block diagonal 1, 0.5, 0.5, the rest +0
unfoldable pub p5 : Bool
p5 =
    have_bits
    (stretch_numbers (wdwddw_squared_length_difference (number 0x3FF0_0000_0000_0000) (v3 0x0000_0000_0000_0000 0x0000_0000_0000_0000 0x0000_0000_0000_0000) (v3 0x4000_0000_0000_0000 0x0000_0000_0000_0000 0x0000_0000_0000_0000) (number 0x3FF0_0000_0000_0000)))
    (0x3FE0_0000_0000_0000 ∷ 0xBFF0_0000_0000_0000 ∷ 0x0000_0000_0000_0000 ∷ 0x0000_0000_0000_0000 ∷ 0x3FF0_0000_0000_0000 ∷ 0x8000_0000_0000_0000 ∷ 0x8000_0000_0000_0000 ∷ 0x3FF0_0000_0000_0000 ∷ 0x0000_0000_0000_0000 ∷ 0x0000_0000_0000_0000 ∷ 0x0000_0000_0000_0000 ∷ 0x3FE0_0000_0000_0000 ∷ 0x0000_0000_0000_0000 ∷ 0x0000_0000_0000_0000 ∷ 0x0000_0000_0000_0000 ∷ 0x3FE0_0000_0000_0000 ∷ [])

-- Every sample of stretch holds.
abbrev pub StretchesHold : Type 0
StretchesHold = T (stretch1 && stretch2 && stretch3 && p5)
