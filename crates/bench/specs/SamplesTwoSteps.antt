-- Samples of two steps on end, of each kind: the strand of SamplesStep with no pins, then with others. Only the second step has a pick.
-- The bits come from the unchanged Rust (tests/oracle, program `rows`), as in SamplesStep.
use Rattle.std.specs.Prelude.{Bool, ◌&&◌, List, [], ◌∷◌, ◌++◌, map, ℕ, ◌+◌, T, replicate, Float}
use Rattle.elements.specs.Written.{number, v3}
use Rattle.matrix.specs.Parts.{table}
use Rattle.bench.specs.declared.answers.Pick.TheVariants.{Nothing, At}
use Rattle.bench.specs.Strand.{Strand, strand, with_drape}
use Rattle.bench.specs.Step.{still, over, Update, update_of}
use Rattle.bench.specs.SamplesStep.{drape_bits, sample_settings, velocities_before, copy_before, step_rest, drape_before, leaves}

-- The strand of SamplesStep with this ratio, this drape, and these pins of its vertices; every byte past the last vertex is a pin.
unfoldable pub strand_with : ℕ → List ℕ → List ℕ → Strand
strand_with ratio pins drape = strand 3 (sample_settings ratio) (map number step_rest) (map number drape) (pins ++ table 116 (λ k. k + 1))

-- ---- two static steps of a free strand

unfoldable pub free_strand : List ℕ → Strand
free_strand = strand_with 0x3F94_7AE1_47AE_147B (replicate 12 0)

-- The second step, of the strand that the first leaves.
unfoldable pub free_second : Update → Update
free_second u = update_of (with_drape (free_strand drape_before) u.drape) (At 2 (v3 0x3FF4_F5C2_8F5C_28F6 0x3FF6_147A_E147_AE14 0x3FDE_147A_E147_AE14)) still

unfoldable pub free_between : List ℕ
free_between =
    drape_bits
    (0x3FC4_D123_60E8_6E3D ∷ 0xBFD2_25FF_5473_9405 ∷ 0x3FDB_FC3B_9E4F_150E ∷ 0x3FF0_61AC_7906_8BA1 ∷ 0x3FD0_67B1_9EDF_B13D ∷ 0x3FE9_930E_E2BE_E227 ∷ 0x3FF6_EFB4_3994_B883 ∷ 0x3FF5_136A_77A2_6956 ∷ 0x3FDB_1B17_400A_30E3 ∷ [])
    (0x3FD0_525C_5AE2_E524 ∷ 0xBFE9_1FE0_5143_7351 ∷ 0x3FE2_0F53_D870_4554 ∷ 0xBFE4_6058_BE4F_8D18 ∷ 0x3FDD_B194_050B_718D ∷ 0x3FE3_B50E_6E64_2FFA ∷ 0x3FE3_3333_3333_3333 ∷ 0x3FB9_9999_9999_999A ∷ 0xBFE9_9999_9999_999A ∷ [])
    velocities_before
    copy_before

unfoldable pub free_after : List ℕ
free_after =
    drape_bits
    (0x3FC6_22E5_5125_670E ∷ 0xBFD3_8BD0_AC93_68D2 ∷ 0x3FDC_2D2D_0D16_F658 ∷ 0x3FEF_B0A6_1D63_8996 ∷ 0x3FD2_977F_3422_9864 ∷ 0x3FE9_771C_7793_F9CD ∷ 0x3FF4_F651_105D_248C ∷ 0x3FF6_150C_AC87_CDAE ∷ 0x3FDE_1478_7D6B_4070 ∷ [])
    (0x3FD3_A1BD_B21A_6FF1 ∷ 0xBFE8_5DD0_EFFA_29F1 ∷ 0x3FE2_4608_8526_F933 ∷ 0xBFE5_29F9_19C7_67D7 ∷ 0x3FD8_B9D1_57C3_523C ∷ 0x3FE4_92AA_D084_3C92 ∷ 0x3FE3_3333_3333_3333 ∷ 0x3FB9_9999_9999_999A ∷ 0xBFE9_9999_9999_999A ∷ [])
    velocities_before
    copy_before

-- Whether a first step leaves these, and then the second, of the strand that the first leaves.
unfoldable pub free_agrees : Update → Bool
free_agrees first = leaves first 0x3FB3_EA2D_4272_13B1 0x3F8B_6D11_858D_F8AF 3 free_between && leaves (free_second first) 0x3F6C_1BB9_CCA1_0D17 0x3F62_5730_0417_6E9C 4 free_after

-- ---- two dynamic steps, with dt = 0.29: vertex 0 is pinned in its twist, vertex 1 in x and vertex 2 in z

unfoldable pub held_strand : List ℕ → Strand
held_strand = strand_with 0x3FA9_9999_9999_999A (0 ∷ 0 ∷ 0 ∷ 3 ∷ 128 ∷ 0 ∷ 0 ∷ 0 ∷ 0 ∷ 0 ∷ 1 ∷ 0 ∷ [])

unfoldable pub held_time : Float
held_time = number 0x3FD2_8F5C_28F5_C28F

unfoldable pub held_second : Update → Update
held_second u = update_of (with_drape (held_strand drape_before) u.drape) (At 0 (v3 0x3FCD_70A3_D70A_3D71 0xBFD7_0A3D_70A3_D70A 0x3FDF_5C28_F5C2_8F5C)) (over held_time)

unfoldable pub held_between : List ℕ
held_between =
    drape_bits
    (0x3FCA_999A_DF77_4527 ∷ 0xBFD9_65D3_79D1_4485 ∷ 0x3FDD_C294_CCEA_74DD ∷ 0x3FF1_47AE_147A_E148 ∷ 0x3FD5_613A_851D_3F02 ∷ 0x3FEA_9D78_CFB2_313A ∷ 0x3FF8_81EC_DD54_5F78 ∷ 0x3FF4_87E8_63AD_9EAB ∷ 0x3FE0_F5C2_8F5C_28F6 ∷ [])
    (0x3FD1_3C58_1BB2_AD43 ∷ 0xBFE3_DE2A_8E01_0483 ∷ 0x3FE7_8EF7_F3C6_4D5B ∷ 0xBFE8_A0C4_DD07_37CC ∷ 0x3FE0_C297_0DF6_AC96 ∷ 0x3FD7_5F2C_3539_0559 ∷ 0x3FE3_3333_3333_3333 ∷ 0x3FB9_9999_9999_999A ∷ 0xBFE9_9999_9999_999A ∷ [])
    (0x3FC9_846E_5205_3515 ∷ 0xBFD3_2A28_ACE3_448D ∷ 0x3FC3_DCD6_1274_4072 ∷ 0xBFDB_851E_B851_EB85 ∷ 0x3FCC_4644_2345_4899 ∷ 0x3FDA_DCE8_E7D5_BD6F ∷ 0x3FDF_46B1_713C_50F9 ∷ 0xBFC4_AA44_B503_DE29 ∷ 0xBFD1_47AE_147A_E148 ∷ [])
    (0x3FCA_999A_DF77_4527 ∷ 0xBFD9_65D3_79D1_4485 ∷ 0x3FDD_C294_CCEA_74DD ∷ 0x3FF0_28F5_C28F_5C29 ∷ 0x3FD5_613A_851D_3F02 ∷ 0x3FEA_9D78_CFB2_313A ∷ 0x3FF8_81EC_DD54_5F78 ∷ 0x3FF4_87E8_63AD_9EAB ∷ 0x3FE2_3D70_A3D7_0A3D ∷ [])

unfoldable pub held_after : List ℕ
held_after =
    drape_bits
    (0x3FCE_F5BF_7104_DCA9 ∷ 0xBFD9_FA65_C84F_919F ∷ 0x3FDF_E60C_39B1_38BE ∷ 0x3FF1_47AE_147A_E148 ∷ 0x3FD7_9423_3743_5DCD ∷ 0x3FEE_A52E_4C18_7532 ∷ 0x3FFA_71B3_EF6B_CA4B ∷ 0x3FF4_0733_7A87_7321 ∷ 0x3FE0_F5C2_8F5C_28F6 ∷ [])
    (0x3FD1_E0FC_71C5_8E70 ∷ 0xBFE3_7DB6_32DC_874B ∷ 0x3FE7_C0A9_43FA_444B ∷ 0xBFE4_BE09_AA04_A743 ∷ 0x3FE4_B86D_1ED4_8A17 ∷ 0x3FD9_A530_45E5_4C52 ∷ 0x3FE3_3333_3333_3333 ∷ 0x3FB9_9999_9999_999A ∷ 0xBFE9_9999_9999_999A ∷ [])
    (0x3FBE_1189_703A_6D29 ∷ 0xBFA0_0286_405E_6099 ∷ 0x3FBD_7F43_1A28_58D1 ∷ 0xBFDB_851E_B851_EB85 ∷ 0x3FBE_5442_FA54_6AF1 ∷ 0x3FDB_CB3B_E72B_35DB ∷ 0x3FDA_B64F_DF0E_080F ∷ 0xBFBB_BD0E_EFF3_5081 ∷ 0xBFD1_47AE_147A_E148 ∷ [])
    (0x3FCE_F5BF_7104_DCA9 ∷ 0xBFD9_FA65_C84F_919F ∷ 0x3FDF_E60C_39B1_38BE ∷ 0x3FF0_28F5_C28F_5C29 ∷ 0x3FD7_9423_3743_5DCD ∷ 0x3FEE_A52E_4C18_7532 ∷ 0x3FFA_71B3_EF6B_CA4B ∷ 0x3FF4_0733_7A87_7321 ∷ 0x3FE2_3D70_A3D7_0A3D ∷ [])

-- Whether a first step leaves these, and then the second, of the strand that the first leaves.
unfoldable pub held_agrees : Update → Bool
held_agrees first = leaves first 0x3FC1_A846_26C2_A64D 0x3F8E_874B_B2DD_7654 3 held_between && leaves (held_second first) 0x3FB9_FCC1_822C_E662 0x3F85_17D6_6A9A_7ECE 4 held_after

pub record TwoStepSamples : Type 0 where
  pub static : T (free_agrees (update_of (free_strand drape_before) Nothing still))
  pub dynamic : T (held_agrees (update_of (held_strand drape_before) Nothing (over held_time)))
