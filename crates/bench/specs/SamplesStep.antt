-- Samples of a whole step of each kind: a strand of three vertices with one position component and one twist pinned, and a pick.
-- The bits come from the unchanged Rust, compiled over document 01's stand-ins for what it imports (tests/oracle, program `rows`); what stands past the last vertex is made up, and a step neither reads nor changes it.
use Rattle.std.specs.Prelude.{Bool, ◌&&◌, List, [], ◌∷◌, ◌++◌, map, ℕ, ◌+◌, T, eqb}
use Rattle.vectors.specs.Samples.{have_bits}
use Rattle.elements.specs.Written.{number, v3}
use Rattle.matrix.specs.Parts.{table}
use Rattle.bench.specs.declared.answers.Pick.{Pick}
use Rattle.bench.specs.declared.answers.Pick.TheVariants.{At}
use Rattle.bench.specs.declared.seats.Settings.{Settings}
use Rattle.bench.specs.Strand.{Strand, strand, settings_by}
use Rattle.bench.specs.Rows.{first}
use Rattle.bench.specs.Step.{still, over, Update, update_of}

-- The bits of 32 vectors, given those of three: an infinity follows, then as many different numbers as are left, from `from` on.
unfoldable pub vectors : ℕ → List ℕ → List ℕ
vectors from given = given ++ (0x7FF0_0000_0000_0000 ∷ table 86 (λ k. from + k))

-- The bits of a whole rest part, and of a whole drape part.
unfoldable pub rest_bits : List ℕ → List ℕ → List ℕ
rest_bits xyz framex = vectors 0x3FF4_0000_0000_0000 xyz ++ vectors 0x3FF5_0000_0000_0000 framex

unfoldable pub drape_bits : List ℕ → List ℕ → List ℕ → List ℕ → List ℕ
drape_bits xyz framex velo copy = vectors 0x3FF0_0000_0000_0000 xyz ++ vectors 0x3FF1_0000_0000_0000 framex ++ vectors 0x3FF2_0000_0000_0000 velo ++ vectors 0x3FF3_0000_0000_0000 copy

-- A whole pin part: vertex 0 is pinned in y, vertex 1 in its twist, and every byte past the last vertex is a pin.
unfoldable pub step_pins : List ℕ
step_pins = (0 ∷ 7 ∷ 0 ∷ 0 ∷ 0 ∷ 0 ∷ 0 ∷ 255 ∷ 0 ∷ 0 ∷ 0 ∷ 0 ∷ []) ++ table 116 (λ k. k + 1)

-- With this ratio.
unfoldable pub sample_settings : ℕ → Settings
sample_settings ratio = settings_by (number 0x3FE6_6666_6666_6666) (number 0x3FF4_CCCC_CCCC_CCCD) (number 0x3FEC_CCCC_CCCC_CCCD) (number 0x3FF1_9999_9999_999A) (number ratio)

unfoldable pub step_settings : Settings
step_settings = sample_settings 0x3F9E_B851_EB85_1EB8

unfoldable pub velocities_before : List ℕ
velocities_before = 0x3FCA_E147_AE14_7AE1 ∷ 0xBFD5_C28F_5C28_F5C3 ∷ 0x3FC5_C28F_5C28_F5C3 ∷ 0xBFDB_851E_B851_EB85 ∷ 0x3FD2_8F5C_28F5_C28F ∷ 0x3FD8_51EB_851E_B852 ∷ 0x3FE0_A3D7_0A3D_70A4 ∷ 0xBFC8_51EB_851E_B852 ∷ 0xBFD1_47AE_147A_E148 ∷ []

unfoldable pub copy_before : List ℕ
copy_before = 0x3FB7_0A3D_70A3_D70A ∷ 0xBFD1_EB85_1EB8_51EC ∷ 0x3FDD_70A3_D70A_3D71 ∷ 0x3FF0_28F5_C28F_5C29 ∷ 0x3FD6_6666_6666_6666 ∷ 0x3FE5_1EB8_51EB_851F ∷ 0x3FF7_0A3D_70A3_D70A ∷ 0x3FF3_5C28_F5C2_8F5C ∷ 0x3FE2_3D70_A3D7_0A3D ∷ []

unfoldable pub step_rest : List ℕ
step_rest =
    rest_bits
    (0x3FBE_B851_EB85_1EB8 ∷ 0xBFD6_6666_6666_6666 ∷ 0x3FDE_B851_EB85_1EB8 ∷ 0x3FEF_0A3D_70A3_D70A ∷ 0x3FCA_E147_AE14_7AE1 ∷ 0x3FEA_8F5C_28F5_C28F ∷ 0x3FF7_5C28_F5C2_8F5C ∷ 0x3FF2_E147_AE14_7AE1 ∷ 0x3FD7_AE14_7AE1_47AE ∷ [])
    (0x3FC2_938A_19F6_E7F0 ∷ 0xBFE5_8C30_36AD_3C0F ∷ 0x3FE7_329C_098C_1172 ∷ 0xBFE5_5DE4_6B36_1BFE ∷ 0x3FE2_1FD8_4071_5CDD ∷ 0x3FDE_EACA_C733_2A9F ∷ 0x3FE0_0000_0000_0000 ∷ 0x3FC9_9999_9999_999A ∷ 0xBFEC_CCCC_CCCC_CCCD ∷ [])

unfoldable pub drape_before : List ℕ
drape_before =
    drape_bits
    (0x3FC3_3333_3333_3333 ∷ 0xBFD3_D70A_3D70_A3D7 ∷ 0x3FDA_E147_AE14_7AE1 ∷ 0x3FF1_47AE_147A_E148 ∷ 0x3FD1_47AE_147A_E148 ∷ 0x3FE6_B851_EB85_1EB8 ∷ 0x3FF6_3D70_A3D7_0A3D ∷ 0x3FF5_47AE_147A_E148 ∷ 0x3FE0_F5C2_8F5C_28F6 ∷ [])
    (0x3FCA_1B19_3294_85CD ∷ 0xBFE5_BDF0_BD16_74CE ∷ 0x3FE6_8DE1_2347_7E5A ∷ 0xBFE3_10BA_D7C8_8C73 ∷ 0x3FD3_3EB8_7A4A_747A ∷ 0x3FE7_D4C0_F473_9DFD ∷ 0x3FE3_3333_3333_3333 ∷ 0x3FB9_9999_9999_999A ∷ 0xBFE9_9999_9999_999A ∷ [])
    velocities_before
    copy_before

unfoldable pub step_strand : Strand
step_strand = strand 3 step_settings (map number step_rest) (map number drape_before) step_pins

unfoldable pub step_pick : Pick
step_pick = At 1 (v3 0x3FF1_70A3_D70A_3D71 0x3FD3_D70A_3D70_A3D7 0x3FE2_8F5C_28F5_C28F)

-- Whether a step is accepted with this energy, ratio and count, and leaves this drape.
unfoldable pub leaves : Update → ℕ → ℕ → ℕ → List ℕ → Bool
leaves u energy ratio count drape = eqb (first u.rows) 0 && eqb u.count count && have_bits (u.energy ∷ u.ratio ∷ u.drape) (energy ∷ ratio ∷ drape)

-- ---- a static step, after which velocities and working copy are as they were

unfoldable pub static_after : List ℕ
static_after =
    drape_bits
    (0x3FCD_41D0_CB7B_E4B0 ∷ 0xBFD3_D70A_3D70_A3D7 ∷ 0x3FD3_DC74_9710_5739 ∷ 0x3FF1_768D_0C8D_C74C ∷ 0x3FD3_C6FB_6FE9_4EC4 ∷ 0x3FE2_915A_6BA4_2D3E ∷ 0x3FF6_8E35_5C86_0753 ∷ 0x3FF6_8801_6D82_51FA ∷ 0x3FCA_F031_8A93_F542 ∷ [])
    (0x3FD9_C4CE_D491_ACD0 ∷ 0xBFE8_C633_D52A_1DFE ∷ 0x3FDF_4177_341A_AC6F ∷ 0xBFE3_10BA_D7C8_8C73 ∷ 0x3FD3_3EB8_7A4A_747A ∷ 0x3FE7_D4C0_F473_9DFD ∷ 0x3FE3_3333_3333_3333 ∷ 0x3FB9_9999_9999_999A ∷ 0xBFE9_9999_9999_999A ∷ [])
    velocities_before
    copy_before

-- ---- a dynamic step, with dt = 0.37

unfoldable pub dynamic_after : List ℕ
dynamic_after =
    drape_bits
    (0x3FCA_1424_97EA_8015 ∷ 0xBFD3_D70A_3D70_A3D7 ∷ 0x3FDE_12EF_27B0_8C56 ∷ 0x3FF0_C905_25F4_B7FD ∷ 0x3FD4_571D_F6ED_0DF6 ∷ 0x3FE5_95B3_B04A_452D ∷ 0x3FF9_1079_AC3D_2869 ∷ 0x3FF4_6348_D567_E60D ∷ 0x3FDA_5DB8_CAC7_3139 ∷ [])
    (0x3FD9_6913_C541_DDC2 ∷ 0xBFE7_D67D_3924_D6B6 ∷ 0x3FE1_27FA_B753_E04E ∷ 0xBFDA_A33C_53EE_FCF5 ∷ 0x3FE4_09C4_811C_687E ∷ 0x3FE5_18D1_DF7B_95DF ∷ 0x3FE3_3333_3333_3333 ∷ 0x3FB9_9999_9999_999A ∷ 0xBFE9_9999_9999_999A ∷ [])
    (0x3FC2_974E_24F6_5340 ∷ 0xBFD5_C28F_5C28_F5C3 ∷ 0x3FC1_43C0_9F2F_EFA9 ∷ 0xBFB5_652F_35CC_2A13 ∷ 0x3FC0_8ACB_7BEC_9E7C ∷ 0xBFB8_8BA2_686E_0C9B ∷ 0x3FDE_8899_00DA_5AF1 ∷ 0xBFC3_4A47_EBFB_45D9 ∷ 0xBFD4_6A7B_43BC_2106 ∷ [])
    (0x3FCA_1424_97EA_8015 ∷ 0xBFD1_EB85_1EB8_51EC ∷ 0x3FDE_12EF_27B0_8C56 ∷ 0x3FF0_C905_25F4_B7FD ∷ 0x3FD4_571D_F6ED_0DF6 ∷ 0x3FE5_95B3_B04A_452D ∷ 0x3FF9_1079_AC3D_2869 ∷ 0x3FF4_6348_D567_E60D ∷ 0x3FDA_5DB8_CAC7_3139 ∷ [])

pub record StepSamples : Type 0 where
  pub static : T (leaves (update_of step_strand step_pick still) 0x3FB3_EA2D_4272_13B1 0x3F85_EAEC_08AF_D690 5 static_after)
  pub dynamic : T (leaves (update_of step_strand step_pick (over (number 0x3FD7_AE14_7AE1_47AE))) 0x3FC1_78CE_242A_9F0A 0x3F75_E4B4_89AB_16FA 4 dynamic_after)
