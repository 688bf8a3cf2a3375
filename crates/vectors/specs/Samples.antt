-- Sine, cosine, vectors, blocks and a rotation, by bits. tests/samples/vectors.py computes them apart from these definitions.
use Rattle.std.specs.Prelude.{Bool, true, false, ◌&&◌, List, [], ◌∷◌, ℕ, T, eqb, Float}
use Rattle.std.specs.Float.{binary64}
use Rattle.std.specs.Float.Ieee.{of_bits, to_bits}
use Rattle.vectors.specs.Number.{minus_zero}
use Rattle.vectors.specs.Vec3.{vec3, vec3_add, vec3_sub, vec3_scale, vec3_add_three, vec3_dot, vec3_norm, vec3_normalize, vec3_cross, vec3_orthogonalize}
use Rattle.vectors.specs.Mat3.{mat3, mat3_scaled_outer_product, mat3_projection, vec3_times_mat3}
use Rattle.vectors.specs.Vec4.{vec4, vec4_dot}
use Rattle.vectors.specs.Mat4.{mat4, mat4_times_vec4}
use Rattle.vectors.specs.Edge.{edge_length}
use Rattle.vectors.specs.Angle.{sine_of, cosine_of}
use Rattle.vectors.specs.Rotation.{rotated_of}
use Rattle.vectors.specs.declared.vec3.Vec3.{Vec3}
use Rattle.vectors.specs.declared.mat3.Mat3.{Mat3}
use Rattle.vectors.specs.declared.vec4.Vec4.{Vec4}

-- Whether each number has the bits beside it.
unfoldable pub have_bits : List Float → List ℕ → Bool
have_bits [] [] = true
have_bits [] (b ∷ bs) = false
have_bits (x ∷ xs) [] = false
have_bits (x ∷ xs) (b ∷ bs) = eqb (to_bits binary64 x) b && have_bits xs bs

abbrev pub vec3_numbers : Vec3 → List Float
vec3_numbers v = v.x ∷ v.y ∷ v.z ∷ []

abbrev pub vec4_numbers : Vec4 → List Float
vec4_numbers v = v.x ∷ v.y ∷ v.z ∷ v.w ∷ []

abbrev pub mat3_numbers : Mat3 → List Float
mat3_numbers m = m.r0.x ∷ m.r0.y ∷ m.r0.z ∷ m.r1.x ∷ m.r1.y ∷ m.r1.z ∷ m.r2.x ∷ m.r2.y ∷ m.r2.z ∷ []

-- ---- sine and cosine: 0, -0, 1, ±π/2, ±3.2, 10 ^ 6, 10 ^ 300, the infinities and NaN
unfoldable pub angle_row : ℕ → ℕ → ℕ → Bool
angle_row angle s c = have_bits (sine_of (of_bits binary64 angle) ∷ cosine_of (of_bits binary64 angle) ∷ []) (s ∷ c ∷ [])

unfoldable pub angles : Bool
angles =
    angle_row 0x0000_0000_0000_0000 0x0000_0000_0000_0000 0x3FF0_0000_0000_0000
    && angle_row 0x8000_0000_0000_0000 0x8000_0000_0000_0000 0x3FF0_0000_0000_0000
    && angle_row 0x3FF0_0000_0000_0000 0x3FEA_ED54_8F09_0CEE 0x3FE1_4A28_0FB5_068C
    && angle_row 0x3FF9_21FB_5444_2D18 0x3FEF_FFFF_FFFF_FFFF 0x0000_0000_0000_0000
    && angle_row 0xBFF9_21FB_5444_2D18 0xBFEF_FFFF_FFFF_FFFF 0x0000_0000_0000_0000
    && angle_row 0x4009_9999_9999_999A 0xBFAD_E337_39E8_2D5A 0xBFEF_F207_E2B9_CBB8
    && angle_row 0xC009_9999_9999_999A 0x3FAD_E337_39E8_2D5A 0xBFEF_F207_E2B9_CBB8
    && angle_row 0x412E_8480_0000_0000 0xBFD6_664B_255E_CECE 0x3FED_F9DF_9908_B335
    && angle_row 0x7E37_E43C_8800_759C 0xBFE5_2EC0_76F4_DF9B 0x3FE7_FC3F_18DD_E1DB
    && angle_row 0x7FF0_0000_0000_0000 0x7FF8_0000_0000_0000 0x7FF8_0000_0000_0000
    && angle_row 0xFFF0_0000_0000_0000 0x7FF8_0000_0000_0000 0x7FF8_0000_0000_0000
    && angle_row 0x7FF8_0000_0000_0000 0x7FF8_0000_0000_0000 0x7FF8_0000_0000_0000

-- ---- vectors of three: (0.7, -1.3, 2.9), (-0.4, 0.9, 1.7), (1.1, 0.3, -2.3), the factor 0.37
unfoldable pub va : Vec3
va = vec3 (of_bits binary64 0x3FE6_6666_6666_6666) (of_bits binary64 0xBFF4_CCCC_CCCC_CCCD) (of_bits binary64 0x4007_3333_3333_3333)

unfoldable pub vb : Vec3
vb = vec3 (of_bits binary64 0xBFD9_9999_9999_999A) (of_bits binary64 0x3FEC_CCCC_CCCC_CCCD) (of_bits binary64 0x3FFB_3333_3333_3333)

unfoldable pub vc : Vec3
vc = vec3 (of_bits binary64 0x3FF1_9999_9999_999A) (of_bits binary64 0x3FD3_3333_3333_3333) (of_bits binary64 0xC002_6666_6666_6666)

unfoldable pub factor : Float
factor = of_bits binary64 0x3FD7_AE14_7AE1_47AE

unfoldable pub vectors : Bool
vectors =
    have_bits (vec3_numbers (vec3_add va vb)) (0x3FD3_3333_3333_3332 ∷ 0xBFD9_9999_9999_999A ∷ 0x4012_6666_6666_6666 ∷ [])
    && have_bits (vec3_numbers (vec3_sub va vb)) (0x3FF1_9999_9999_999A ∷ 0xC001_9999_9999_999A ∷ 0x3FF3_3333_3333_3333 ∷ [])
    && have_bits (vec3_numbers (vec3_scale va factor)) (0x3FD0_9374_BC6A_7EFA ∷ 0xBFDE_C8B4_3958_1062 ∷ 0x3FF1_2B02_0C49_BA5E ∷ [])
    && have_bits (vec3_numbers (vec3_add_three va vb vc)) (0x3FF6_6666_6666_6666 ∷ 0xBFB9_9999_9999_999C ∷ 0x4002_6666_6666_6666 ∷ [])
    && have_bits (vec3_dot va vb ∷ vec3_norm va ∷ []) (0x400B_D70A_3D70_A3D6 ∷ 0x400A_08A8_B31C_87E5 ∷ [])
    && have_bits (vec3_numbers (vec3_normalize va)) (0x3FCB_888D_AC43_E2A2 ∷ 0xBFD9_9115_D6D1_5273 ∷ 0x3FEC_8449_96FD_2ABB ∷ [])
    && have_bits (vec3_numbers (vec3_cross va vb)) (0xC013_47AE_147A_E148 ∷ 0xC002_CCCC_CCCC_CCCC ∷ 0x3FBC_28F5_C28F_5C28 ∷ [])
    && have_bits (vec3_numbers (vec3_orthogonalize va vb)) (0xBFE4_2931_2B5E_21F0 ∷ 0x3FF5_3C31_507F_A32C ∷ 0x3FE7_E7A2_0330_E11C ∷ [])
    && have_bits ((edge_length va vb).value ∷ []) (0x4005_E4F0_498D_717F ∷ [])
    && (edge_length va vb).acceptable

-- ---- blocks of three by three, a block of four by four by its columns, and the least turn from one unit vector to another
unfoldable pub blocks : Bool
blocks =
    have_bits (vec3_numbers (vec3_times_mat3 (vec3 (of_bits binary64 0x3FEC_CCCC_CCCC_CCCD) (of_bits binary64 0xBFE3_3333_3333_3333) (of_bits binary64 0x3FF4_CCCC_CCCC_CCCD)) (mat3 va vb vc))) (0x4002_6666_6666_6667 ∷ 0xBFF5_1EB8_51EB_8520 ∷ 0xBFF6_6666_6666_6666 ∷ [])
    && have_bits (mat3_numbers (mat3_scaled_outer_product factor va vb)) (0xBFBA_8587_93DD_97F7 ∷ 0x3FCD_D638_8659_4AF5 ∷ 0x3FDC_2DE0_0D1B_7176 ∷ 0x3FC8_A090_2DE0_0D1C ∷ 0xBFDB_B4A2_339C_0EBF ∷ 0xBFEA_2A99_30BE_0DED ∷ 0xBFDB_7803_46DC_5D64 ∷ 0x3FEE_E703_AFB7_E910 ∷ 0x3FFD_2F83_7B4A_2339 ∷ [])
    && have_bits (mat3_numbers (mat3_projection (vec3_normalize va))) (0x3FEE_84F4_A36A_1F6D ∷ 0x3FB5_FF84_3AFB_E3F4 ∷ 0xBFC8_894E_908F_1BCB ∷ 0x3FB5_FF84_3AFB_E3F4 ∷ 0x3FEA_E4AF_0497_CFA7 ∷ 0x3FD6_C8A4_61A9_753E ∷ 0xBFC8_894E_908F_1BCB ∷ 0x3FD6_C8A4_61A9_753E ∷ 0x3FCA_5971_5FF8_43B4 ∷ [])

unfoldable pub wa : Vec4
wa = vec4 (of_bits binary64 0x3FE6_6666_6666_6666) (of_bits binary64 0xBFF4_CCCC_CCCC_CCCD) (of_bits binary64 0x4007_3333_3333_3333) (of_bits binary64 0x3FD7_AE14_7AE1_47AE)

unfoldable pub wb : Vec4
wb = vec4 (of_bits binary64 0xBFD9_9999_9999_999A) (of_bits binary64 0x3FEC_CCCC_CCCC_CCCD) (of_bits binary64 0x3FFB_3333_3333_3333) (of_bits binary64 0xC000_CCCC_CCCC_CCCD)

-- These show the leading +0: without it a sum of -0 would be -0.
unfoldable pub minus_zeros : Vec4
minus_zeros = vec4 minus_zero minus_zero minus_zero minus_zero

unfoldable pub ones : Vec4
ones = vec4 (of_bits binary64 0x3FF0_0000_0000_0000) (of_bits binary64 0x3FF0_0000_0000_0000) (of_bits binary64 0x3FF0_0000_0000_0000) (of_bits binary64 0x3FF0_0000_0000_0000)

unfoldable pub fours : Bool
fours =
    have_bits (vec4_dot wa wb ∷ []) (0x4005_9FBE_76C8_B438 ∷ [])
    && have_bits (vec4_dot minus_zeros ones ∷ []) (0x0000_0000_0000_0000 ∷ [])
    && have_bits (vec4_numbers (mat4_times_vec4 (mat4 wa wb (vec4 (of_bits binary64 0x3FF1_9999_9999_999A) (of_bits binary64 0x3FD3_3333_3333_3333) (of_bits binary64 0xC002_6666_6666_6666) (of_bits binary64 0x3FE3_3333_3333_3333)) (vec4 (of_bits binary64 0x3FC9_9999_9999_999A) (of_bits binary64 0xBFE9_9999_9999_999A) (of_bits binary64 0x3FFE_6666_6666_6666) (of_bits binary64 0x4008_CCCC_CCCC_CCCD))) wb)) (0x3FE9_EB85_1EB8_51EB ∷ 0x400C_28F5_C28F_5C2A ∷ 0xC01E_1EB8_51EB_851E ∷ 0xC01E_1CAC_0831_26EA ∷ [])
    && have_bits (vec4_numbers (mat4_times_vec4 (mat4 minus_zeros minus_zeros minus_zeros minus_zeros) ones)) (0x0000_0000_0000_0000 ∷ 0x0000_0000_0000_0000 ∷ 0x0000_0000_0000_0000 ∷ 0x0000_0000_0000_0000 ∷ [])

unfoldable pub turns : Bool
turns = have_bits (vec3_numbers (rotated_of (vec3_normalize va) (vec3_normalize vb) vc)) (0x3FFE_ABBC_FF1E_6BE4 ∷ 0xBFF5_1953_95D5_C034 ∷ 0xBFF1_5AB7_7915_D857 ∷ [])

-- ---- every sample holds
abbrev pub SamplesHold : Type 0
SamplesHold = T (angles && vectors && blocks && fours && turns)
