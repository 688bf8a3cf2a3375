-- The samples of two steps on end. The checker computes each step by itself: the second from the numbers that the first is shown to leave.
use mathlib.Core.Path.{◌≡◌, refl}
use mathlib.Core.Bool.{true}
use mathlib.Core.List.{List, [], ◌∷◌, map}
use Prim.Native.Nat.{ℕ}
use lib.Dec.{T}
use Rattle.vectors.specs.Samples.{have_bits}
use Rattle.elements.specs.Written.{number}
use Rattle.bench.specs.Rows.{Row, unless}
use Rattle.bench.specs.declared.answers.Pick.TheVariants.{Nothing}
use Rattle.bench.specs.Step.{still, over, Update, update_of}
use Rattle.bench.specs.Opened.{opened}
use Rattle.bench.specs.SamplesStep.{vectors, rest_bits, drape_bits, sample_settings, velocities_before, copy_before, step_rest, drape_before, leaves}
use Rattle.bench.specs.SamplesTwoSteps.{strand_with, free_strand, free_second, free_between, free_after, free_agrees, held_strand, held_time, held_second, held_between, held_after, held_agrees, TwoStepSamples}

-- the rows of a step of which none fails
abbrev passing : List Row
passing = unless 7 (true ∷ []) ∷ unless 8 (true ∷ []) ∷ unless 9 (true ∷ []) ∷ unless 10 (true ∷ []) ∷ unless 11 (true ∷ []) ∷ []

abbrev accepted : ℕ → ℕ → ℕ → List ℕ → Update
accepted energy ratio count drape = record { rows = passing; energy = number energy; ratio = number ratio; count = count; drape = map number drape }

-- ---- two static steps
unfoldable free_left : Update
free_left = accepted 0x3FB3_EA2D_4272_13B1 0x3F8B_6D11_858D_F8AF 3 free_between

free_first : update_of (free_strand drape_before) Nothing still ≡ free_left
unfolding opened vectors rest_bits drape_bits sample_settings velocities_before copy_before step_rest drape_before strand_with free_strand free_between free_left
free_first = refl

free_second_lem : T (free_agrees free_left)
unfolding opened have_bits vectors rest_bits drape_bits sample_settings velocities_before copy_before step_rest drape_before leaves strand_with free_strand free_second free_between free_after free_agrees free_left
free_second_lem = tt

-- ---- two dynamic steps
unfoldable held_left : Update
held_left = accepted 0x3FC1_A846_26C2_A64D 0x3F8E_874B_B2DD_7654 3 held_between

held_first : update_of (held_strand drape_before) Nothing (over held_time) ≡ held_left
unfolding opened vectors rest_bits drape_bits sample_settings velocities_before copy_before step_rest drape_before strand_with held_strand held_between held_left held_time
held_first = refl

held_second_lem : T (held_agrees held_left)
unfolding opened have_bits vectors rest_bits drape_bits sample_settings velocities_before copy_before step_rest drape_before leaves strand_with held_strand held_second held_between held_after held_agrees held_left held_time
held_second_lem = tt

-- ---- both
pub two_step_samples : TwoStepSamples
two_step_samples = record { static = rw (free_first) free_second_lem; dynamic = rw (held_first) held_second_lem }
