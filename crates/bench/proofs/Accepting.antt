-- A step that is accepted has passed each of its rows, so what they test is finite; the rest is what its stores leave of the drape.
use mathlib.Core.Path.{◌≡◌, refl, sym, ap, ◌∙◌}
use mathlib.Core.Bool.{Bool, true, ◌&&◌}
use mathlib.Core.List.{List}
use mathlib.Core.Logic.{◌≢◌}
use Prim.Native.Nat.{ℕ, zero, suc, ◌+◌, ◌*◌, ◌<◌}
use native.Mathlib.Omega.{arith}
use lib.ListN.{get_or}
use lib.Ieee.{Float, nan}
use Rattle.vectors.specs.Finite.{is_finite, vec4_is_finite}
use Rattle.vectors.specs.declared.vec3.Vec3.{Vec3}
use Rattle.matrix.specs.Parts.{part}
use Rattle.matrix.specs.Rows.{row3}
use Rattle.matrix.specs.System.{System, every, system_is_finite}
use Rattle.matrix.specs.ConjugateGradient.{Outcome}
use Rattle.matrix.proofs.Parts.{length_part, get_or_part}
use Rattle.matrix.proofs.Every.{and_left, and_right}
use Rattle.bench.specs.declared.answers.Pick.{Pick}
use Rattle.bench.specs.Areas.{vector_part, place_positions, place_frames, place_velocities}
use Rattle.bench.specs.Strand.{Strand}
use Rattle.bench.specs.Rows.{first, in_table}
use Rattle.bench.specs.PinStory.{position}
use Rattle.bench.specs.Step.{Time, begin_rows, outcome_is_finite, drape_is_finite, finish_rows, update_of}
use Rattle.bench.specs.Accepted.{Whole, StepLeaves}
use Rattle.bench.proofs.EveryNumber.{every_get_or}
use Rattle.bench.proofs.RowLaws.{demands_of, holds}
use Rattle.bench.proofs.Components.{component, row_component, pinned_component}
use Rattle.bench.proofs.StoredDrape.{Stays}
use Rattle.bench.proofs.CopyFinite.{CopyIsFinite, all_finite}

-- ---- numbers of what was tested
system_energy : (e : Float) (s : System) → system_is_finite e s ≡ true → is_finite e ≡ true
unfolding system_is_finite
system_energy e s h = and_left _ _ (and_left (is_finite e && every vec4_is_finite s.gradient) _ h)

outcome_ratio : (o : Outcome) → outcome_is_finite o ≡ true → is_finite o.ratio ≡ true
unfolding outcome_is_finite
outcome_ratio o h = and_left _ _ h

abbrev vectors_finite : ℕ → List Float → ℕ → Bool
vectors_finite n d o = every is_finite (part d o (3 * n))

drape_part_lem : (n : ℕ) (d : List Float) → drape_is_finite n d ≡ true → (p : ℕ) → p < 3 → vectors_finite n d (vector_part * p) ≡ true
unfolding drape_is_finite
drape_part_lem n d h zero b = and_left _ _ (and_left _ _ h)
drape_part_lem n d h (suc zero) b = and_right (vectors_finite n d place_positions) _ (and_left _ (vectors_finite n d place_velocities) h)
drape_part_lem n d h (suc (suc zero)) b = and_right (vectors_finite n d place_positions && vectors_finite n d place_frames) _ h
drape_part_lem n d h (suc (suc (suc p))) b = absurd (omega arith)

-- ---- of either kind
module _ (t : Strand) (pick : Pick) (time : Time) (h : first (update_of t pick time).rows ≡ 0) where
  in_table_lem : every in_table (update_of t pick time).rows ≡ true
  unfolding update_of begin_rows finish_rows every
  in_table_lem = refl

  pub energy_finite : is_finite (update_of t pick time).energy ≡ true
  unfolding update_of begin_rows finish_rows demands_of
  energy_finite = system_energy _ _ (holds (update_of t pick time).rows in_table_lem h 8 0)

  ratio_finite : is_finite (update_of t pick time).ratio ≡ true
  unfolding update_of begin_rows finish_rows demands_of
  ratio_finite = outcome_ratio _ (holds (update_of t pick time).rows in_table_lem h 9 0)

  drape_tested : drape_is_finite t.count (update_of t pick time).drape ≡ true
  unfolding update_of begin_rows finish_rows demands_of
  drape_tested = holds (update_of t pick time).rows in_table_lem h 11 0

  module _ (w : Whole t) {new : ℕ → Vec3} (s : Stays t w new (update_of t pick time).drape) where
    abbrev d : List Float
    d = (update_of t pick time).drape

    drape_finite : (p k : ℕ) → p < 3 → k < 3 * t.count → is_finite (get_or d (vector_part * p + k) nan) ≡ true
    drape_finite p k a b =
        let l = length_part d (vector_part * p) (3 * t.count) (omega (arith, s.long, w.drape, w.count)) in
        sym (ap is_finite (get_or_part d (vector_part * p) (3 * t.count) k nan b)) ∙ every_get_or is_finite nan (part d (vector_part * p) (3 * t.count)) (drape_part_lem t.count d drape_tested p a) k (omega (arith, l))

    pinned_stays : (i j : ℕ) → i < t.count → j < 3 → get_or t.pins (4 * i + j) 0 ≢ 0 → position i j d ≡ position i j t.drape
    pinned_stays i j a b p = row_component d (3 * i) j b ∙ ap (component j) (s.positions i a) ∙ pinned_component t.pins (4 * i) (row3 t.drape (3 * i)) (new i) j b p ∙ sym (row_component t.drape (3 * i) j b)

    pub accepts : CopyIsFinite t d → StepLeaves t (update_of t pick time)
    accepts c = record {
      energy_finite = energy_finite;
      ratio_finite = ratio_finite;
      drape_finite = drape_finite;
      all_finite = all_finite t w d s.long drape_finite s.past c;
      pinned = pinned_stays;
      past = λ p k _. s.past p k;
      long = s.long;
    }
