-- What a step leaves, in the staged parts of the work area and on the drape: vectors of the definitions against the numbers that the code copies and tests.
-- Each store is apart from the parts that are read beside it, and a part of 3n numbers read as vectors and written out again is itself.
use mathlib.Core.Path.{◌≡◌, refl, ap, ◌∙◌}
use mathlib.Core.Bool.{◌&&◌}
use mathlib.Core.List.{List}
use Prim.Native.Nat.{ℕ, ◌*◌, ◌≤◌}
use native.Mathlib.Omega.{arith}
use lib.ListN.{length}
use lib.Ieee.{Float, nan}
use Rattle.vectors.specs.Finite.{is_finite}
use Rattle.vectors.specs.declared.vec3.Vec3.{Vec3}
use Rattle.vectors.specs.declared.vec4.Vec4.{Vec4}
use Rattle.matrix.specs.Parts.{part, put}
use Rattle.matrix.specs.Rows.{rows3, flat3}
use Rattle.matrix.specs.Area.{place_positions, place_frames, place_velocities, work_numbers}
use Rattle.matrix.specs.System.{every}
use Rattle.matrix.specs.HairSystem.{Shape, staged_shape}
use Rattle.matrix.proofs.Parts.{length_table, length_part, length_put, part_put_same, part_put_apart}
use Rattle.matrix.proofs.RowLaws.{rows3_put, rows3_apart, length_flat3, flat_rows3}
use Rattle.bench.specs.Areas.{drape_part}
use Rattle.bench.specs.Areas as areas
use Rattle.bench.specs.Update.{turned_frames, update_solution_hair}
use Rattle.bench.specs.Step.{drape_is_finite, static_drape, velocities_after, positions_after, dynamic_drape}

-- ---- the staged shape after the update
length_frames : (n : ℕ) (pins : List ℕ) (s : Shape) (u : List Vec4) → length (update_solution_hair n pins s u).frames ≡ n
unfolding update_solution_hair turned_frames
length_frames n pins s u = length_table n _

length_positions : (n : ℕ) (pins : List ℕ) (s : Shape) (u : List Vec4) → length (update_solution_hair n pins s u).positions ≡ n
unfolding update_solution_hair
length_positions n pins s u = length_table n _

pub updated_shape : (w : List Float) {v : List Float} (n : ℕ) (pins : List ℕ) (s : Shape) (u : List Vec4) → n ≤ 32 → length w ≡ work_numbers
    → v ≡ put (put w place_frames (flat3 (update_solution_hair n pins s u).frames)) place_positions (flat3 (update_solution_hair n pins s u).positions)
    → staged_shape n v ≡ update_solution_hair n pins s u
unfolding staged_shape
updated_shape w {v} n pins s u h l e =
    let x = update_solution_hair n pins s u in
    let w₁ = put w place_frames (flat3 x.frames) in
    let f = rows3_put w w₁ place_frames n x.frames refl (length_frames n pins s u) (omega arith) in
    let p = rows3_put w₁ v place_positions n x.positions e (length_positions n pins s u) (omega (arith, f.stored.long)) in
    let g : rows3 v place_frames n ≡ x.frames = rw e (rows3_apart w₁ place_positions (flat3 x.positions) place_frames n (λ k a b c d. omega (arith, length_flat3 x.positions, length_positions n pins s u)) ∙ f.there) in
    rw (p.there, g)

module _ (w d : List Float) (n : ℕ) (h : n ≤ 32) (lw : length w ≡ work_numbers) (ld : length d ≡ drape_part) where
  abbrev xs : List Float
  xs = part w place_positions (3 * n)

  abbrev fs : List Float
  fs = part w place_frames (3 * n)

  long_xs : length xs ≡ 3 * n
  long_xs = length_part w place_positions (3 * n) (omega arith)

  long_fs : length fs ≡ 3 * n
  long_fs = length_part w place_frames (3 * n) (omega arith)

  -- ---- a static step
  pub copied_static : static_drape d (staged_shape n w) ≡ put (put d areas.place_positions xs) areas.place_frames fs
  unfolding static_drape staged_shape
  copied_static = rw (flat_rows3 w place_positions n (omega arith), flat_rows3 w place_frames n (omega arith))

  pub finite_static : drape_is_finite n (static_drape d (staged_shape n w)) ≡ (every is_finite xs && every is_finite fs && every is_finite (part d areas.place_velocities (3 * n)))
  unfolding drape_is_finite
  finite_static =
      let d₁ = put d areas.place_positions xs in
      let l₁ = length_put d areas.place_positions xs in
      let apart = part_put_apart nan in
      rw (
        copied_static,
        apart d₁ areas.place_frames fs areas.place_positions (3 * n) (λ k a b e f. omega (arith, long_fs)) (omega arith),
        part_put_same nan d areas.place_positions (3 * n) xs long_xs (omega arith),
        part_put_same nan d₁ areas.place_frames (3 * n) fs long_fs (omega arith),
        apart d₁ areas.place_frames fs areas.place_velocities (3 * n) (λ k a b e f. omega (arith, long_fs)) (omega arith),
        apart d areas.place_positions xs areas.place_velocities (3 * n) (λ k a b e f. omega (arith, long_xs)) (omega arith),
      )

  -- ---- a dynamic step, whose velocities are staged
  module _ (dt : Float) (pins : List ℕ) (e : part w place_velocities (3 * n) ≡ flat3 (velocities_after dt n pins d (rows3 w place_positions n))) where
    abbrev ps : List Float
    ps = flat3 (positions_after n pins d (rows3 w place_positions n))

    abbrev vs : List Float
    vs = part w place_velocities (3 * n)

    long_ps : length ps ≡ 3 * n
    unfolding positions_after
    long_ps = length_flat3 (positions_after n pins d (rows3 w place_positions n)) ∙ ap (λ (k : ℕ). 3 * k) (length_table n _)

    long_vs : length vs ≡ 3 * n
    long_vs = length_part w place_velocities (3 * n) (omega arith)

    pub copied_dynamic : dynamic_drape dt n pins d (staged_shape n w) ≡ put (put (put (put d areas.place_positions ps) areas.place_frames fs) areas.place_velocities vs) areas.place_working_copy xs
    unfolding dynamic_drape staged_shape
    copied_dynamic = rw (flat_rows3 w place_positions n (omega arith), flat_rows3 w place_frames n (omega arith), ← e)

    pub finite_dynamic : drape_is_finite n (dynamic_drape dt n pins d (staged_shape n w)) ≡ (every is_finite ps && every is_finite fs && every is_finite vs)
    unfolding drape_is_finite
    finite_dynamic =
        let d₁ = put d areas.place_positions ps in
        let d₂ = put d₁ areas.place_frames fs in
        let d₃ = put d₂ areas.place_velocities vs in
        let l₁ = length_put d areas.place_positions ps in
        let l₂ = length_put d₁ areas.place_frames fs in
        let l₃ = length_put d₂ areas.place_velocities vs in
        let apart = part_put_apart nan in
        rw (
          copied_dynamic,
          apart d₃ areas.place_working_copy xs areas.place_positions (3 * n) (λ k a b f g. omega (arith, long_xs)) (omega arith),
          apart d₃ areas.place_working_copy xs areas.place_frames (3 * n) (λ k a b f g. omega (arith, long_xs)) (omega arith),
          apart d₃ areas.place_working_copy xs areas.place_velocities (3 * n) (λ k a b f g. omega (arith, long_xs)) (omega arith),
          apart d₂ areas.place_velocities vs areas.place_positions (3 * n) (λ k a b f g. omega (arith, long_vs)) (omega arith),
          apart d₂ areas.place_velocities vs areas.place_frames (3 * n) (λ k a b f g. omega (arith, long_vs)) (omega arith),
          apart d₁ areas.place_frames fs areas.place_positions (3 * n) (λ k a b f g. omega (arith, long_fs)) (omega arith),
          part_put_same nan d areas.place_positions (3 * n) ps long_ps (omega arith),
          part_put_same nan d₁ areas.place_frames (3 * n) fs long_fs (omega arith),
          part_put_same nan d₂ areas.place_velocities (3 * n) vs long_vs (omega arith),
        )

-- the velocities x are staged behind the shape, which stays
pub record Behind (n : ℕ) (w v : List Float) (x : List Vec3) : Type 0 where
  pub positions_stay : rows3 v place_positions n ≡ rows3 w place_positions n
  pub shape_stays : staged_shape n v ≡ staged_shape n w
  pub there : part v place_velocities (3 * n) ≡ flat3 x

pub velocities_staged : (n : ℕ) (w v : List Float) (x : List Vec3) → n ≤ 32 → length w ≡ work_numbers → length x ≡ n → v ≡ put w place_velocities (flat3 x) → Behind n w v x
unfolding staged_shape
velocities_staged n w v x h l lx e =
    let m = length_flat3 x in
    let p : rows3 v place_positions n ≡ rows3 w place_positions n = rw e (rows3_apart w place_velocities (flat3 x) place_positions n (λ k a b f g. omega arith)) in
    let f : rows3 v place_frames n ≡ rows3 w place_frames n = rw e (rows3_apart w place_velocities (flat3 x) place_frames n (λ k a b f g. omega arith)) in
    record {
      positions_stay = p;
      shape_stays = rw (p, f);
      there = rw e (part_put_same nan w place_velocities (3 * n) (flat3 x) (omega arith) (omega arith));
    }

pub length_velocities : (dt : Float) (n : ℕ) (pins : List ℕ) (d : List Float) (copy : List Vec3) → length (velocities_after dt n pins d copy) ≡ n
unfolding velocities_after
length_velocities dt n pins d copy = length_table n _
