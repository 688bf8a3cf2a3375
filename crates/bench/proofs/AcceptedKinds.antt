-- What holds of every accepted step, of either kind: each stores the positions with the pinned components kept, then other parts behind them.
use mathlib.Core.Path.{◌≡◌, ◌∙◌}
use mathlib.Core.List.{List}
use Prim.Native.Nat.{ℕ, ◌*◌}
use native.Mathlib.Omega.{arith}
use lib.ListN.{length}
use lib.Ieee.{Float, nan}
use Rattle.vectors.specs.Number.{◌⊖◌}
use Rattle.vectors.specs.Vec3.{vec3}
use Rattle.vectors.specs.declared.vec3.Vec3.{Vec3}
use Rattle.vectors.specs.declared.vec4.Vec4.{Vec4}
use Rattle.matrix.specs.Parts.{part, put}
use Rattle.matrix.specs.Rows.{flat3}
use Rattle.matrix.specs.HairSystem.{Shape, vec3_at}
use Rattle.matrix.proofs.Parts.{length_table, length_put, part_put_apart}
use Rattle.matrix.proofs.RowLaws.{length_flat3}
use Rattle.bench.specs.declared.answers.Pick.{Pick}
use Rattle.bench.specs.Areas.{vector_part, place_positions, place_frames, place_velocities}
use Rattle.bench.specs.Strand.{Strand}
use Rattle.bench.specs.Update.{row_at, moved_at, update_solution_hair, turned_frames}
use Rattle.bench.specs.Step.{Time, still, over, positions_in, shape_in, predicted_shape, shape_by, begun_with, solved, static_drape, velocities_after, positions_after, dynamic_drape, drape_after, update_of}
use Rattle.bench.specs.Accepted.{Whole, StepAccepts, StaticKeeps}
use Rattle.bench.proofs.Composed.{begun_of}
use Rattle.bench.proofs.StoredDrape.{Stays, positions_stored, behind_stored}
use Rattle.bench.proofs.CopyFinite.{kept_copy, taken_copy}
use Rattle.bench.proofs.Accepting.{accepts}

-- s has n positions and n frames
record Counted (n : ℕ) (s : Shape) : Type 0 where
  pub positions : length s.positions ≡ n
  pub frames : length s.frames ≡ n

counted_updated : (n : ℕ) (pins : List ℕ) (s : Shape) (v : List Vec4) → Counted n (update_solution_hair n pins s v)
unfolding update_solution_hair turned_frames
counted_updated n pins s v = record { positions = length_table n _; frames = length_table n _ }

module _ (t : Strand) (w : Whole t) where
  -- ---- static: the drape's shape, moved by the solution v
  abbrev moved : List Vec4 → Shape
  moved v = update_solution_hair t.count t.pins (shape_in t.count t.drape) v

  counted_moved : (v : List Vec4) → Counted t.count (moved v)
  counted_moved = counted_updated t.count t.pins (shape_in t.count t.drape)

  -- what a vertex moves to where it is not pinned
  abbrev against : List Vec4 → ℕ → Vec3
  against v i =
      let p = vec3_at (positions_in t.count t.drape) i in
      let r = row_at v i in
      vec3 (p.x ⊖ r.x) (p.y ⊖ r.y) (p.z ⊖ r.z)

  static_stays : (v : List Vec4) → Stays t w (against v) (static_drape t.drape (moved v))
  unfolding static_drape update_solution_hair moved_at
  static_stays v = behind_stored t w 1 _ (omega arith) (counted_moved v).frames (positions_stored t w (against v))

  -- what is stored ends where the velocities begin
  static_part : (s : Shape) → Counted t.count s → part (static_drape t.drape s) place_velocities (2 * vector_part) ≡ part t.drape place_velocities (2 * vector_part)
  unfolding static_drape
  static_part s l =
      let d = put t.drape place_positions (flat3 s.positions) in
      part_put_apart nan d place_frames (flat3 s.frames) place_velocities (2 * vector_part) (λ k a b c e. omega (arith, length_flat3 s.frames, l.frames, w.count)) (omega (arith, length_put t.drape place_positions (flat3 s.positions), w.drape))
      ∙ part_put_apart nan t.drape place_positions (flat3 s.positions) place_velocities (2 * vector_part) (λ k a b c e. omega (arith, length_flat3 s.positions, l.positions, w.count)) (omega (arith, w.drape))

  -- ---- dynamic: the positions of s are the working copy
  dynamic_stays : (dt : Float) (s : Shape) → Counted t.count s → Stays t w (vec3_at s.positions) (dynamic_drape dt t.count t.pins t.drape s)
  unfolding dynamic_drape positions_after velocities_after
  dynamic_stays dt s l =
      behind_stored t w 3 s.positions (omega arith) l.positions
      (behind_stored t w 2 _ (omega arith) (length_table t.count _)
      (behind_stored t w 1 s.frames (omega arith) l.frames (positions_stored t w _)))

-- ---- with the solution of the step
abbrev solution_of : Strand → Pick → Time → List Vec4
solution_of t pick time = (solved t.count t.pins t.settings.conv_ratio (begun_of t pick time).system).left.u

pub static_keeps : StaticKeeps
unfolding update_of begun_with shape_by drape_after
static_keeps t pick w = static_part t w _ (counted_moved t w (solution_of t pick still))

pub step_accepts : StepAccepts
unfolding update_of begun_with shape_by drape_after
step_accepts t pick still w h = accepts t pick still h w (static_stays t w (solution_of t pick still)) (kept_copy t w _ (static_keeps t pick w))
step_accepts t pick (over dt) w h =
    let v = solution_of t pick (over dt) in
    let s = dynamic_stays t w dt _ (counted_updated t.count t.pins (predicted_shape dt t.count t.pins t.drape) v) in
    accepts t pick (over dt) h w s (taken_copy t w dt v s)
