-- The shape that a step stages in the work area, read back as vectors: what was stored there, and the parts stored later are apart from it.
use mathlib.Core.Path.{◌≡◌, ◌∙◌}
use mathlib.Core.List.{List}
use Prim.Native.Nat.{ℕ, ◌-◌, ◌*◌, ◌≤◌}
use native.Mathlib.Nat.{zero-add}
use native.Mathlib.Omega.{arith}
use lib.ListN.{length, take, drop}
use lib.Seq.{get_or-drop}
use lib.Ieee.{Float, nan}
use Rattle.matrix.specs.Parts.{part, put}
use Rattle.vectors.specs.declared.vec3.Vec3.{Vec3}
use Rattle.matrix.specs.Rows.{rows3, flat3}
use Rattle.matrix.specs.Area.{place_positions, place_frames, work_numbers}
use Rattle.matrix.specs.HairSystem.{shape, staged_shape}
use Rattle.matrix.proofs.Parts.{length_table, length_part, length_put}
use Rattle.matrix.proofs.RowLaws.{rows3_put, rows3_apart, length_flat3}
use Rattle.matrix.proofs.Shapes.{rows3_same, rows3_part, rows3_stored}
use Rattle.bench.specs.Areas.{rest_part, drape_part, vector_part}
use Rattle.bench.specs.Areas as areas
use Rattle.bench.specs.Update.{orthonormalize_framex_for_hair}
use Rattle.bench.specs.Step.{frames_in, shape_in, predicted_copy}

length_orthonormal : (n : ℕ) (xyz framex : List Vec3) → length (orthonormalize_framex_for_hair n xyz framex) ≡ n
unfolding orthonormalize_framex_for_hair
length_orthonormal n xyz framex = length_table n _

pub length_predicted : (dt : Float) (n : ℕ) (pins : List ℕ) (d : List Float) → length (predicted_copy dt n pins d) ≡ n
unfolding predicted_copy
length_predicted dt n pins d = length_table n _

-- positions and frames of the drape d
pub staged_drape : (w : List Float) {w₁ w₂ : List Float} (d : List Float) (n : ℕ) → n ≤ 32 → length w ≡ work_numbers → length d ≡ drape_part
    → w₁ ≡ put w place_positions (part d areas.place_positions (3 * n)) → w₂ ≡ put w₁ place_frames (part d areas.place_frames (3 * n)) → staged_shape n w₂ ≡ shape_in n d
unfolding staged_shape
staged_drape w d n h lw ld e₁ e₂ =
    let m = length_part d areas.place_frames (3 * n) (omega arith) in
    let l₁ = length_put w place_positions (part d areas.place_positions (3 * n)) in
    rw (
      e₂,
      e₁,
      rows3_apart (put w place_positions (part d areas.place_positions (3 * n))) place_frames (part d areas.place_frames (3 * n)) place_positions n (λ k a b f g. omega (arith, m)),
      rows3_stored w place_positions d areas.place_positions n (omega arith) (omega arith),
      rows3_stored (put w place_positions (part d areas.place_positions (3 * n))) place_frames d areas.place_frames n (omega (arith, l₁)) (omega arith),
    )

-- the halves of a rest part, as the library cuts them
pub rest_halves : (l : List Float) {p q : List Float} (n : ℕ) → n ≤ 32 → length l ≡ rest_part → p ≡ take vector_part l → q ≡ drop (length l - vector_part) l → shape (rows3 p 0 n) (rows3 q 0 n) ≡ shape_in n l
unfolding part
rest_halves l {p} {q} n h le e f =
    let d : length l - vector_part ≡ areas.place_frames = omega (arith, le) in
    let x : rows3 p 0 n ≡ rows3 l areas.place_positions n = rw e (rows3_part l areas.place_positions vector_part n (omega arith)) in
    let y : rows3 q 0 n ≡ rows3 l areas.place_frames n = rw (f, d) (rows3_same (drop areas.place_frames l) l 0 areas.place_frames n (λ i b. rw (zero-add i) (get_or-drop areas.place_frames l i nan))) in
    rw (x, y)

-- the predicted working copy xyz, and the frames of d along it
pub staged_prediction : (w : List Float) {w₁ w₂ w₃ : List Float} (d : List Float) (n : ℕ) (xyz : List Vec3) → n ≤ 32 → length w ≡ work_numbers → length d ≡ drape_part → length xyz ≡ n
    → w₁ ≡ put w place_positions (flat3 xyz) → w₂ ≡ put w₁ place_frames (part d areas.place_frames (3 * n))
    → w₃ ≡ put w₂ place_frames (flat3 (orthonormalize_framex_for_hair n (rows3 w₂ place_positions n) (rows3 w₂ place_frames n)))
    → staged_shape n w₃ ≡ shape xyz (orthonormalize_framex_for_hair n xyz (frames_in n d))
unfolding staged_shape
staged_prediction w {w₁} {w₂} {w₃} d n xyz h lw ld lx e₁ e₂ e₃ =
    let m = length_part d areas.place_frames (3 * n) (omega arith) in
    let p = rows3_put w w₁ place_positions n xyz e₁ lx (omega arith) in
    let p₂ : rows3 w₂ place_positions n ≡ xyz = rw e₂ (rows3_apart w₁ place_frames (part d areas.place_frames (3 * n)) place_positions n (λ k a b f g. omega (arith, m)) ∙ p.there) in
    let f₂ : rows3 w₂ place_frames n ≡ frames_in n d = rw e₂ (rows3_stored w₁ place_frames d areas.place_frames n (omega (arith, p.stored.long)) (omega arith)) in
    let o = orthonormalize_framex_for_hair n (rows3 w₂ place_positions n) (rows3 w₂ place_frames n) in
    let lo = length_orthonormal n (rows3 w₂ place_positions n) (rows3 w₂ place_frames n) in
    let l₂ : length w₂ ≡ length w = rw e₂ (length_put w₁ place_frames (part d areas.place_frames (3 * n)) ∙ p.stored.long) in
    let r = rows3_put w₂ w₃ place_frames n o e₃ lo (omega arith) in
    let p₃ : rows3 w₃ place_positions n ≡ xyz = rw e₃ (rows3_apart w₂ place_frames (flat3 o) place_positions n (λ k a b f g. omega (arith, length_flat3 o, lo)) ∙ p₂) in
    rw (p₃, r.there, p₂, f₂)
