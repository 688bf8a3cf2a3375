-- The frames while a loop over the edges turns them: edge i is turned from what stood in the area at the start, and a pinned twist leaves its frame.
use mathlib.Core.Path.{◌≡◌, refl, sym}
use mathlib.Core.Bool.{Bool, true, false, cond, ◌&&◌}
use mathlib.Core.List.{List}
use Prim.Native.Nat.{ℕ, ◌+◌, ◌-◌, ◌*◌, ◌≤◌, ◌<◌}
use native.Mathlib.Omega.{arith}
use lib.ListN.{length, get_or}
use lib.Ieee.{Float, neg}
use borrow.Author.Tests.{lt-ltb, le-ltb, eq-eqb, ne_eqb}
use Rattle.vectors.specs.declared.vec3.Vec3.{Vec3}
use Rattle.vectors.specs.declared.vec4.Vec4.{Vec4}
use Rattle.elements.specs.Turned.{updated_rod_frame}
use Rattle.elements.specs.declared.rod3_darboux.turned.TurnedFrame.{TurnedFrame}
use Rattle.matrix.specs.Parts.{Apart, put, table}
use Rattle.matrix.specs.Rows.{zero_row, row3, rows3, row4, rows4, numbers3, flat3}
use Rattle.matrix.specs.System.{every}
use Rattle.matrix.specs.HairSystem.{Shape, shape, vec3_at}
use Rattle.matrix.proofs.Widths.{length_flat_table, stored_more, stored_all, put_row, rows_apart, rows_unstored_as}
use Rattle.matrix.proofs.RowWidths.{three, four}
use Rattle.matrix.proofs.RowLaws.{Stored3}
use Rattle.matrix.proofs.Shapes.{vec3_at_lem}
use Rattle.matrix.proofs.Products.{row_at_lem}
use Rattle.matrix.proofs.Every.{every_more}
use Rattle.bench.specs.Update.{edge_at, edge_change, turn_at, is_turned, turn_fits, turns_fit, turned_frames, moved_at, update_solution_hair}
use Rattle.bench.proofs.EdgeLaws.{own_vector, others_stay, last_stays}

-- ---- one edge
abbrev pub shape_at : List Float → ℕ → ℕ → ℕ → Shape
shape_at w xyz framex n = shape (rows3 w xyz n) (rows3 w framex n)

pub turn_at_lem : (w : List Float) (xyz framex u n i : ℕ) {z x : Vec3} {p q : Vec4} {r : TurnedFrame} → i + 1 < n → z ≡ edge_at (rows3 w xyz n) i → x ≡ row3 w (framex + 3 * i) → p ≡ row4 w (u + 4 * i) → q ≡ row4 w (u + 4 * i + 4)
    → r ≡ updated_rod_frame x z (edge_change p q) (neg p.w)
    → r ≡ turn_at (shape_at w xyz framex n) (rows4 w u n) i
unfolding turn_at
turn_at_lem w xyz framex u n i h e f a b g =
    rw (
      g,
      e,
      f,
      a,
      b,
      vec3_at_lem w framex n i (framex + 3 * i) (omega arith) refl,
      row_at_lem zero_row w u n i (u + 4 * i) (omega arith) refl,
      row_at_lem zero_row w u n (i + 1) (u + 4 * i + 4) h (omega arith),
    )

module _ (n : ℕ) (pins : List ℕ) (i : ℕ) where
  pub pinned_twist : (get_or pins (4 * i + 3) 0 ≡ 0 → ⊥) → i + 1 < n → is_turned n pins i ≡ false
  unfolding is_turned
  pinned_twist e h = rw (lt-ltb (i + 1) n h, ne_eqb (get_or pins (4 * i + 3) 0) 0 e)

  pub free_twist : get_or pins (4 * i + 3) 0 ≡ 0 → i + 1 < n → is_turned n pins i ≡ true
  unfolding is_turned
  free_twist e h = rw (lt-ltb (i + 1) n h, eq-eqb (get_or pins (4 * i + 3) 0) 0 e)

  no_edge : n ≤ i + 1 → is_turned n pins i ≡ false
  unfolding is_turned
  no_edge h = rw (le-ltb (i + 1) n h)

-- vertex i's frame after the turn, from the shape s and the solution u
abbrev pub frame_after : ℕ → List ℕ → Shape → List Vec4 → ℕ → Vec3
frame_after n pins s u i = cond (is_turned n pins i) (turn_at s u i).x (vec3_at s.frames i)

pub frame_stays : (w : List Float) (xyz framex u n : ℕ) (pins : List ℕ) (i : ℕ) → i < n → framex + 3 * n ≤ length w → is_turned n pins i ≡ false → w ≡ put w (framex + 3 * i) (numbers3 (frame_after n pins (shape_at w xyz framex n) (rows4 w u n) i))
frame_stays w xyz framex u n pins i h room e = rw (e, ← vec3_at_lem w framex n i (framex + 3 * i) h refl) (sym (put_row three w (framex + 3 * i) (omega arith)))

-- ---- w is the area at the start, v when the edges before i are turned
module _ (w v : List Float) (xyz framex u n : ℕ) (pins : List ℕ) (i : ℕ) (s : Stored3 w v framex (frame_after n pins (shape_at w xyz framex n) (rows4 w u n)) i) where
  turn_same : i < n → Apart framex (3 * n) xyz (3 * n) → Apart framex (3 * n) u (4 * n) → turn_at (shape_at v xyz framex n) (rows4 v u n) i ≡ turn_at (shape_at w xyz framex n) (rows4 w u n) i
  unfolding turn_at
  turn_same h p q = rw (others_stay s n xyz (omega arith) p, own_vector s n h, rows_unstored_as four s u n (λ j a b c d. q j c (omega arith) a b))

  pub turns_more : {fit fits : Bool} → i + 1 < n → Apart framex (3 * n) xyz (3 * n) → Apart framex (3 * n) u (4 * n)
      → fit ≡ every (turn_fits n pins (shape_at w xyz framex n) (rows4 w u n)) (table i (λ k. k))
      → fits ≡ turn_fits n pins (shape_at v xyz framex n) (rows4 v u n) i
      → (fit && fits) ≡ every (turn_fits n pins (shape_at w xyz framex n) (rows4 w u n)) (table (i + 1) (λ k. k))
  turns_more h p q e d = rw (e, d, turn_same (omega arith) p q) (sym (every_more (turn_fits n pins (shape_at w xyz framex n) (rows4 w u n)) i (λ k. k)))

  pub frames_more : {x : List Float} → i + 1 < n → Apart framex (3 * n) xyz (3 * n) → Apart framex (3 * n) u (4 * n)
      → x ≡ put v (framex + 3 * i) (numbers3 (frame_after n pins (shape_at v xyz framex n) (rows4 v u n) i))
      → Stored3 w x framex (frame_after n pins (shape_at w xyz framex n) (rows4 w u n)) (i + 1)
  frames_more h p q d = stored_more s d (rw (turn_same (omega arith) p q, own_vector s n (omega arith)))

  pub frames_all : i + 1 ≡ n → framex + 3 * n ≤ length w → v ≡ put w framex (flat3 (turned_frames n pins (shape_at w xyz framex n) (rows4 w u n)))
  unfolding turned_frames
  frames_all e room = stored_all (last_stays s n e room (rw (no_edge n pins i (omega arith)))) refl

pub turns_all : (n : ℕ) (pins : List ℕ) (s : Shape) (u : List Vec4) (i : ℕ) {fit : Bool} → i + 1 ≡ n → fit ≡ every (turn_fits n pins s u) (table i (λ k. k)) → fit ≡ turns_fit n pins s u
unfolding turns_fit
turns_all n pins s u i e h = let d : n - 1 ≡ i = omega arith in rw d h

-- ---- the positions move after the frames have turned, and by what stood in the area before
length_turned : (n : ℕ) (pins : List ℕ) (s : Shape) (u : List Vec4) → length (flat3 (turned_frames n pins s u)) ≡ 3 * n
unfolding turned_frames
length_turned n pins s u = length_flat_table three n _

pub updated : (w v x : List Float) (xyz framex u n : ℕ) (pins : List ℕ) → Apart framex (3 * n) xyz (3 * n) → Apart framex (3 * n) u (4 * n)
    → v ≡ put w framex (flat3 (turned_frames n pins (shape_at w xyz framex n) (rows4 w u n)))
    → x ≡ put v xyz (flat3 (table n (moved_at pins (rows3 v xyz n) (rows4 v u n))))
    → x ≡ put (put w framex (flat3 (update_solution_hair n pins (shape_at w xyz framex n) (rows4 w u n)).frames)) xyz (flat3 (update_solution_hair n pins (shape_at w xyz framex n) (rows4 w u n)).positions)
unfolding update_solution_hair
updated w v x xyz framex u n pins p q e d =
    let turned = flat3 (turned_frames n pins (shape_at w xyz framex n) (rows4 w u n)) in
    let full : length turned ≡ 3 * n = length_turned n pins (shape_at w xyz framex n) (rows4 w u n) in
    rw (d, e, rows_apart three w framex turned xyz n (λ k a b. p k a (omega (arith, full))), rows_apart four w framex turned u n (λ k a b. q k a (omega (arith, full))))
