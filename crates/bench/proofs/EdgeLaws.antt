-- What stands in an area of the vertices and edges of a strand: one edge, and the frames while a loop over the edges stores them.
-- The frames stored so far are those before edge i, so its own frame, the positions and the solution are read as at the start.
use mathlib.Core.Path.{◌≡◌, refl, sym, ◌∙◌}
use mathlib.Core.Bool.{cond}
use mathlib.Core.List.{List}
use Prim.Native.Nat.{ℕ, ◌+◌, ◌*◌, ◌≤◌, ◌<◌}
use native.Mathlib.Omega.{arith}
use lib.ListN.{length}
use lib.Ieee.{Float}
use borrow.Author.Tests.{lt-ltb, le-ltb}
use Rattle.vectors.specs.Vec3.{vec3_sub, vec3_normalize, vec3_orthogonalize}
use Rattle.vectors.specs.declared.vec3.Vec3.{Vec3}
use Rattle.matrix.specs.Parts.{Apart, put}
use Rattle.matrix.specs.Rows.{row3, rows3, numbers3, flat3}
use Rattle.matrix.specs.HairSystem.{vec3_at}
use Rattle.matrix.proofs.Widths.{unstored, stored_more, stored_same, stored_all, rows_unstored_as}
use Rattle.matrix.proofs.RowWidths.{three}
use Rattle.matrix.proofs.RowLaws.{Stored3}
use Rattle.matrix.proofs.Shapes.{vec3_at_lem}
use Rattle.bench.specs.Update.{edge_at, has_edge, orthonormalize_framex_for_hair}

pub edge_at_lem : (a : List Float) (xyz n i : ℕ) {p q r : Vec3} → i + 1 < n → p ≡ row3 a (xyz + 3 * i) → q ≡ row3 a (xyz + 3 * i + 3) → r ≡ vec3_sub q p → r ≡ edge_at (rows3 a xyz n) i
edge_at_lem a xyz n i h e f g = rw (g, e, f, vec3_at_lem a xyz n i (xyz + 3 * i) (omega arith) refl, vec3_at_lem a xyz n (i + 1) (xyz + 3 * i + 3) h (omega arith))

-- ---- w is the area at the start, v when the vectors of the vertices before i are stored
module _ {w v : List Float} {o i : ℕ} {f : ℕ → Vec3} (s : Stored3 w v o f i) (n : ℕ) where
  pub own_vector : i < n → vec3_at (rows3 v o n) i ≡ vec3_at (rows3 w o n) i
  own_vector h = sym (vec3_at_lem v o n i (o + 3 * i) h refl) ∙ unstored s (o + 3 * i) (λ j a b x y. omega arith) ∙ vec3_at_lem w o n i (o + 3 * i) h refl

  pub others_stay : (k : ℕ) → i ≤ n → Apart o (3 * n) k (3 * n) → rows3 v k n ≡ rows3 w k n
  others_stay k h apart = rows_unstored_as three s k n (λ j a b c d. apart j c (omega arith) a b)

  -- the last vertex has no edge, and its vector stays
  pub last_stays : i + 1 ≡ n → o + 3 * n ≤ length w → f i ≡ vec3_at (rows3 w o n) i → Stored3 w v o f n
  last_stays e room q = rw (← e) (stored_same s (omega arith) (q ∙ sym (vec3_at_lem w o n i (o + 3 * i) (omega arith) refl)))

-- ---- the frames made unit vectors across the edges
abbrev pub orthonormal_frame : List Float → ℕ → ℕ → ℕ → ℕ → Vec3
orthonormal_frame w framex xyz n i = vec3_normalize (vec3_orthogonalize (edge_at (rows3 w xyz n) i) (vec3_at (rows3 w framex n) i))

abbrev pub frame_across : List Float → ℕ → ℕ → ℕ → ℕ → Vec3
frame_across w framex xyz n i = cond (has_edge n i) (orthonormal_frame w framex xyz n i) (vec3_at (rows3 w framex n) i)

module _ (w v : List Float) (framex xyz n i : ℕ) (s : Stored3 w v framex (frame_across w framex xyz n) i) where
  pub across_more : {x : Vec3} {u : List Float} → i + 1 < n → Apart framex (3 * n) xyz (3 * n) → x ≡ orthonormal_frame v framex xyz n i → u ≡ put v (framex + 3 * i) (numbers3 x) → Stored3 w u framex (frame_across w framex xyz n) (i + 1)
  across_more {x} {u} h apart e d = stored_more s d (e ∙ rw (others_stay s n xyz (omega arith) apart, own_vector s n (omega arith), lt-ltb (i + 1) n h))

  pub across_all : i + 1 ≡ n → framex + 3 * n ≤ length w → v ≡ put w framex (flat3 (orthonormalize_framex_for_hair n (rows3 w xyz n) (rows3 w framex n)))
  unfolding orthonormalize_framex_for_hair
  across_all e room = stored_all (last_stays s n e room (rw (le-ltb (i + 1) n (omega arith)))) refl
