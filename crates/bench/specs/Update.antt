-- How a strand's shape moves: rod3_darboux.rs, `orthonormalize_framex_for_hair`, lines 724 to 740, and `update_solution_hair`, lines 835 to 876.
use Rattle.std.specs.Prelude.{Bool, not, cond, ◌&&◌, List, ℕ, ◌+◌, ◌-◌, ◌*◌, eqb, ltb, get_or, Float}
use Rattle.std.specs.Float.{binary64}
use Rattle.std.specs.Float.Ieee.{of_bits, neg, lt}
use Rattle.vectors.specs.Number.{◌⊖◌}
use Rattle.vectors.specs.Vec3.{vec3, vec3_sub, vec3_normalize, vec3_orthogonalize}
use Rattle.vectors.specs.declared.vec3.Vec3.{Vec3}
use Rattle.vectors.specs.declared.vec4.Vec4.{Vec4}
use Rattle.elements.specs.Turned.{updated_rod_frame}
use Rattle.elements.specs.declared.rod3_darboux.turned.TurnedFrame.{TurnedFrame}
use Rattle.matrix.specs.Parts.{table}
use Rattle.matrix.specs.Rows.{zero_row}
use Rattle.matrix.specs.Pins as pins
use Rattle.matrix.specs.System.{every}
use Rattle.matrix.specs.HairSystem.{Shape, shape, vec3_at}

-- Document 01, "The areas": nonzero is pinned. The old number is kept where the pin is so.
abbrev pub unless_pinned : ℕ → Float → Float → Float
unless_pinned = pins.unless_pinned

-- Of the three components of the vertex whose pins begin at o.
unfoldable pub vec3_unless_pinned : List ℕ → ℕ → Vec3 → Vec3 → Vec3
vec3_unless_pinned pins o old new =
    vec3 (unless_pinned (get_or pins o 0) old.x new.x) (unless_pinned (get_or pins (o + 1) 0) old.y new.y) (unless_pinned (get_or pins (o + 2) 0) old.z new.z)

-- The edge from vertex i: lines 736 and 852.
abbrev pub edge_at : List Vec3 → ℕ → Vec3
edge_at xyz i = vec3_sub (vec3_at xyz (i + 1)) (vec3_at xyz i)

-- Whether there is an edge from vertex i: the last vertex has none.
abbrev pub has_edge : ℕ → ℕ → Bool
has_edge n i = ltb (i + 1) n

-- lines 732 to 739: every edge's frame is made a unit vector across the edge
unfoldable pub orthonormalize_framex_for_hair : ℕ → List Vec3 → List Vec3 → List Vec3
orthonormalize_framex_for_hair n xyz framex = table n (λ i. cond (has_edge n i) (vec3_normalize (vec3_orthogonalize (edge_at xyz i) (vec3_at framex i))) (vec3_at framex i))

-- The solution's row of vertex i.
abbrev pub row_at : List Vec4 → ℕ → Vec4
row_at u i = get_or u i zero_row

-- lines 853 to 857: how the edge changes, by the rows of its two ends
abbrev pub edge_change : Vec4 → Vec4 → Vec3
edge_change a b = vec3 (a.x ⊖ b.x) (a.y ⊖ b.y) (a.z ⊖ b.z)

-- lines 849 to 861: the frame of the edge from vertex i, turned with the edge, from the positions as they were
unfoldable pub turn_at : Shape → List Vec4 → ℕ → TurnedFrame
turn_at s u i = updated_rod_frame (vec3_at s.frames i) (edge_at s.positions i) (edge_change (row_at u i) (row_at u (i + 1))) (neg (row_at u i).w)

-- lines 845 to 848: an edge whose twist is not pinned is turned
unfoldable pub is_turned : ℕ → List ℕ → ℕ → Bool
is_turned n pins i = has_edge n i && eqb (get_or pins (4 * i + 3) 0) 0

unfoldable pub turned_frames : ℕ → List ℕ → Shape → List Vec4 → List Vec3
turned_frames n pins s u = table n (λ i. cond (is_turned n pins i) (turn_at s u i).x (vec3_at s.frames i))

-- lines 868 to 875: an unpinned position moves against the solution
unfoldable pub moved_at : List ℕ → List Vec3 → List Vec4 → ℕ → Vec3
moved_at pins xyz u i =
    let p = vec3_at xyz i in
    let r = row_at u i in
    vec3_unless_pinned pins (4 * i) p (vec3 (p.x ⊖ r.x) (p.y ⊖ r.y) (p.z ⊖ r.z))

-- `update_solution_hair`
unfoldable pub update_solution_hair : ℕ → List ℕ → Shape → List Vec4 → Shape
update_solution_hair n pins s u = shape (table n (moved_at pins s.positions u)) (turned_frames n pins s u)

-- 2^-20
abbrev pub least_turn : Float
least_turn = of_bits binary64 0x3eb0_0000_0000_0000

-- "some turned edge has 1+c < 2^-20" is declined with 10; NaN is not below it
abbrev pub turn_fits : ℕ → List ℕ → Shape → List Vec4 → ℕ → Bool
turn_fits n pins s u i = not (is_turned n pins i && lt (turn_at s u i).one_plus_cosine least_turn)

unfoldable pub turns_fit : ℕ → List ℕ → Shape → List Vec4 → Bool
turns_fit n pins s u = every (turn_fits n pins s u) (table (n - 1) (λ i. i))
