-- The system of a strand: rod3_darboux.rs, `wdwddw_hair_system`, lines 742 to 833. Each element adds to the gradients of its vertices and to the blocks of their pairs, as `merge_for_array_blk` of sparse_square.rs does.
use Rattle.std.specs.Prelude.{Bool, ◌&&◌, List, [], ◌∷◌, ◌++◌, ℕ, ◌+◌, ◌-◌, eqb, get_or, Float}
use Rattle.vectors.specs.Number.{◌⊕◌, plus_zero}
use Rattle.vectors.specs.Signs.{plus, Sign, Side}
use Rattle.vectors.specs.Vec4.{vec4, vec4_add, vec4_from_vec3}
use Rattle.vectors.specs.Mat4.{mat4, mat4_add, mat4_from_mat3}
use Rattle.vectors.specs.Edge.{edge_length}
use Rattle.vectors.specs.declared.vec3.Vec3.{Vec3}
use Rattle.vectors.specs.declared.vec4.Vec4.{Vec4}
use Rattle.vectors.specs.declared.mat4.Mat4.{Mat4}
use Rattle.elements.specs.Spring3.{wdwddw_squared_length_difference}
use Rattle.elements.specs.Darboux.{zero_vec3, darboux_rod}
use Rattle.elements.specs.Bend.{wdwdwdw_darboux_rod_hair_approx_hessian}
use Rattle.elements.specs.declared.spring3.Stretch.{Stretch}
use Rattle.elements.specs.declared.rod3_darboux.Rod.{Rod}
use Rattle.elements.specs.declared.rod3_darboux.bend.Bend.{Bend}
use Rattle.matrix.specs.Parts.{table}
use Rattle.matrix.specs.Rows.{zero_row, zero_block, rows3}
use Rattle.matrix.specs.Area.{place_positions, place_frames}
use Rattle.matrix.specs.Blocks.{matrix_of, block_in}
use Rattle.matrix.specs.System.{System, changed_if}

-- What an element adds at one vertex, and at one pair of vertices.
pub record AtVertex : Type 0 where
  pub vertex : ℕ
  pub value : Vec4

pub record AtPair : Type 0 where
  pub row : ℕ
  pub column : ℕ
  pub block : Mat4

pub record Element : Type 0 where
  pub energy : Float
  pub gradients : List AtVertex
  pub blocks : List AtPair

abbrev pub at_vertex : ℕ → Vec4 → AtVertex
at_vertex i v = record { vertex = i; value = v }

abbrev pub at_pair : ℕ → ℕ → Mat4 → AtPair
at_pair i j m = record { row = i; column = j; block = m }

-- lines 776 to 792: the stretch of the edge from vertex i, with zeros for the twist
unfoldable pub stretch_element : ℕ → Stretch → Element
stretch_element i e =
    let same = mat4_from_mat3 e.same plus_zero in
    let other = mat4_from_mat3 e.other plus_zero in
    record {
      energy = e.w;
      gradients = at_vertex i (vec4_from_vec3 e.dw0 plus_zero) ∷ at_vertex (i + 1) (vec4_from_vec3 e.dw1 plus_zero) ∷ [];
      blocks = at_pair i i same ∷ at_pair i (i + 1) other ∷ at_pair (i + 1) i other ∷ at_pair (i + 1) (i + 1) same ∷ [];
    }

-- lines 818 to 825: bend and twist at the edges from vertices i and i + 1
unfoldable pub bend_element : ℕ → Bend → Element
bend_element i e =
    record {
      energy = e.w;
      gradients = at_vertex i e.dw0 ∷ at_vertex (i + 1) e.dw1 ∷ at_vertex (i + 2) e.dw2 ∷ [];
      blocks =
          at_pair i i e.row0.b0 ∷ at_pair i (i + 1) e.row0.b1 ∷ at_pair i (i + 2) e.row0.b2
          ∷ at_pair (i + 1) i e.row1.b0 ∷ at_pair (i + 1) (i + 1) e.row1.b1 ∷ at_pair (i + 1) (i + 2) e.row1.b2
          ∷ at_pair (i + 2) i e.row2.b0 ∷ at_pair (i + 2) (i + 1) e.row2.b1 ∷ at_pair (i + 2) (i + 2) e.row2.b2 ∷ [];
    }

-- Positions of n vertices, and the frame's x axis at each.
pub record Shape : Type 0 where
  pub positions : List Vec3
  pub frames : List Vec3

abbrev pub shape : List Vec3 → List Vec3 → Shape
shape p f = record { positions = p; frames = f }

-- As it stands in the staged parts of the area w.
unfoldable pub staged_shape : ℕ → List Float → Shape
staged_shape n w = shape (rows3 w place_positions n) (rows3 w place_frames n)

abbrev pub vec3_at : List Vec3 → ℕ → Vec3
vec3_at l i = get_or l i zero_vec3

-- the edges from vertices i and i + 1
unfoldable pub rod_of : Shape → ℕ → Rod
rod_of s i = record { p0 = vec3_at s.positions i; p1 = vec3_at s.positions (i + 1); p2 = vec3_at s.positions (i + 2); x0 = vec3_at s.frames i; x1 = vec3_at s.frames (i + 1) }

-- lines 765 to 775: the rest length of the edge from vertex i, and its stretch
unfoldable pub stretch_at : List Vec3 → List Vec3 → Float → ℕ → Stretch
stretch_at rest staged k i = wdwddw_squared_length_difference k (vec3_at staged i) (vec3_at staged (i + 1)) (edge_length (vec3_at rest i) (vec3_at rest (i + 1))).value

-- lines 797 to 817: the Darboux vector at rest, and what the difference from it makes
unfoldable pub bend_at : Shape → Shape → Vec3 → ℕ → Bend
bend_at rest staged k i = wdwdwdw_darboux_rod_hair_approx_hessian (rod_of staged i) k (darboux_rod (rod_of rest i))

-- lines 763 and 794: an element for each edge, and for each two edges
unfoldable pub stretches : ℕ → List Vec3 → List Vec3 → Float → List Element
stretches n rest staged k = table (n - 1) (λ i. stretch_element i (stretch_at rest staged k i))

unfoldable pub bends : ℕ → Shape → Shape → Vec3 → List Element
bends n rest staged k = table (n - 2) (λ i. bend_element i (bend_at rest staged k i))

-- s, with v or m added where the test holds; "adding blocks adds every entry"
abbrev pub row_plus_if : Bool → Vec4 → Vec4 → Vec4
row_plus_if t s v = changed_if t (λ (x : Vec4). vec4_add x v) s

abbrev pub block_plus_if : Bool → Mat4 → Mat4 → Mat4
block_plus_if t s m = changed_if t (λ (x : Mat4). mat4_add x m) s

-- Whether row p and column q are i and j.
abbrev pub same_pair : ℕ → ℕ → ℕ → ℕ → Bool
same_pair p q i j = eqb p i && eqb q j

-- The system s with v added to the gradient of vertex p, and with m added to the block at row p and column q.
unfoldable pub plus_gradient : ℕ → ℕ → Vec4 → System → System
plus_gradient n p v s = record { gradient = table n (λ i. row_plus_if (eqb p i) (get_or s.gradient i zero_row) v); rows = s.rows }

unfoldable pub plus_block : ℕ → ℕ → ℕ → Mat4 → System → System
plus_block n p q m s = record { gradient = s.gradient; rows = matrix_of n (λ i j. block_plus_if (same_pair p q i j) (block_in n s.rows i j) m) }

-- s and what is added at vertex i, in order; and at row i and column j
unfoldable pub add_gradients : Vec4 → List AtVertex → ℕ → Vec4
add_gradients s [] i = s
add_gradients s (g ∷ gs) i = add_gradients (row_plus_if (eqb g.vertex i) s g.value) gs i

unfoldable pub add_blocks : Mat4 → List AtPair → ℕ → ℕ → Mat4
add_blocks s [] i j = s
add_blocks s (b ∷ bs) i j = add_blocks (block_plus_if (same_pair b.row b.column i j) s b.block) bs i j

-- The system s with one element more.
unfoldable pub plus_element : ℕ → Element → System → System
plus_element n e s = record { gradient = table n (λ i. add_gradients (get_or s.gradient i zero_row) e.gradients i); rows = matrix_of n (λ i j. add_blocks (block_in n s.rows i j) e.blocks i j) }

-- With several more, one after the other.
unfoldable pub plus_elements : ℕ → List Element → System → System
plus_elements n [] s = s
plus_elements n (e ∷ es) s = plus_elements n es (plus_element n e s)

-- The sums over elements, one after the other.
unfoldable pub sum_energies : Float → List Element → Float
sum_energies s [] = s
sum_energies s (e ∷ es) = sum_energies (s ⊕ e.energy) es

unfoldable pub sum_gradients : Vec4 → List Element → ℕ → Vec4
sum_gradients s [] i = s
sum_gradients s (e ∷ es) i = sum_gradients (add_gradients s e.gradients i) es i

unfoldable pub sum_blocks : Mat4 → List Element → ℕ → ℕ → Mat4
sum_blocks s [] i j = s
sum_blocks s (e ∷ es) i j = sum_blocks (add_blocks s e.blocks i j) es i j

-- lines 757 to 759: every sum begins with +0
unfoldable pub assembled : ℕ → List Element → System
assembled n es = record { gradient = table n (λ i. sum_gradients zero_row es i); rows = matrix_of n (λ i j. sum_blocks zero_block es i j) }

-- c added at places 0, 5 and 10 of a block: its three diagonal entries of positions
unfoldable pub diagonal_plus : Float → Mat4 → Mat4
diagonal_plus c m =
    mat4
    (vec4 (m.c0.x ⊕ c) m.c0.y m.c0.z m.c0.w)
    (vec4 m.c1.x (m.c1.y ⊕ c) m.c1.z m.c1.w)
    (vec4 m.c2.x m.c2.y (m.c2.z ⊕ c) m.c2.w)
    m.c3

-- lines 827 to 832 with damping c, and lines 1221 to 1225 with inertia c: c on the three diagonals of every vertex
unfoldable pub with_diagonal : ℕ → Float → System → System
with_diagonal n c s = record { gradient = s.gradient; rows = matrix_of n (λ i j. changed_if (eqb i j) (diagonal_plus c) (block_in n s.rows i j)) }

-- `wdwddw_hair_system`: all stretch elements upward, then all bend elements; the damping is +0
module _ (n : ℕ) (rest staged : Shape) (stretch : Float) (bend : Vec3) where
  unfoldable pub hair_elements : List Element
  hair_elements = stretches n rest.positions staged.positions stretch ++ bends n rest staged bend

  unfoldable pub hair_energy : Float
  hair_energy = sum_energies plus_zero hair_elements

  unfoldable pub hair_system : System
  hair_system = with_diagonal n plus_zero (assembled n hair_elements)

-- Where no stiffness is below 0, the energy has the sign plus, or is NaN: the sum begins with +0.
abbrev pub EnergyHasPlus : Type 0
EnergyHasPlus = (n : ℕ) (rest staged : Shape) (stretch : Float) (bend : Vec3) → Side plus stretch → Side plus bend.x → Side plus bend.y → Side plus bend.z → Sign plus (hair_energy n rest staged stretch bend)
