-- One addition to the system in the area, and many: adding an element's parts one after the other is adding the element, and the elements added so far make the system of so many elements.
-- A block of the result is known where its pair is, so each law is one of blocks.
use mathlib.Core.Path.{◌≡◌, refl, sym, ap, subst, ◌∙◌}
use mathlib.Core.Bool.{true, cond}
use mathlib.Core.List.{List, [], ◌∷◌, ◌++◌}
use Prim.Native.Nat.{ℕ, ◌+◌, ◌*◌, ◌≤◌, ◌<◌}
use native.Mathlib.Numerals.{add-one}
use lib.ListN.{length, get_or}
use lib.Dec.{T, eqb}
use lib.Ieee.{Float}
use borrow.Author.Tests.{eqb-true}
use Rattle.vectors.specs.Number.{◌⊕◌, plus_zero}
use Rattle.vectors.specs.Vec4.{vec4_from_vec3}
use Rattle.vectors.specs.Mat4.{mat4_from_mat3}
use Rattle.vectors.specs.declared.vec4.Vec4.{Vec4}
use Rattle.vectors.specs.declared.mat4.Mat4.{Mat4}
use Rattle.matrix.specs.Parts.{put, table}
use Rattle.matrix.specs.Rows.{zero_row, zero_block, row4, rows4, numbers4, numbers16}
use Rattle.matrix.specs.Layout.{block_place, Near}
use Rattle.matrix.specs.SparseSquare.{matrix_rows}
use Rattle.matrix.specs.Blocks.{matrix_of, block_in}
use Rattle.matrix.specs.Area.{place_r, work_numbers, after_vectors}
use Rattle.matrix.specs.System.{System, system_at, changed_if}
use Rattle.elements.specs.declared.spring3.Stretch.{Stretch}
use Rattle.elements.specs.declared.rod3_darboux.bend.BendRow.{BendRow}
use Rattle.elements.specs.declared.rod3_darboux.bend.Bend.{Bend}
use Rattle.matrix.specs.HairSystem.{stretch_element, bend_element, AtVertex, AtPair, Element, same_pair, row_plus_if, block_plus_if, plus_gradient, plus_block, add_gradients, add_blocks, plus_element, plus_elements, sum_energies, sum_gradients, sum_blocks, assembled}
use Rattle.matrix.proofs.Parts.{table_ext, table_snoc, get_or_table}
use Rattle.matrix.proofs.Products.{row_at_lem}
use Rattle.matrix.proofs.Cases.{by_test}
use Rattle.matrix.proofs.BlockLaws.{matrix_ext, block_in_lem, block_at, matrix_at, Holds, holds_system, holds_ext, holds_block, block_after, holds_row, row_after}

-- ---- one addition
pub as_held : (n : ℕ) (w : List Float) → Holds n w (λ i. row4 w (place_r + 4 * i)) (block_at n w)
as_held n w = record { gradient = λ i h. refl; block = λ i j near. refl }

-- both halves of a test for a pair
pub pair_true : (p q i j : ℕ) → same_pair p q i j ≡ true → (p ≡ i) × (q ≡ j)
pair_true p q i j e = by_test (eqb p i) (λ a. (eqb-true p i a, eqb-true q j (rw a at e))) (λ a. absurd (subst T (sym (rw a at e)) tt))

module _ (n p q : ℕ) (f : Mat4 → Mat4) (w v : List Float) (h : (2 ≤ n) × (n ≤ 32)) (long : length w ≡ work_numbers) (near : Near n p q) (e : v ≡ put w (16 * block_place n p q) (numbers16 (f (block_at n w p q)))) where
  pub block_changed : system_at n v ≡ record { gradient = (system_at n w).gradient; rows = matrix_of n (λ i j. changed_if (same_pair p q i j) f (block_in n (system_at n w).rows i j)) }
  unfolding system_at rows4 changed_if
  block_changed = holds_system (holds_ext (λ i. row4 w (place_r + 4 * i)) _ (holds_block n p q (f (block_at n w p q)) w v h long near e (as_held n w)) (λ i l. refl) each)
    where
      each : (i j : ℕ) → Near n i j → cond (same_pair p q i j) (f (block_at n w p q)) (block_at n w i j) ≡ changed_if (same_pair p q i j) f (block_in n (matrix_rows w n) i j)
      each i j mear =
          rw (matrix_at n w, block_in_lem n (block_at n w) mear)
          (by_test (same_pair p q i j) (λ t. let d = pair_true p q i j t in rw (t, d.0, d.1)) (λ t. rw t))

  pub block_changed_after : after_vectors v ≡ after_vectors w
  block_changed_after = block_after n p q (f (block_at n w p q)) w v h long near e

module _ (n p : ℕ) (f : Vec4 → Vec4) (w v : List Float) (h : (2 ≤ n) × (n ≤ 32)) (long : length w ≡ work_numbers) (b : p < n) (e : v ≡ put w (place_r + 4 * p) (numbers4 (f (row4 w (place_r + 4 * p))))) where
  pub row_changed : system_at n v ≡ record { gradient = table n (λ i. changed_if (eqb p i) f (get_or (system_at n w).gradient i zero_row)); rows = (system_at n w).rows }
  unfolding system_at changed_if
  row_changed = holds_system (holds_ext _ (block_at n w) (holds_row n p _ w v h long b e (as_held n w)) each (λ i j near. refl)) ∙ rw (matrix_at n w)
    where
      each : (i : ℕ) → i < n → cond (eqb p i) (f (row4 w (place_r + 4 * p))) (row4 w (place_r + 4 * i)) ≡ changed_if (eqb p i) f (get_or (rows4 w place_r n) i zero_row)
      each i l =
          rw (row_at_lem zero_row w place_r n i (place_r + 4 * i) l refl)
          (by_test (eqb p i) (λ t. let d = eqb-true p i t in rw (t, d)) (λ t. rw t))

  pub row_changed_after : after_vectors v ≡ after_vectors w
  row_changed_after = row_after n p (f (row4 w (place_r + 4 * p))) w v h long b e

-- ---- an element is its parts, one after the other
abbrev rows_plus : ℕ → AtPair → List (List Mat4) → List (List Mat4)
rows_plus n b rows = matrix_of n (λ i j. block_plus_if (same_pair b.row b.column i j) (block_in n rows i j) b.block)

unfoldable fold_rows : ℕ → List (List Mat4) → List AtPair → List (List Mat4)
fold_rows n rows [] = rows
fold_rows n rows (b ∷ bs) = fold_rows n (rows_plus n b rows) bs

fold_rows_lem : (n : ℕ) (f : ℕ → ℕ → Mat4) (bs : List AtPair) → fold_rows n (matrix_of n f) bs ≡ matrix_of n (λ i j. add_blocks (f i j) bs i j)
unfolding add_blocks matrix_of fold_rows
fold_rows_lem n f [] = refl
fold_rows_lem n f (b ∷ bs) =
    ap (λ (r : List (List Mat4)). fold_rows n r bs) (matrix_ext n _ _ (λ i j near. ap (λ (m : Mat4). block_plus_if (same_pair b.row b.column i j) m b.block) (block_in_lem n f near)))
    ∙ fold_rows_lem n (λ i j. block_plus_if (same_pair b.row b.column i j) (f i j) b.block) bs

abbrev gradients_plus : ℕ → AtVertex → List Vec4 → List Vec4
gradients_plus n v g = table n (λ i. row_plus_if (eqb v.vertex i) (get_or g i zero_row) v.value)

unfoldable fold_gradients : ℕ → List Vec4 → List AtVertex → List Vec4
fold_gradients n g [] = g
fold_gradients n g (v ∷ vs) = fold_gradients n (gradients_plus n v g) vs

fold_gradients_lem : (n : ℕ) (f : ℕ → Vec4) (vs : List AtVertex) → fold_gradients n (table n f) vs ≡ table n (λ i. add_gradients (f i) vs i)
unfolding add_gradients table fold_gradients
fold_gradients_lem n f [] = refl
fold_gradients_lem n f (v ∷ vs) =
    ap (λ (g : List Vec4). fold_gradients n g vs) (table_ext n _ _ (λ i b. ap (λ (x : Vec4). row_plus_if (eqb v.vertex i) x v.value) (get_or_table n f i zero_row b)))
    ∙ fold_gradients_lem n (λ i. row_plus_if (eqb v.vertex i) (f i) v.value) vs

parts_added : (n : ℕ) (s : System) (energy : Float) (v : AtVertex) (vs : List AtVertex) (b : AtPair) (bs : List AtPair)
    → record { gradient = fold_gradients n s.gradient (v ∷ vs); rows = fold_rows n s.rows (b ∷ bs) } ≡ plus_element n (record { energy = energy; gradients = v ∷ vs; blocks = b ∷ bs }) s
unfolding plus_element add_gradients add_blocks fold_gradients fold_rows
parts_added n s energy v vs b bs =
    rw (
      fold_gradients_lem n (λ i. row_plus_if (eqb v.vertex i) (get_or s.gradient i zero_row) v.value) vs,
      fold_rows_lem n (λ i j. block_plus_if (same_pair b.row b.column i j) (block_in n s.rows i j) b.block) bs,
    )

-- as the rows of an element's blocks are added
abbrev stretch_row : ℕ → ℕ → ℕ → Vec4 → Mat4 → Mat4 → System → System
stretch_row n i k g b0 b1 s = plus_block n i (k + 1) b1 (plus_block n i k b0 (plus_gradient n i g s))

pub stretch_added : (n k : ℕ) (e : Stretch) (s : System)
    → stretch_row n (k + 1) k (vec4_from_vec3 e.dw1 plus_zero) (mat4_from_mat3 e.other plus_zero) (mat4_from_mat3 e.same plus_zero) (stretch_row n k k (vec4_from_vec3 e.dw0 plus_zero) (mat4_from_mat3 e.same plus_zero) (mat4_from_mat3 e.other plus_zero) s)
    ≡ plus_element n (stretch_element k e) s
unfolding plus_gradient plus_block stretch_element fold_rows fold_gradients
stretch_added n k e s = parts_added n s e.w _ _ _ _

abbrev bend_row : ℕ → ℕ → ℕ → Vec4 → BendRow → System → System
bend_row n i k g r s = plus_block n i (k + 2) r.b2 (plus_block n i (k + 1) r.b1 (plus_block n i k r.b0 (plus_gradient n i g s)))

pub bend_added : (n k : ℕ) (e : Bend) (s : System) → bend_row n (k + 2) k e.dw2 e.row2 (bend_row n (k + 1) k e.dw1 e.row1 (bend_row n k k e.dw0 e.row0 s)) ≡ plus_element n (bend_element k e) s
unfolding plus_gradient plus_block bend_element fold_rows fold_gradients
bend_added n k e s = parts_added n s e.w _ _ _ _

-- ---- one element more
elements_more : (n : ℕ) (es : List Element) (e : Element) (s : System) → plus_elements n (es ++ (e ∷ [])) s ≡ plus_element n e (plus_elements n es s)
unfolding plus_elements
elements_more n [] e s = refl
elements_more n (d ∷ es) e s = elements_more n es e (plus_element n d s)

energies_more : (w : Float) (es : List Element) (e : Element) → sum_energies w (es ++ (e ∷ [])) ≡ sum_energies w es ⊕ e.energy
unfolding sum_energies
energies_more w [] e = refl
energies_more w (d ∷ es) e = energies_more (w ⊕ d.energy) es e

-- a loop that adds the elements el 0, el 1, ..: v is the area w and sum the energy e after i turns
pub record Gathered (n : ℕ) (w : List Float) (e : Float) (el : ℕ → Element) (i : ℕ) (v : List Float) (sum : Float) : Type 0 where
  pub energy : sum ≡ sum_energies e (table i el)
  pub system : system_at n v ≡ plus_elements n (table i el) (system_at n w)
  pub after : after_vectors v ≡ after_vectors w
  pub long : length v ≡ work_numbers

pub gathered_none : (n : ℕ) (w : List Float) (e : Float) (el : ℕ → Element) → length w ≡ work_numbers → Gathered n w e el 0 w e
unfolding table sum_energies plus_elements
gathered_none n w e el h = record { energy = refl; system = refl; after = refl; long = h }

pub gathered_more : {n : ℕ} {w : List Float} {e : Float} {el : ℕ → Element} {i : ℕ} {v u : List Float} {sum : Float} (x : Element) → Gathered n w e el i v sum → x ≡ el i → system_at n u ≡ plus_element n x (system_at n v) → after_vectors u ≡ after_vectors v → length u ≡ work_numbers → Gathered n w e el (i + 1) u (sum ⊕ x.energy)
gathered_more {n} {w} {e} {el} {i} x g q s a l = record {
  energy = rw (add-one i, table_snoc i el, energies_more e (table i el) (el i), q, g.energy);
  system = rw (s, g.system, q, add-one i, table_snoc i el, elements_more n (table i el) (el i) (system_at n w));
  after = a ∙ g.after;
  long = l;
}

-- ---- all elements, from the system of none
element_added : (n : ℕ) (g : ℕ → Vec4) (f : ℕ → ℕ → Mat4) (e : Element)
    → plus_element n e (record { gradient = table n g; rows = matrix_of n f }) ≡ record { gradient = table n (λ i. add_gradients (g i) e.gradients i); rows = matrix_of n (λ i j. add_blocks (f i j) e.blocks i j) }
unfolding plus_element
element_added n g f e =
    rw (
      table_ext n (λ i. add_gradients (get_or (table n g) i zero_row) e.gradients i) (λ i. add_gradients (g i) e.gradients i) (λ i b. ap (λ (x : Vec4). add_gradients x e.gradients i) (get_or_table n g i zero_row b)),
      matrix_ext n (λ i j. add_blocks (block_in n (matrix_of n f) i j) e.blocks i j) (λ i j. add_blocks (f i j) e.blocks i j) (λ i j near. ap (λ (m : Mat4). add_blocks m e.blocks i j) (block_in_lem n f near)),
    )

elements_added : (n : ℕ) (g : ℕ → Vec4) (f : ℕ → ℕ → Mat4) (es : List Element)
    → plus_elements n es (record { gradient = table n g; rows = matrix_of n f }) ≡ record { gradient = table n (λ i. sum_gradients (g i) es i); rows = matrix_of n (λ i j. sum_blocks (f i j) es i j) }
unfolding plus_elements sum_gradients sum_blocks
elements_added n g f [] = refl
elements_added n g f (e ∷ es) = ap (plus_elements n es) (element_added n g f e) ∙ elements_added n (λ i. add_gradients (g i) e.gradients i) (λ i j. add_blocks (f i j) e.blocks i j) es

elements_join : (n : ℕ) (es ds : List Element) (s : System) → plus_elements n (es ++ ds) s ≡ plus_elements n ds (plus_elements n es s)
unfolding plus_elements
elements_join n [] ds s = refl
elements_join n (e ∷ es) ds s = elements_join n es ds (plus_element n e s)

pub assembled_join : (n : ℕ) (es ds : List Element) → plus_elements n ds (plus_elements n es (assembled n [])) ≡ assembled n (es ++ ds)
unfolding assembled sum_gradients sum_blocks
assembled_join n es ds = sym (elements_join n es ds (assembled n [])) ∙ elements_added n (λ i. zero_row) (λ i j. zero_block) (es ++ ds)

pub energies_join : (w : Float) (es ds : List Element) → sum_energies (sum_energies w es) ds ≡ sum_energies w (es ++ ds)
unfolding sum_energies
energies_join w [] ds = refl
energies_join w (e ∷ es) ds = energies_join (w ⊕ e.energy) es ds
