-- Vectors of three and rows of four in a flat list: the laws of any width under the names of these two, and those of rows of four alone.
use mathlib.Core.Path.{◌≡◌, refl, ap}
use mathlib.Core.List.{List, [], ◌∷◌, ◌++◌, zip_with}
use Prim.Native.Nat.{ℕ, zero, suc, ◌+◌, ◌*◌, ◌≤◌}
use native.Mathlib.Numerals.{add-one}
use native.Mathlib.Omega.{arith}
use lib.ListN.{length, replicate}
use lib.Ieee.{Float}
use Rattle.vectors.specs.Number.{◌⊕◌, plus_zero}
use Rattle.vectors.specs.Vec4.{vec4_dot}
use Rattle.vectors.specs.declared.vec3.Vec3.{Vec3}
use Rattle.vectors.specs.declared.vec4.Vec4.{Vec4}
use Rattle.elements.specs.Darboux.{zero_vec3}
use Rattle.matrix.specs.Parts.{Apart, part, put, table}
use Rattle.matrix.specs.Rows.{rows3, flat3, numbers4, flat4}
use Rattle.matrix.specs.SliceOfArray.{zero_rows, dot_from}
use Rattle.matrix.proofs.Parts.{length_table, put_append}
use Rattle.matrix.proofs.Widths.{length_flat, StoredAs, PutAs, put_as, rows_apart, flat_rows}
pub use Rattle.matrix.proofs.RowWidths.{three, four}
pub use Rattle.matrix.proofs.Widths.{stored_none, stored_more, stored_same, unstored, stored_all}

-- ---- vectors of three
abbrev pub Stored3 : List Float → List Float → ℕ → (ℕ → Vec3) → ℕ → Type 0
Stored3 = StoredAs three

abbrev pub Rows3Put : List Float → List Float → ℕ → ℕ → List Vec3 → Type 0
Rows3Put = PutAs three zero_vec3

pub rows3_put : (w v : List Float) (o n : ℕ) (x : List Vec3) → v ≡ put w o (flat3 x) → length x ≡ n → o + 3 * n ≤ length w → Rows3Put w v o n x
rows3_put = put_as three zero_vec3

pub flat_rows3 : (w : List Float) (o n : ℕ) → o + 3 * n ≤ length w → flat3 (rows3 w o n) ≡ part w o (3 * n)
flat_rows3 w o n h = flat_rows three w o n h

pub rows3_apart : (w : List Float) (o : ℕ) (p : List Float) (k n : ℕ) → Apart o (length p) k (3 * n) → rows3 (put w o p) k n ≡ rows3 w k n
rows3_apart = rows_apart three

pub length_flat3 : (vs : List Vec3) → length (flat3 vs) ≡ 3 * length vs
length_flat3 = length_flat three

-- ---- rows of four
abbrev pub Stored : List Float → List Float → ℕ → (ℕ → Vec4) → ℕ → Type 0
Stored = StoredAs four

pub length_zeros : (n : ℕ) → length (zero_rows n) ≡ n
unfolding zero_rows
length_zeros n = length_table n _

pub flat_zeros : (n : ℕ) → flat4 (zero_rows n) ≡ replicate (4 * n) plus_zero
unfolding zero_rows table flat4 numbers4
flat_zeros zero = refl
flat_zeros (suc n) = let e : 4 * suc n ≡ suc (suc (suc (suc (4 * n)))) = omega arith in rw e (ap (λ (l : List Float). plus_zero ∷ plus_zero ∷ plus_zero ∷ plus_zero ∷ l) (flat_zeros n))

-- four rows stored one behind the other
pub put_rows : (w : List Float) {w₁ w₂ w₃ w₄ : List Float} (o : ℕ) (a b c d : Vec4) → w₁ ≡ put w o (numbers4 a) → w₂ ≡ put w₁ (o + 4) (numbers4 b) → w₃ ≡ put w₂ (o + 8) (numbers4 c) → w₄ ≡ put w₃ (o + 12) (numbers4 d)
    → w₄ ≡ put w o (flat4 (a ∷ b ∷ c ∷ d ∷ []))
unfolding flat4 numbers4
put_rows w o a b c d e₁ e₂ e₃ e₄ =
    rw (e₄, e₃, e₂, e₁, ← put_append w o (numbers4 a) (numbers4 b), ← put_append w o (numbers4 a ++ numbers4 b) (numbers4 c), ← put_append w o (numbers4 a ++ numbers4 b ++ numbers4 c) (numbers4 d))

-- ---- tables under the operations on vectors
pub zip_tables : (g : Vec4 → Vec4 → Vec4) (n : ℕ) (a b : ℕ → Vec4) → zip_with g (table n a) (table n b) ≡ table n (λ i. g (a i) (b i))
unfolding table zip_with
zip_tables g zero a b = refl
zip_tables g (suc n) a b = ap (λ (l : List Vec4). g (a zero) (b zero) ∷ l) (zip_tables g n (λ i. a (suc i)) (λ i. b (suc i)))

-- one row more of a sum
pub dot_more : (s : Float) (n : ℕ) (a b : ℕ → Vec4) → dot_from s (table (n + 1) a) (table (n + 1) b) ≡ dot_from s (table n a) (table n b) ⊕ vec4_dot (a n) (b n)
unfolding dot_from table
dot_more s zero a b = refl
dot_more s (suc n) a b = rw (add-one (suc n)) (rw (add-one n) at (dot_more (s ⊕ vec4_dot (a zero) (b zero)) n (λ i. a (suc i)) (λ i. b (suc i))))
