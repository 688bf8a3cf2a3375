-- A test of all entries of a table, one entry more: the new one stands last, so the conjunction is regrouped.
-- All blocks stand in the area row after row, so a test of all is one of each row's.
use mathlib.Core.Path.{◌≡◌, refl, sym, ap, subst, ◌∙◌}
use mathlib.Core.Bool.{Bool, true, false, ◌&&◌, and-true, and_assoc}
use mathlib.Core.List.{List}
use Prim.Native.Nat.{ℕ, zero, suc, ◌+◌, ◌*◌, ◌<◌}
use native.Mathlib.Omega.{arith}
use native.Mathlib.Numerals.{add-one}
use lib.Dec.{T}
use lib.Ieee.{Float}
use Rattle.vectors.specs.declared.mat4.Mat4.{Mat4}
use Rattle.matrix.specs.Parts.{table}
use Rattle.matrix.specs.Rows.{block16, blocks16}
use Rattle.matrix.specs.Layout.{row_start, row_length}
use Rattle.matrix.specs.System.{every}
use Rattle.matrix.proofs.Parts.{table_ext}

every_snoc : {A : Type 0} (t : A → Bool) (n : ℕ) (f : ℕ → A) → every t (table (suc n) f) ≡ (every t (table n f) && t (f n))
unfolding every table
every_snoc t zero f = and-true (t (f zero))
every_snoc t (suc n) f = ap (λ (b : Bool). t (f zero) && b) (every_snoc t n (λ i. f (suc i))) ∙ sym (and_assoc (t (f zero)) (every t (table n (λ i. f (suc i)))) (t (f (suc n))))

pub and_left : (a b : Bool) → (a && b) ≡ true → a ≡ true
and_left true b e = refl
and_left false b e = e

pub and_right : (a b : Bool) → (a && b) ≡ true → b ≡ true
and_right true b e = e
and_right false b e = absurd (subst T (sym e) tt)

pub every_more : {A : Type 0} (t : A → Bool) (n : ℕ) (f : ℕ → A) → every t (table (n + 1) f) ≡ (every t (table n f) && t (f n))
every_more t n f = rw (add-one n) (every_snoc t n f)

-- two tables one behind the other
every_join : {A : Type 0} (t : A → Bool) (a b c : ℕ) (f g : ℕ → A) → c ≡ a + b → ((i : ℕ) → f (a + i) ≡ g i) → every t (table c f) ≡ (every t (table a f) && every t (table b g))
unfolding every table
every_join t zero b c f g e h = let d : c ≡ b = omega arith in rw d (ap (every t) (table_ext b f g (λ i l. ap f (omega arith) ∙ h i)))
every_join t (suc a) b zero f g e h = absurd (omega arith)
every_join t (suc a) b (suc c) f g e h =
    ap (λ (x : Bool). t (f zero) && x) (every_join t a b c (λ i. f (suc i)) g (omega arith) (λ i. ap f (omega arith) ∙ h i))
    ∙ sym (and_assoc (t (f zero)) (every t (table a (λ i. f (suc i)))) (every t (table b g)))

pub every_row : (t : Mat4 → Bool) (w : List Float) (n i : ℕ) → every t (blocks16 w 0 (row_start n i)) ≡ every (every t) (table i (λ k. blocks16 w (16 * row_start n k) (row_length n k)))
unfolding blocks16 row_start every table
every_row t w n zero = refl
every_row t w n (suc i) =
    every_join t (row_start n i) (row_length n i) (row_start n i + row_length n i) (λ k. block16 w (0 + 16 * k)) (λ k. block16 w (16 * row_start n i + 16 * k)) refl (λ k. ap (block16 w) (omega arith))
    ∙ ap (λ (x : Bool). x && every t (blocks16 w (16 * row_start n i) (row_length n i))) (every_row t w n i)
    ∙ sym (every_snoc (every t) i (λ k. blocks16 w (16 * row_start n k) (row_length n k)))

-- ---- a test of all entries, and of each
pub every_at : {A : Type 0} (t : A → Bool) (n : ℕ) (f : ℕ → A) → every t (table n f) ≡ true → (i : ℕ) → i < n → t (f i) ≡ true
unfolding every table
every_at t zero f e i h = absurd (omega arith)
every_at t (suc n) f e zero h = and_left (t (f zero)) (every t (table n (λ k. f (suc k)))) e
every_at t (suc n) f e (suc i) h = every_at t n (λ k. f (suc k)) (and_right (t (f zero)) (every t (table n (λ k. f (suc k)))) e) i (omega arith)

pub every_all : {A : Type 0} (t : A → Bool) (n : ℕ) (f : ℕ → A) → ((i : ℕ) → i < n → t (f i) ≡ true) → every t (table n f) ≡ true
unfolding every table
every_all t zero f h = refl
every_all t (suc n) f h = rw (h zero (omega arith)) (every_all t n (λ k. f (suc k)) (λ i b. h (suc i) (omega arith)))
