-- Pins set to work on one block after the other: a block is pinned once, so the tests of the blocks that are pinned so far add up to the test of all.
use mathlib.Core.Path.{◌≡◌, refl, sym, ap, subst, ◌∙◌}
use mathlib.Core.Bool.{Bool, true, false, ◌&&◌}
use mathlib.Core.List.{List}
use Prim.Native.Nat.{ℕ, ◌+◌, ◌-◌, ◌*◌, ◌≤◌, ◌<◌}
use native.Mathlib.Omega.{arith}
use lib.ListN.{length}
use lib.Dec.{T, eqb, ltb}
use lib.Ieee.{Float}
use borrow.Author.Tests.{eq-eqb, ne_eqb, lt-ltb, le-ltb, ltb-true, ltb-false}
use Rattle.vectors.specs.declared.mat4.Mat4.{Mat4}
use Rattle.matrix.specs.Parts.{put}
use Rattle.matrix.specs.Rows.{rows4, flat4, numbers16}
use Rattle.matrix.specs.Layout.{before, after, block_place, Near}
use Rattle.matrix.specs.SparseSquare.{matrix_rows}
use Rattle.matrix.specs.Blocks.{matrix_of, block_in}
use Rattle.matrix.specs.Area.{place_r, work_numbers, after_vectors}
use Rattle.matrix.specs.System.{System, system_at, changed_if}
use Rattle.matrix.specs.HairSystem.{same_pair}
use Rattle.matrix.specs.Pins.{block_fixed, pinned_columns, set_fix_dof_to_rhs_vector, set_fixed_bc}
use Rattle.matrix.specs.Fixed.{fixed_where, with_fixed, with_pins}
use Rattle.matrix.proofs.Parts.{length_table}
use Rattle.matrix.proofs.RowsPut.{RowsPut, rows_put, matrix_kept, after_kept}
use Rattle.matrix.proofs.RowPlaces.{before_le, after_le}
use Rattle.matrix.proofs.Cases.{by_test, by_order, by_equality}
use Rattle.matrix.proofs.Columns.{reaches_back, reaches_on}
use Rattle.matrix.proofs.BlockLaws.{matrix_ext, block_in_lem, block_at, matrix_at}
use Rattle.matrix.proofs.SystemLaws.{pair_true, block_changed, block_changed_after}

-- ---- one block
abbrev pinned : List ℕ → ℕ → ℕ → Mat4 → Mat4
pinned pins p q = block_fixed pins p q (pinned_columns (eqb p q))

module _ (n p q : ℕ) (pins : List ℕ) (w v : List Float) (h : (2 ≤ n) × (n ≤ 32)) (long : length w ≡ work_numbers) (near : Near n p q) (e : v ≡ put w (16 * block_place n p q) (numbers16 (pinned pins p q (block_at n w p q)))) where
  pub block_fixed_lem : system_at n v ≡ fixed_where n pins (same_pair p q) (system_at n w)
  unfolding fixed_where changed_if
  block_fixed_lem = block_changed n p q (pinned pins p q) w v h long near e ∙ ap (λ (r : List (List Mat4)). record { gradient = (system_at n w).gradient; rows = r }) (matrix_ext n _ _ each)
    where
      each : (i j : ℕ) → Near n i j → changed_if (same_pair p q i j) (pinned pins p q) (block_in n (system_at n w).rows i j) ≡ changed_if (same_pair p q i j) (pinned pins i j) (block_in n (system_at n w).rows i j)
      each i j mear = by_test (same_pair p q i j) (λ t. let d = pair_true p q i j t in rw (d.0, d.1)) (λ t. rw t)

  pub block_fixed_after : after_vectors v ≡ after_vectors w
  block_fixed_after = block_changed_after n p q (pinned pins p q) w v h long near e

-- ---- several blocks
-- Three tests of one pair: v holds where u or t does, and u and t never both.
pub record Adds (t u v : Bool) : Type 0 where
  pub old : u ≡ true → (t ≡ false) × (v ≡ true)
  pub new : u ≡ false → v ≡ t

module _ (n : ℕ) (pins : List ℕ) where
  pub fixed_none : (w : List Float) (t : ℕ → ℕ → Bool) → ((i j : ℕ) → Near n i j → t i j ≡ false) → system_at n w ≡ fixed_where n pins t (system_at n w)
  unfolding system_at fixed_where changed_if
  fixed_none w t h = ap (λ (r : List (List Mat4)). record { gradient = rows4 w place_r n; rows = r }) (matrix_at n w ∙ matrix_ext n _ _ each)
    where
      each : (i j : ℕ) → Near n i j → block_at n w i j ≡ changed_if (t i j) (pinned pins i j) (block_in n (matrix_rows w n) i j)
      each i j near = rw (h i j near, matrix_at n w) (sym (block_in_lem n (block_at n w) near))

  pub fixed_more : (t u v : ℕ → ℕ → Bool) (s : System) → ((i j : ℕ) → Near n i j → Adds (t i j) (u i j) (v i j)) → fixed_where n pins t (fixed_where n pins u s) ≡ fixed_where n pins v s
  unfolding fixed_where changed_if
  fixed_more t u v s h = ap (λ (r : List (List Mat4)). record { gradient = s.gradient; rows = r }) (matrix_ext n _ _ each)
    where
      each : (i j : ℕ) → Near n i j → changed_if (t i j) (pinned pins i j) (block_in n (matrix_of n (λ p q. changed_if (u p q) (pinned pins p q) (block_in n s.rows p q))) i j) ≡ changed_if (v i j) (pinned pins i j) (block_in n s.rows i j)
      each i j near =
          rw (block_in_lem n (λ p q. changed_if (u p q) (pinned pins p q) (block_in n s.rows p q)) near)
          (by_test (u i j) (λ a. let d = (h i j near).old a in rw (a, d.0, d.1)) (λ a. rw (a, (h i j near).new a)))

  pub fixed_ext : (t u : ℕ → ℕ → Bool) (s : System) → ((i j : ℕ) → Near n i j → t i j ≡ u i j) → fixed_where n pins t s ≡ fixed_where n pins u s
  unfolding fixed_where
  fixed_ext t u s h = ap (λ (r : List (List Mat4)). record { gradient = s.gradient; rows = r }) (matrix_ext n _ _ (λ i j near. ap (λ (b : Bool). changed_if b (pinned pins i j) (block_in n s.rows i j)) (h i j near)))

  pub fixed_all : (t : ℕ → ℕ → Bool) (s : System) → ((i j : ℕ) → Near n i j → t i j ≡ true) → fixed_where n pins t s ≡ with_fixed n pins s
  unfolding fixed_where changed_if with_fixed set_fixed_bc
  fixed_all t s h = ap (λ (r : List (List Mat4)). record { gradient = s.gradient; rows = r }) (matrix_ext n _ _ (λ i j near. rw (h i j near)))

-- v is the area w with those blocks pinned that pass the test t: what a loop over blocks keeps
pub record Fixed (n : ℕ) (pins : List ℕ) (t : ℕ → ℕ → Bool) (w v : List Float) : Type 0 where
  pub long : length v ≡ length w
  pub system : system_at n v ≡ fixed_where n pins t (system_at n w)
  pub staged : after_vectors v ≡ after_vectors w

pub fixed_first : (n : ℕ) (pins : List ℕ) (t : ℕ → ℕ → Bool) (w : List Float) → ((i j : ℕ) → Near n i j → t i j ≡ false) → Fixed n pins t w w
fixed_first n pins t w h = record { long = refl; system = fixed_none n pins w t h; staged = refl }

pub fixed_next : {n : ℕ} {pins : List ℕ} {w v x : List Float} (t u r : ℕ → ℕ → Bool) → Fixed n pins u w v → length x ≡ length v → (system_at n x ≡ fixed_where n pins t (system_at n v)) × (after_vectors x ≡ after_vectors v) → ((i j : ℕ) → Near n i j → Adds (t i j) (u i j) (r i j)) → Fixed n pins r w x
fixed_next {n} {pins} {w} {v} {x} t u r f l e h = record {
  long = l ∙ f.long;
  system = e.0 ∙ ap (fixed_where n pins t) f.system ∙ fixed_more n pins t u r (system_at n w) h;
  staged = e.1 ∙ f.staged;
}

-- ---- the columns of row k, those before column e so far
abbrev pub columns_before : ℕ → ℕ → ℕ → ℕ → Bool
columns_before k e i j = eqb k i && ltb j e

module _ (n k : ℕ) (b : k < n) where
  pub column_inside : (e : ℕ) → k - before k ≤ e → e < k + after n k + 1 → Near n k e
  column_inside e l m = record { row = b; column = omega (arith, after_le n k b); low = omega (arith, before_le k); high = omega (arith, after_le n k b) }

  pub no_column : (i j : ℕ) → Near n i j → columns_before k (k - before k) i j ≡ false
  no_column i j near =
      by_equality k i
      (λ e. rw (eq-eqb k i e) (le-ltb j (k - before k) (by_order j k (λ l. omega (arith, reaches_back k j l (omega (arith, near.low)))) (λ l. omega arith))))
      (λ e. rw (ne_eqb k i e))

  pub every_column : (i j : ℕ) → Near n i j → columns_before k (k + after n k + 1) i j ≡ eqb k i
  every_column i j near =
      by_equality k i
      (λ e. rw (eq-eqb k i e) (lt-ltb j (k + after n k + 1) (by_order k j (λ l. omega (arith, reaches_on n k j l near.column (omega (arith, near.high)))) (λ l. omega arith))))
      (λ e. rw (ne_eqb k i e))

-- ---- one number more, and one column of row k more
pub number_adds : (k i : ℕ) → Adds (eqb k i) (ltb i k) (ltb i (k + 1))
number_adds k i = record {
  old = λ u. let l = ltb-true i k u in (ne_eqb k i (λ a. omega arith), lt-ltb i (k + 1) (omega arith));
  new = λ u. let l = ltb-false i k u in by_order k i (λ m. rw (ne_eqb k i (λ a. omega arith)) (le-ltb i (k + 1) (omega arith))) (λ m. rw (eq-eqb k i (omega arith)) (lt-ltb i (k + 1) (omega arith)));
}

pub column_adds : (k e i j : ℕ) → Adds (same_pair k e i j) (columns_before k e i j) (columns_before k (e + 1) i j)
column_adds k e i j =
    by_equality k i
    (λ a. rw (eq-eqb k i a) (number_adds e j))
    (λ a. rw (ne_eqb k i a) (record { old = λ x. absurd (subst T (sym x) tt); new = λ x. refl }))

-- ---- the right-hand side
module _ (n : ℕ) (pins : List ℕ) (w v : List Float) (h : (2 ≤ n) × (n ≤ 32)) (long : length w ≡ work_numbers) (e : v ≡ put w place_r (flat4 (set_fix_dof_to_rhs_vector n pins (rows4 w place_r n)))) where
  long_fixed : length (set_fix_dof_to_rhs_vector n pins (rows4 w place_r n)) ≡ n
  unfolding set_fix_dof_to_rhs_vector
  long_fixed = length_table n _

  there : RowsPut w v place_r n (set_fix_dof_to_rhs_vector n pins (rows4 w place_r n))
  there = rows_put w v place_r n _ e long_fixed (omega arith)

  pub right_fixed : with_fixed n pins (system_at n v) ≡ with_pins n pins (system_at n w)
  unfolding with_fixed with_pins system_at
  right_fixed = rw (there.there, matrix_kept there.stored n (omega arith) h.0 h.1)

  pub right_fixed_after : after_vectors v ≡ after_vectors w
  right_fixed_after = after_kept there.stored (omega arith)
