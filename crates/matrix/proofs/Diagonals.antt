-- A number added to the diagonal block of one vertex after the other: after k turns the first k have it, and after all turns every diagonal block.
use mathlib.Core.Path.{◌≡◌, refl, sym, subst, ◌∙◌}
use mathlib.Core.Bool.{Bool, true, false, cond, ◌&&◌}
use mathlib.Core.List.{List}
use Prim.Native.Nat.{ℕ, ◌+◌, ◌*◌, ◌≤◌, ◌<◌}
use native.Mathlib.Omega.{arith}
use lib.ListN.{length}
use lib.Dec.{T, eqb, ltb}
use lib.Ieee.{Float}
use borrow.Author.Tests.{eq-eqb, lt-ltb, le-ltb, eqb-true}
use Rattle.vectors.specs.declared.mat4.Mat4.{Mat4}
use Rattle.matrix.specs.Parts.{put}
use Rattle.matrix.specs.Rows.{row4, rows4, numbers16}
use Rattle.matrix.specs.Layout.{block_place, Near}
use Rattle.matrix.specs.SparseSquare.{matrix_rows}
use Rattle.matrix.specs.Blocks.{block_in}
use Rattle.matrix.specs.Area.{place_r, work_numbers, after_vectors}
use Rattle.matrix.specs.System.{system_at, changed_if}
use Rattle.matrix.specs.HairSystem.{same_pair, diagonal_plus, with_diagonal}
use Rattle.matrix.proofs.Cases.{by_test, by_order}
use Rattle.matrix.proofs.BlockLaws.{block_in_lem, block_at, matrix_at, Holds, holds_system, holds_ext, holds_block, block_after}
use Rattle.matrix.proofs.SystemLaws.{as_held, pair_true}

-- the blocks of the area w, with c on the first k diagonal ones
abbrev with_first : ℕ → List Float → Float → ℕ → ℕ → ℕ → Mat4
with_first n w c k i j = changed_if (eqb i j && ltb i k) (diagonal_plus c) (block_at n w i j)

pub record Loaded (n : ℕ) (w : List Float) (c : Float) (k : ℕ) (v : List Float) : Type 0 where
  pub holds : Holds n v (λ i. row4 w (place_r + 4 * i)) (with_first n w c k)
  pub after : after_vectors v ≡ after_vectors w
  pub long : length v ≡ work_numbers

and_false : (t : Bool) → (t && false) ≡ false
and_false true = refl
and_false false = refl

pub loaded_none : (n : ℕ) (w : List Float) (c : Float) → length w ≡ work_numbers → Loaded n w c 0 w
unfolding changed_if
loaded_none n w c h = record {
  holds = holds_ext _ (with_first n w c 0) (as_held n w) (λ i l. refl) (λ i j near. rw (le-ltb i 0 (omega arith), and_false (eqb i j)));
  after = refl;
  long = h;
}

module _ {n : ℕ} {w : List Float} {c : Float} {k : ℕ} {v : List Float} (g : Loaded n w c k v) (h : (2 ≤ n) × (n ≤ 32)) (b : k < n) where
  own : Near n k k
  own = record { row = b; column = b; low = omega arith; high = omega arith }

  -- the block that is read has nothing added yet
  old : block_at n v k k ≡ block_at n w k k
  unfolding changed_if
  old = g.holds.block k k own ∙ rw (le-ltb k k (omega arith), and_false (eqb k k))

  each : (i j : ℕ) → Near n i j → cond (same_pair k k i j) (diagonal_plus c (block_at n v k k)) (with_first n w c k i j) ≡ with_first n w c (k + 1) i j
  unfolding changed_if
  each i j near = by_test (same_pair k k i j) here other
    where
      here : same_pair k k i j ≡ true → cond (same_pair k k i j) (diagonal_plus c (block_at n v k k)) (with_first n w c k i j) ≡ with_first n w c (k + 1) i j
      here t = let d = pair_true k k i j t in rw (t, ← d.0, ← d.1, old, eq-eqb k k refl, lt-ltb k (k + 1) (omega arith))

      other : same_pair k k i j ≡ false → cond (same_pair k k i j) (diagonal_plus c (block_at n v k k)) (with_first n w c k i j) ≡ with_first n w c (k + 1) i j
      other t = rw t (by_test (eqb i j) (λ e. differ e) (λ e. rw e))
        where
          differ : eqb i j ≡ true → with_first n w c k i j ≡ with_first n w c (k + 1) i j
          differ e =
              by_order i k
              (λ x. rw (lt-ltb i k x, lt-ltb i (k + 1) (omega arith)))
              (λ x. by_order k i
              (λ y. rw (le-ltb i k x, le-ltb i (k + 1) (omega arith)))
              (λ y. absurd (none (omega arith))))
            where
              none : k ≡ i → ⊥
              none d = let f = eqb-true i j e in let a : same_pair k k i j ≡ true = rw (eq-eqb k i d, eq-eqb k j (d ∙ f)) in subst T (sym (sym t ∙ a)) tt

  pub loaded_more : (u : List Float) → u ≡ put v (16 * block_place n k k) (numbers16 (diagonal_plus c (block_at n v k k))) → length u ≡ work_numbers → Loaded n w c (k + 1) u
  loaded_more u e l = record {
    holds = holds_ext _ (with_first n w c (k + 1)) (holds_block n k k (diagonal_plus c (block_at n v k k)) v u h g.long own e g.holds) (λ i x. refl) each;
    after = block_after n k k (diagonal_plus c (block_at n v k k)) v u h g.long own e ∙ g.after;
    long = l;
  }

pub loaded_all : {n : ℕ} {w : List Float} {c : Float} {k : ℕ} {v : List Float} → Loaded n w c k v → k ≡ n → system_at n v ≡ with_diagonal n c (system_at n w)
unfolding system_at with_diagonal rows4
loaded_all {n} {w} {c} {k} {v} g e = holds_system (holds_ext (λ i. row4 w (place_r + 4 * i)) (λ i j. changed_if (eqb i j) (diagonal_plus c) (block_in n (matrix_rows w n) i j)) g.holds (λ i l. refl) all)
  where
    and_true : (t : Bool) → (t && true) ≡ t
    and_true true = refl
    and_true false = refl

    all : (i j : ℕ) → Near n i j → with_first n w c k i j ≡ changed_if (eqb i j) (diagonal_plus c) (block_in n (matrix_rows w n) i j)
    all i j near = rw (matrix_at n w, block_in_lem n (block_at n w) near, lt-ltb i k (rw e near.row), and_true (eqb i j))
