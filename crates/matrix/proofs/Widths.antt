-- Rows of one width in a flat list, for any width: a loop that stores row f i at o + wide * i has stored the first rows of a table, and reads the old rows elsewhere; rows that were stored are read back.
-- A row is known by its numbers, so each law is one of single numbers after a store.
use mathlib.Core.Path.{◌≡◌, refl, sym, ap, ◌∙◌}
use mathlib.Core.List.{List, [], ◌∷◌, ◌++◌, append-nil, append_assoc}
use Prim.Native.Nat.{ℕ, zero, suc, ◌+◌, ◌-◌, ◌*◌, ◌≤◌, ◌<◌}
use native.Mathlib.Numerals.{add-one}
use native.Mathlib.Omega.{arith}
use lib.ListN.{length, get_or, length-append}
use lib.Seq.{get_or-append-add}
use lib.Ieee.{Float, nan}
use Rattle.matrix.specs.Parts.{Apart, part, put, table}
use Rattle.matrix.proofs.Parts.{length_table, table_ext, table_snoc, table_of, get_or_table, length_put, get_or_part, get_or_outside, get_or_inside, put_append, put_none, put_part, part_put_same}

-- how an A stands in a list, as so many numbers
-- Not laws of the trait Row, which has three of these fields: it would ask them of blocks, too, and no proof needs those
pub record Width (A : Type 0) : Type 0 where
  pub wide : ℕ
  pub numbers : A → List Float
  pub flat : List A → List Float
  pub row : List Float → ℕ → A
  pub rows : List Float → ℕ → ℕ → List A
  pub length_numbers : (v : A) → length (numbers v) ≡ wide
  pub flat_none : flat [] ≡ []
  pub flat_cons : (v : A) (vs : List A) → flat (v ∷ vs) ≡ numbers v ++ flat vs
  pub row_first : (v : A) (l : List Float) → row (numbers v ++ l) 0 ≡ v
  pub rows_table : (l : List Float) (o n : ℕ) → rows l o n ≡ table n (λ i. row l (o + wide * i))
  pub numbers_row : (l : List Float) (o : ℕ) → o + wide ≤ length l → numbers (row l o) ≡ part l o wide
  pub row_same : (w v : List Float) (a b : ℕ) → ((i j : ℕ) → a ≤ i → i < a + wide → i + b ≡ j + a → get_or w i nan ≡ get_or v j nan) → row w a ≡ row v b

-- row i of n ends before the end
within : (i n k : ℕ) → i < n → k * i + k ≤ k * n
within i n k h = let e : i + 1 + (n - (i + 1)) ≡ n = omega arith in rw e at (room (n - (i + 1)))
  where
    room : (d : ℕ) → k * i + k ≤ k * (i + 1 + d)
    room d = omega arith

-- ---- rows as numbers
module _ {A : Type 0} (t : Width A) where
  flat_snoc : (vs : List A) (v : A) → t.flat (vs ++ (v ∷ [])) ≡ t.flat vs ++ t.numbers v
  flat_snoc [] v = rw (t.flat_cons v [], t.flat_none) (append-nil (t.numbers v))
  flat_snoc (u ∷ vs) v = rw (t.flat_cons u (vs ++ (v ∷ [])), t.flat_cons u vs, flat_snoc vs v) (sym (append_assoc (t.numbers u) (t.flat vs) (t.numbers v)))

  pub length_flat : (vs : List A) → length (t.flat vs) ≡ t.wide * length vs
  length_flat [] = rw t.flat_none (omega arith)
  length_flat (v ∷ vs) = rw (t.flat_cons v vs) (length-append (t.numbers v) (t.flat vs) ∙ omega (arith, t.length_numbers v, length_flat vs))

  pub length_flat_table : (n : ℕ) (f : ℕ → A) → length (t.flat (table n f)) ≡ t.wide * n
  length_flat_table n f = length_flat (table n f) ∙ ap (λ (k : ℕ). t.wide * k) (length_table n f)

  flat_row : (d : A) (x : List A) (i k : ℕ) → i < length x → k ≡ t.wide * i → t.row (t.flat x) k ≡ get_or x i d
  flat_row d [] i k h e = absurd (omega arith)
  flat_row d (v ∷ x) zero k h e = let z : k ≡ 0 = omega arith in rw (z, t.flat_cons v x) (t.row_first v (t.flat x))
  flat_row d (v ∷ x) (suc i) k h e =
      rw (t.flat_cons v x) (t.row_same (t.numbers v ++ t.flat x) (t.flat x) k (t.wide * i) (λ p q a b c. let d : p ≡ length (t.numbers v) + q = omega (arith, t.length_numbers v) in rw d (get_or-append-add (t.numbers v) (t.flat x) q nan)))
      ∙ flat_row d x i (t.wide * i) (omega arith) refl

  -- a row put back where it was
  pub put_row : (l : List Float) (o : ℕ) → o + t.wide ≤ length l → put l o (t.numbers (t.row l o)) ≡ l
  put_row l o h = rw (t.numbers_row l o h) (put_part l o t.wide)

  pub row_of : (d : A) (l : List Float) (o n i k : ℕ) → i < n → k ≡ o + t.wide * i → get_or (t.rows l o n) i d ≡ t.row l k
  row_of d l o n i k h e = rw (t.rows_table l o n, e) (get_or_table n (λ j. t.row l (o + t.wide * j)) i d h)

-- ---- a loop that stores rows: v is w after i turns
pub record StoredAs {A : Type 0} (t : Width A) (w v : List Float) (o : ℕ) (f : ℕ → A) (i : ℕ) : Type 0 where
  pub is : v ≡ put w o (t.flat (table i f))
  pub long : length v ≡ length w

module _ {A : Type 0} {t : Width A} where
  pub stored_none : (w : List Float) (o : ℕ) (f : ℕ → A) → StoredAs t w w o f 0
  unfolding table
  stored_none w o f = record { is = rw t.flat_none (sym (put_none w o)); long = refl }

  pub stored_more : {w v u : List Float} {o : ℕ} {f : ℕ → A} {i : ℕ} {r : A} → StoredAs t w v o f i → u ≡ put v (o + t.wide * i) (t.numbers r) → r ≡ f i → StoredAs t w u o f (i + 1)
  stored_more {w} {v} {u} {o} {f} {i} {r} s e q = record {
    is = rw (e, s.is, q, add-one i, table_snoc i f, flat_snoc t (table i f) (f i)) (ap (λ (k : ℕ). put (put w o (t.flat (table i f))) (o + k) (t.numbers (f i))) (sym (length_flat_table t i f)) ∙ sym (put_append w o (t.flat (table i f)) (t.numbers (f i))));
    long = rw e (length_put v (o + t.wide * i) (t.numbers r) ∙ s.long);
  }

  -- a number apart from the rows stored so far
  pub number_unstored : {w v : List Float} {o : ℕ} {f : ℕ → A} {i : ℕ} → StoredAs t w v o f i → (j : ℕ) → (o ≤ j → j < o + t.wide * i → ⊥) → get_or v j nan ≡ get_or w j nan
  number_unstored {w} {v} {o} {f} {i} s j h = rw s.is (get_or_outside w o (t.flat (table i f)) j nan (λ l m. h l (omega (arith, length_flat_table t i f))))

  -- a row apart from them, of another width and of theirs
  pub unstored_as : {B : Type 0} (s : Width B) {w v : List Float} {o : ℕ} {f : ℕ → A} {i : ℕ} → StoredAs t w v o f i → (k : ℕ) → ((j : ℕ) → k ≤ j → j < k + s.wide → o ≤ j → j < o + t.wide * i → ⊥) → s.row v k ≡ s.row w k
  unstored_as s {w} {v} p k h = s.row_same v w k k (λ a b x y e. let d : b ≡ a = omega arith in rw d (number_unstored p a (h a x y)))

  pub unstored : {w v : List Float} {o : ℕ} {f : ℕ → A} {i : ℕ} → StoredAs t w v o f i → (k : ℕ) → ((j : ℕ) → k ≤ j → j < k + t.wide → o ≤ j → j < o + t.wide * i → ⊥) → t.row v k ≡ t.row w k
  unstored p k h = unstored_as t p k h

  -- a row that is to stay counts as stored
  pub stored_same : {w v : List Float} {o : ℕ} {f : ℕ → A} {i : ℕ} → StoredAs t w v o f i → o + t.wide * i + t.wide ≤ length w → f i ≡ t.row w (o + t.wide * i) → StoredAs t w v o f (i + 1)
  stored_same {w} {v} {o} {f} {i} s h q = stored_more s (sym (put_row t v (o + t.wide * i) (omega (arith, s.long)))) (unstored s (o + t.wide * i) (λ j a b x y. omega arith) ∙ sym q)

  pub stored_all : {w v : List Float} {o : ℕ} {f : ℕ → A} {i n : ℕ} → StoredAs t w v o f i → i ≡ n → v ≡ put w o (t.flat (table n f))
  stored_all s e = rw (← e) s.is

-- ---- rows stored at once: x, of n rows, was stored in w from o on, which made v; d is read past the end of x
pub record PutAs {A : Type 0} (t : Width A) (d : A) (w v : List Float) (o n : ℕ) (x : List A) : Type 0 where
  pub stored : StoredAs t w v o (λ i. get_or x i d) n
  pub there : t.rows v o n ≡ x

module _ {A : Type 0} (t : Width A) where
  pub put_as : (d : A) (w v : List Float) (o n : ℕ) (x : List A) → v ≡ put w o (t.flat x) → length x ≡ n → o + t.wide * n ≤ length w → PutAs t d w v o n x
  put_as d w v o n x e l room = record {
    stored = record { is = e ∙ ap (λ (y : List A). put w o (t.flat y)) (sym whole); long = rw e (length_put w o (t.flat x)) };
    there = t.rows_table v o n ∙ table_ext n (λ i. t.row v (o + t.wide * i)) (λ i. get_or x i d) (λ i h. row_there i h ∙ flat_row t d x i (t.wide * i) (omega arith) refl) ∙ whole;
  }
    where
      whole : table n (λ i. get_or x i d) ≡ x
      whole = rw (← l) (table_of d x)

      full : length (t.flat x) ≡ t.wide * n
      full = length_flat t x ∙ ap (λ (k : ℕ). t.wide * k) l

      row_there : (i : ℕ) → i < n → t.row v (o + t.wide * i) ≡ t.row (t.flat x) (t.wide * i)
      row_there i h =
          t.row_same v (t.flat x) (o + t.wide * i) (t.wide * i)
          (λ p q a b c. let m : p ≡ o + q = omega arith in rw (m, e) (get_or_inside w o (t.flat x) q nan (omega (arith, full)) (omega (arith, full, within i n t.wide h))))

  -- what is read apart from any store
  pub rows_apart : (w : List Float) (o : ℕ) (p : List Float) (k n : ℕ) → Apart o (length p) k (t.wide * n) → t.rows (put w o p) k n ≡ t.rows w k n
  rows_apart w o p k n h =
      t.rows_table (put w o p) k n
      ∙ table_ext n _ _ (λ i b. t.row_same (put w o p) w (k + t.wide * i) (k + t.wide * i) (λ a c x y e. let d : c ≡ a = omega arith in rw d (get_or_outside w o p a nan (λ l m. h a l m (omega arith) (omega (arith, within i n t.wide b))))))
      ∙ sym (t.rows_table w k n)

  -- what is read in a part
  pub rows_in_part : (w : List Float) (o m n : ℕ) → t.wide * n ≤ m → t.rows (part w o m) 0 n ≡ t.rows w o n
  rows_in_part w o m n h =
      t.rows_table (part w o m) 0 n
      ∙ table_ext n _ _ (λ i b. t.row_same (part w o m) w (0 + t.wide * i) (o + t.wide * i) (λ a c x y e. let d : c ≡ o + a = omega arith in rw d (get_or_part w o m a nan (omega (arith, within i n t.wide b)))))
      ∙ sym (t.rows_table w o n)

  pub rows_unstored_as : {B : Type 0} {s : Width B} {w v : List Float} {o : ℕ} {f : ℕ → B} {i : ℕ} → StoredAs s w v o f i → (k n : ℕ) → Apart k (t.wide * n) o (s.wide * i) → t.rows v k n ≡ t.rows w k n
  rows_unstored_as {B} {s} {w} {v} {o} {f} {i} p k n h = rw p.is (rows_apart w o (s.flat (table i f)) k n (λ j a b c d. h j c d a (omega (arith, length_flat_table s i f))))

  -- rows that are put back where they were
  all_stay : (w : List Float) (o n : ℕ) → o + t.wide * n ≤ length w → StoredAs t w w o (λ i. t.row w (o + t.wide * i)) n
  all_stay w o zero h = stored_none w o _
  all_stay w o (suc n) h = rw (← add-one n) (stored_same (all_stay w o n (omega arith)) (omega arith) refl)

  pub flat_rows : (w : List Float) (o n : ℕ) → o + t.wide * n ≤ length w → t.flat (t.rows w o n) ≡ part w o (t.wide * n)
  flat_rows w o n h =
      rw (t.rows_table w o n)
      (sym (part_put_same nan w o (t.wide * n) (t.flat (table n (λ i. t.row w (o + t.wide * i)))) (length_flat_table t n (λ i. t.row w (o + t.wide * i))) h)
      ∙ ap (λ (l : List Float). part l o (t.wide * n)) (sym (all_stay w o n h).is))
