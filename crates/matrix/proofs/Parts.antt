-- Laws of tables, parts and stores, for any element type.
-- Two lists of one length are equal where their elements are, so each law is one of elements: inside what was stored they are the stored ones, outside they are the old ones.
use mathlib.Core.Path.{◌≡◌, refl, sym, ap, ◌∙◌}
use mathlib.Core.List.{List, [], ◌∷◌, ◌++◌, append_assoc}
use Prim.Native.Nat.{ℕ, zero, suc, ◌+◌, ◌≤◌, ◌<◌, suc-le-suc}
use native.Mathlib.Nat.{not-suc-le-zero, le_of_suc-le-suc}
use native.Mathlib.Omega.{arith}
use lib.ListN.{length, get_or, set, replicate, length-take, length-drop, take, drop}
use lib.Seq.{paste, get_or-take, get_or-drop, ext_get_or}
use Rattle.matrix.specs.Parts.{Apart, part, put, table}

module _ {ℓ} {A : Type ℓ} where
  -- ---- tables
  pub length_table : (n : ℕ) (f : ℕ → A) → length (table n f) ≡ n
  unfolding table
  length_table zero f = refl
  length_table (suc n) f = ap suc (length_table n (λ i. f (suc i)))

  pub table_ext : (n : ℕ) (f g : ℕ → A) → ((i : ℕ) → i < n → f i ≡ g i) → table n f ≡ table n g
  unfolding table
  table_ext zero f g h = refl
  table_ext (suc n) f g h = λ j. h zero (omega arith) j ∷ table_ext n (λ i. f (suc i)) (λ i. g (suc i)) (λ i b. h (suc i) (suc-le-suc b)) j

  -- one more at the end
  pub table_snoc : (n : ℕ) (f : ℕ → A) → table (suc n) f ≡ table n f ++ (f n ∷ [])
  unfolding table
  table_snoc zero f = refl
  table_snoc (suc n) f = ap (λ (l : List A). f zero ∷ l) (table_snoc n (λ i. f (suc i)))

  -- ---- what is read after a store
  pub length_put : (w : List A) (o : ℕ) (p : List A) → length (put w o p) ≡ length w
  unfolding put
  length_put [] o p = refl
  length_put (a ∷ w) (suc o) p = ap suc (length_put w o p)
  length_put (a ∷ w) zero [] = refl
  length_put (a ∷ w) zero (b ∷ p) = ap suc (length_put w zero p)

  pub get_or_outside : (w : List A) (o : ℕ) (p : List A) (k : ℕ) (d : A) → (o ≤ k → k < o + length p → ⊥) → get_or (put w o p) k d ≡ get_or w k d
  unfolding put
  get_or_outside [] o p k d h = refl
  get_or_outside (a ∷ w) (suc o) p zero d h = refl
  get_or_outside (a ∷ w) (suc o) p (suc k) d h = get_or_outside w o p k d (λ l m. h (omega arith) (omega arith))
  get_or_outside (a ∷ w) zero [] k d h = refl
  get_or_outside (a ∷ w) zero (b ∷ p) zero d h = absurd (h (omega arith) (omega arith))
  get_or_outside (a ∷ w) zero (b ∷ p) (suc k) d h = get_or_outside w zero p k d (λ l m. h (omega arith) (omega arith))

  -- i is the place in p, k the one in w
  read_inside : (w : List A) (o : ℕ) (p : List A) (i k : ℕ) (d : A) → k ≡ o + i → o + length p ≤ length w → i < length p → get_or (put w o p) k d ≡ get_or p i d
  unfolding put
  read_inside [] o p i k d e h b = absurd (omega arith)
  read_inside (a ∷ w) (suc o) p i zero d e h b = absurd (omega arith)
  read_inside (a ∷ w) (suc o) p i (suc k) d e h b = read_inside w o p i k d (omega arith) (omega arith) b
  read_inside (a ∷ w) zero [] i k d e h b = absurd (omega arith)
  read_inside (a ∷ w) zero (x ∷ p) zero zero d e h b = refl
  read_inside (a ∷ w) zero (x ∷ p) zero (suc k) d e h b = absurd (omega arith)
  read_inside (a ∷ w) zero (x ∷ p) (suc i) zero d e h b = absurd (omega arith)
  read_inside (a ∷ w) zero (x ∷ p) (suc i) (suc k) d e h b = read_inside w zero p i k d (omega arith) (omega arith) (omega arith)

  pub get_or_inside : (w : List A) (o : ℕ) (p : List A) (i : ℕ) (d : A) → o + length p ≤ length w → i < length p → get_or (put w o p) (o + i) d ≡ get_or p i d
  get_or_inside w o p i d h b = read_inside w o p i (o + i) d refl h b

  -- ---- stores one behind the other
  put_behind : (w : List A) (o : ℕ) (p q : List A) (k : ℕ) → k ≡ o + length p → put w o (p ++ q) ≡ put (put w o p) k q
  unfolding put
  put_behind [] o p q k e = refl
  put_behind (a ∷ w) (suc o) p q zero e = absurd (omega arith)
  put_behind (a ∷ w) (suc o) p q (suc k) e = ap (λ (l : List A). a ∷ l) (put_behind w o p q k (omega arith))
  put_behind (a ∷ w) zero [] q k e = let d : k ≡ 0 = omega arith in rw d
  put_behind (a ∷ w) zero (b ∷ p) q zero e = absurd (omega arith)
  put_behind (a ∷ w) zero (b ∷ p) q (suc k) e = ap (λ (l : List A). b ∷ l) (put_behind w zero p q k (omega arith))

  pub put_append : (w : List A) (o : ℕ) (p q : List A) → put w o (p ++ q) ≡ put (put w o p) (o + length p) q
  put_append w o p q = put_behind w o p q (o + length p) refl

  pub put_none : (w : List A) (o : ℕ) → put w o [] ≡ w
  unfolding put
  put_none [] o = refl
  put_none (a ∷ w) (suc o) = ap (λ (l : List A). a ∷ l) (put_none w o)
  put_none (a ∷ w) zero = refl

  -- as the library says it of its slices
  put_cut : (w : List A) (o k : ℕ) (p : List A) → k ≡ o + length p → k ≤ length w → put w o p ≡ take o w ++ (p ++ drop k w)
  unfolding put
  put_cut w zero k [] e h = let z : k ≡ 0 = omega arith in rw z (put_none w 0)
  put_cut [] zero k (b ∷ p) e h = absurd (omega arith)
  put_cut [] (suc o) k p e h = absurd (omega arith)
  put_cut (a ∷ w) zero zero (b ∷ p) e h = absurd (omega arith)
  put_cut (a ∷ w) zero (suc k) (b ∷ p) e h = ap (λ (l : List A). b ∷ l) (put_cut w zero k p (omega arith) (omega arith))
  put_cut (a ∷ w) (suc o) zero p e h = absurd (omega arith)
  put_cut (a ∷ w) (suc o) (suc k) p e h = ap (λ (l : List A). a ∷ l) (put_cut w o k p (omega arith) (omega arith))

  pub paste_put : (w : List A) (o n : ℕ) (s p : List A) → take n s ≡ p → length p ≡ n → o + n ≤ length w → paste w o s n ≡ put w o p
  paste_put w o n s p e l h = rw e (append_assoc (take o w) p (drop (o + n) w)) ∙ sym (put_cut w o (o + n) p (omega arith) h)

  put_one : (w : List A) (o : ℕ) (a : A) → set w o a ≡ put w o (a ∷ [])
  unfolding put
  put_one [] o a = refl
  put_one (x ∷ w) (suc o) a = ap (λ (l : List A). x ∷ l) (put_one w o a)
  put_one (x ∷ w) zero a = ap (λ (l : List A). a ∷ l) (sym (put_none w zero))

  pub put_three : (w : List A) (o : ℕ) (a b c : A) → set (set (set w o a) (o + 1) b) (o + 2) c ≡ put w o (a ∷ b ∷ c ∷ [])
  put_three w o a b c =
      rw (put_one w o a, put_one (put w o (a ∷ [])) (o + 1) b) (rw (← put_append w o (a ∷ []) (b ∷ []), put_one (put w o (a ∷ b ∷ [])) (o + 2) c) (sym (put_append w o (a ∷ b ∷ []) (c ∷ []))))

  pub put_four : (w : List A) (o : ℕ) (a b c d : A) → set (set (set (set w o a) (o + 1) b) (o + 2) c) (o + 3) d ≡ put w o (a ∷ b ∷ c ∷ d ∷ [])
  put_four w o a b c d = rw (put_three w o a b c, put_one (put w o (a ∷ b ∷ c ∷ [])) (o + 3) d) (sym (put_append w o (a ∷ b ∷ c ∷ []) (d ∷ [])))

  -- ---- parts
  pub get_or_table : (n : ℕ) (f : ℕ → A) (i : ℕ) (d : A) → i < n → get_or (table n f) i d ≡ f i
  unfolding table
  get_or_table zero f i d h = absurd (not-suc-le-zero h)
  get_or_table (suc n) f zero d h = refl
  get_or_table (suc n) f (suc i) d h = get_or_table n (λ k. f (suc k)) i d (le_of_suc-le-suc h)

  pub length_part : (w : List A) (o n : ℕ) → o + n ≤ length w → length (part w o n) ≡ n
  unfolding part
  length_part w o n h = simp (length-take, length-drop) (omega arith)

  pub get_or_part : (w : List A) (o n i : ℕ) (d : A) → i < n → get_or (part w o n) i d ≡ get_or w (o + i) d
  unfolding part
  get_or_part w o n i d h = get_or-take n (drop o w) i d h ∙ get_or-drop o w i d

  pub part_table : (d : A) (n : ℕ) (f : ℕ → A) (o m : ℕ) → o + m ≤ n → part (table n f) o m ≡ table m (λ i. f (o + i))
  part_table d n f o m h =
      let long : length (part (table n f) o m) ≡ m = length_part (table n f) o m (omega (arith, length_table n f)) in
      ext_get_or d (part (table n f) o m) (table m (λ i. f (o + i))) (long ∙ sym (length_table m _))
      (λ i b. let c : i < m = omega arith in get_or_part (table n f) o m i d c ∙ get_or_table n f (o + i) d (omega arith) ∙ sym (get_or_table m (λ k. f (o + k)) i d c))

  -- ---- parts after a store: the one that was stored, and one apart from it
  pub part_put_same : (d : A) (w : List A) (o n : ℕ) (p : List A) → length p ≡ n → o + n ≤ length w → part (put w o p) o n ≡ p
  part_put_same d w o n p e h =
      let l = length_part (put w o p) o n (omega (arith, length_put w o p)) in
      ext_get_or d (part (put w o p) o n) p (l ∙ sym e) (λ i b. get_or_part (put w o p) o n i d (omega arith) ∙ get_or_inside w o p i d (omega arith) (omega arith))

  pub part_put_apart : (d : A) (w : List A) (o : ℕ) (p : List A) (k n : ℕ) → Apart o (length p) k n → k + n ≤ length w → part (put w o p) k n ≡ part w k n
  part_put_apart d w o p k n a h =
      let l = length_part (put w o p) k n (omega (arith, length_put w o p)) in
      ext_get_or d (part (put w o p) k n) (part w k n) (l ∙ sym (length_part w k n h))
      (λ i b. let c : i < n = omega arith in get_or_part (put w o p) k n i d c ∙ get_or_outside w o p (k + i) d (λ x y. a (k + i) x y (omega arith) (omega arith)) ∙ sym (get_or_part w k n i d c))

  -- a part put back where it was, as it was and with one element changed
  pub put_part : (w : List A) (o n : ℕ) → put w o (part w o n) ≡ w
  unfolding put part
  put_part [] o n = refl
  put_part (a ∷ w) (suc o) n = ap (λ (l : List A). a ∷ l) (put_part w o n)
  put_part (a ∷ w) zero zero = refl
  put_part (a ∷ w) zero (suc n) = ap (λ (l : List A). a ∷ l) (put_part w zero n)

  put_changed : (w : List A) (o n i k : ℕ) (x : A) → k ≡ o + i → i < n → put w o (set (part w o n) i x) ≡ set w k x
  unfolding put part
  put_changed [] o n i k x e h = refl
  put_changed (a ∷ w) (suc o) n i zero x e h = absurd (omega arith)
  put_changed (a ∷ w) (suc o) n i (suc k) x e h = ap (λ (l : List A). a ∷ l) (put_changed w o n i k x (omega arith) h)
  put_changed (a ∷ w) zero zero i k x e h = absurd (omega arith)
  put_changed (a ∷ w) zero (suc n) zero zero x e h = ap (λ (l : List A). x ∷ l) (put_part w zero n)
  put_changed (a ∷ w) zero (suc n) zero (suc k) x e h = absurd (omega arith)
  put_changed (a ∷ w) zero (suc n) (suc i) zero x e h = absurd (omega arith)
  put_changed (a ∷ w) zero (suc n) (suc i) (suc k) x e h = ap (λ (l : List A). a ∷ l) (put_changed w zero n i k x (omega arith) (omega arith))

  pub put_set : (w : List A) (o n i : ℕ) (x : A) → i < n → put w o (set (part w o n) i x) ≡ set w (o + i) x
  put_set w o n i x h = put_changed w o n i (o + i) x refl h

  -- a part of a part
  pub part_part : (d : A) (w : List A) (o m i n k : ℕ) → k ≡ o + i → i + n ≤ m → o + m ≤ length w → part (part w o m) i n ≡ part w k n
  part_part d w o m i n k e h b =
      let l = length_part w o m b in
      ext_get_or d (part (part w o m) i n) (part w k n) (length_part (part w o m) i n (omega arith) ∙ sym (length_part w k n (omega arith)))
      (λ j c. let f : j < n = omega (arith, length_part (part w o m) i n (omega arith)) in let g : o + (i + j) ≡ k + j = omega arith in get_or_part (part w o m) i n j d f ∙ get_or_part w o m (i + j) d (omega arith) ∙ ap (λ (x : ℕ). get_or w x d) g ∙ sym (get_or_part w k n j d f))

  -- ---- a loop that stores one element a turn
  pub put_more : (w : List A) (o i : ℕ) (f : ℕ → A) → set (put w o (table i f)) (o + i) (f i) ≡ put w o (table (suc i) f)
  put_more w o i f =
      put_one (put w o (table i f)) (o + i) (f i)
      ∙ ap (λ (k : ℕ). put (put w o (table i f)) (o + k) (f i ∷ [])) (sym (length_table i f))
      ∙ sym (put_append w o (table i f) (f i ∷ []))
      ∙ ap (put w o) (sym (table_snoc i f))

  pub table_of : (d : A) (l : List A) → table (length l) (λ i. get_or l i d) ≡ l
  unfolding table
  table_of d [] = refl
  table_of d (a ∷ l) = ap (λ (k : List A). a ∷ k) (table_of d l)

  pub table_same : (n : ℕ) (a : A) → table n (λ _. a) ≡ replicate n a
  unfolding table
  table_same zero a = refl
  table_same (suc n) a = ap (λ (l : List A). a ∷ l) (table_same n a)
