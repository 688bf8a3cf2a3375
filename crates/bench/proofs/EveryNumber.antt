-- A test that all elements of a list pass: of lists put together, of parts, and of one element.
use mathlib.Core.Path.{◌≡◌, refl, ap, ◌∙◌}
use mathlib.Core.Bool.{Bool, true, or-true}
use mathlib.Core.List.{List, [], ◌∷◌, ◌++◌}
use Prim.Native.Nat.{ℕ, zero, suc, ◌<◌}
use lib.Dec.{eqb}
use lib.ListN.{length, get_or, replicate, take, drop}
use borrow.Author.Tests.{eqb-true}
use Rattle.matrix.specs.Parts.{part}
use Rattle.matrix.specs.System.{every}
use Rattle.matrix.proofs.Cases.{by_test}
use Rattle.matrix.proofs.Every.{and_left, and_right, every_at}
use Rattle.matrix.proofs.Parts.{table_of}
use Rattle.bench.specs.Rows.{any}

module _ {A : Type 0} (t : A → Bool) where
  pub every_append : (l m : List A) → every t l ≡ true → every t m ≡ true → every t (l ++ m) ≡ true
  unfolding every
  every_append [] m p q = q
  every_append (x ∷ l) m p q = rw (and_left (t x) (every t l) p) (every_append l m (and_right (t x) (every t l) p) q)

  pub every_replicate : (n : ℕ) (x : A) → t x ≡ true → every t (replicate n x) ≡ true
  unfolding every
  every_replicate zero x e = refl
  every_replicate (suc n) x e = rw e (every_replicate n x e)

  every_drop : (o : ℕ) (l : List A) → every t l ≡ true → every t (drop o l) ≡ true
  unfolding every
  every_drop zero l e = e
  every_drop (suc o) [] e = refl
  every_drop (suc o) (x ∷ l) e = every_drop o l (and_right (t x) (every t l) e)

  every_take : (n : ℕ) (l : List A) → every t l ≡ true → every t (take n l) ≡ true
  unfolding every
  every_take zero l e = refl
  every_take (suc n) [] e = refl
  every_take (suc n) (x ∷ l) e = rw (and_left (t x) (every t l) e) (every_take n l (and_right (t x) (every t l) e))

  pub every_part : (o n : ℕ) (l : List A) → every t l ≡ true → every t (part l o n) ≡ true
  unfolding part
  every_part o n l e = every_take n (drop o l) (every_drop o l e)

  -- the element at k; x stands for those past the end
  pub every_get_or : (x : A) (l : List A) → every t l ≡ true → (k : ℕ) → k < length l → t (get_or l k x) ≡ true
  every_get_or x l h k b = every_at t (length l) (λ i. get_or l i x) (ap (every t) (table_of x l) ∙ h) k b

  -- what passes u passes t
  pub every_weaken : (u : A → Bool) → ((x : A) → u x ≡ true → t x ≡ true) → (l : List A) → every u l ≡ true → every t l ≡ true
  unfolding every
  every_weaken u h [] e = refl
  every_weaken u h (x ∷ l) e = rw (h x (and_left (u x) (every u l) e)) (every_weaken u h l (and_right (u x) (every u l) e))

-- what holds of t holds of some element of a list that t is in
pub any_of : (p : ℕ → Bool) (t : ℕ) (l : List ℕ) → p t ≡ true → any (eqb t) l ≡ true → any p l ≡ true
unfolding any
any_of p t [] h e = e
any_of p t (s ∷ l) h e = by_test (eqb t s) (λ q. rw (← eqb-true t s q, h)) (λ q. rw (any_of p t l h (rw q at e)) (or-true (p s)))
