-- A chain over the numbers from a on asks what a test of a table does, where its test of the i-th number is that of the table's entry i.
use mathlib.Core.Path.{◌≡◌, refl}
use mathlib.Core.Bool.{Bool}
use Prim.Native.Nat.{ℕ, zero, suc, ◌+◌, ◌<◌}
use native.Mathlib.Omega.{arith}
use Rattle.std.specs.List.{list_all, range_with_len}
use Rattle.matrix.specs.Parts.{table}
use Rattle.matrix.specs.System.{every}

pub every_range : {A : Type 0} (t : ℕ → Bool) (u : A → Bool) (a n : ℕ) (f : ℕ → A) → ((i k : ℕ) → i < n → k ≡ a + i → t k ≡ u (f i)) → list_all t (range_with_len a n) ≡ every u (table n f)
unfolding every table
every_range t u a zero f h = refl
every_range t u a (suc n) f h = rw (h 0 a (omega arith) (omega arith), every_range t u (a + 1) n (λ i. f (suc i)) (λ i k l e. h (suc i) k (omega arith) (omega (arith, e))))
