-- A table of refusals. Where no row fails, all that is demanded holds, and a demand is asked for by the number of its row, not by its place in the table.
-- Of two tables one behind the other, the second counts where no row of the first fails.
use mathlib.Core.Path.{◌≡◌, refl, sym, ◌∙◌}
use mathlib.Core.Bool.{Bool, true, cond}
use mathlib.Core.List.{List, [], ◌∷◌, ◌++◌}
use mathlib.Core.Logic.{◌≢◌}
use Prim.Native.Nat.{ℕ, zero, suc, ◌≤◌}
use native.Mathlib.Omega.{arith}
use lib.Dec.{eqb, leb}
use lib.ListN.{get_or}
use borrow.Author.Tests.{leb-true}
use Rattle.matrix.specs.System.{every}
use Rattle.matrix.proofs.Cases.{by_test, by_equality}
use Rattle.matrix.proofs.Every.{and_left, and_right}
use Rattle.bench.specs.Rows.{Row, all, first, last_number, in_table}

-- ---- what the numbers of all rows have in common, the first one's has
pub first_such : (p : ℕ → Bool) → p 0 ≡ true → (rs : List Row) → every (λ (r : Row). p r.number) rs ≡ true → p (first rs) ≡ true
unfolding first every
first_such p z [] e = z
first_such p z (r ∷ rs) e =
    by_test (all r.demands) (λ m. rw m (first_such p z rs (and_right (p r.number) (every (λ (r : Row). p r.number) rs) e))) (λ m. rw m (and_left (p r.number) (every (λ (r : Row). p r.number) rs) e))

-- ---- a table that begins with r
record Passes (r : Row) (rs : List Row) : Type 0 where
  pub held : all r.demands ≡ true
  pub then : first rs ≡ 0

least : (r : Row) (rs : List Row) → every in_table (r ∷ rs) ≡ true → 1 ≤ r.number
unfolding every
least r rs e = leb-true 1 r.number (and_left (leb 1 r.number) (leb r.number last_number) (and_left (in_table r) (every in_table rs) e))

others : (r : Row) (rs : List Row) → every in_table (r ∷ rs) ≡ true → every in_table rs ≡ true
unfolding every
others r rs e = and_right (in_table r) (every in_table rs) e

passes : (r : Row) (rs : List Row) → every in_table (r ∷ rs) ≡ true → first (r ∷ rs) ≡ 0 → Passes r rs
unfolding first
passes r rs e h = by_test (all r.demands) (λ m. record { held = m; then = rw m at h }) (λ m. absurd (omega (arith, least r rs e, rw m at h)))

-- ---- what the row of number k demands
unfoldable pub demands_of : ℕ → List Row → List Bool
demands_of k [] = []
demands_of k (r ∷ rs) = cond (eqb k r.number) r.demands (demands_of k rs)

pub passed : (k : ℕ) (rs : List Row) → every in_table rs ≡ true → first rs ≡ 0 → all (demands_of k rs) ≡ true
unfolding demands_of every
passed k [] e h = refl
passed k (r ∷ rs) e h =
    let p = passes r rs e h in
    let q = passed k rs (others r rs e) p.then in
    by_test (eqb k r.number) (λ m. rw m p.held) (λ m. rw m q)

pub held_at : (l : List Bool) (i : ℕ) → all l ≡ true → get_or l i true ≡ true
unfolding every
held_at [] i e = refl
held_at (a ∷ l) zero e = and_left a (all l) e
held_at (a ∷ l) (suc i) e = held_at l i (and_right a (all l) e)

-- its demand i
pub holds : (rs : List Row) → every in_table rs ≡ true → first rs ≡ 0 → (k i : ℕ) → get_or (demands_of k rs) i true ≡ true
holds rs e h k i = held_at (demands_of k rs) i (passed k rs e h)

-- ---- two tables, one behind the other
pub first_before : (ps rs : List Row) → first ps ≢ 0 → first (ps ++ rs) ≡ first ps
unfolding first
first_before [] rs h = absurd (h refl)
first_before (p ∷ ps) rs h = by_test (all p.demands) (λ m. rw m (first_before ps rs (λ e. h (rw m e)))) (λ m. rw m)

pub first_behind : (ps rs : List Row) → every in_table ps ≡ true → first ps ≡ 0 → first (ps ++ rs) ≡ first rs
unfolding every first
first_behind [] rs e h = refl
first_behind (p ∷ ps) rs e h = let q = passes p ps e h in rw q.held (first_behind ps rs (others p ps e) q.then)

-- where no row of both together fails, none of either does
pub first_none : (ps rs : List Row) → first (ps ++ rs) ≡ 0 → first ps ≡ 0
first_none ps rs h = by_equality (first ps) 0 (λ z. z) (λ n. absurd (n (rw (first_before ps rs n) at h)))

pub second_none : (ps rs : List Row) → every in_table ps ≡ true → first (ps ++ rs) ≡ 0 → first rs ≡ 0
second_none ps rs e h = sym (first_behind ps rs e (first_none ps rs h)) ∙ h

-- ---- two tables that begin alike, and go on alike where the second row holds
pub first_alike : (p q : Row) (rs ss : List Row) → (all q.demands ≡ true → first rs ≡ first ss) → first (p ∷ q ∷ rs) ≡ first (p ∷ q ∷ ss)
unfolding first
first_alike p q rs ss h = by_test (all q.demands) (λ m. rw (m, h m)) (λ m. rw m)
