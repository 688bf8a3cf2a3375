-- What every call on a seat is asked first, as the code tests it. A row of a table is one test, which holds where one of the row's demands does not.
-- A table that begins with the rows of the entry is refused with the entry's number, or goes on behind it.
use mathlib.Core.Path.{◌≡◌, refl, ◌∙◌}
use mathlib.Core.Bool.{Bool, true, false, not, cond, ◌&&◌, ◌||◌, and-true}
use mathlib.Core.List.{List, [], ◌∷◌, ◌++◌}
use Prim.Native.Nat.{ℕ, ◌<◌}
use lib.Dec.{eqb, ltb, leb}
use borrow.Author.Tests.{ltb-true, ltb-false, lt-leb, le-leb, eq-eqb, ne_eqb}
use Rattle.matrix.specs.System.{every}
use Rattle.matrix.proofs.Cases.{by_test, by_equality}
use Rattle.matrix.proofs.Every.{and_left}
use Rattle.bench.specs.declared.seats.Record.{Record}
use Rattle.bench.specs.Areas.{seats}
use Rattle.bench.specs.Strand.{entry_of}
use Rattle.bench.specs.Given.{good_seat, good_record}
use Rattle.bench.specs.Rows.{Row, unless, all, first, in_table}
use Rattle.bench.specs.Asks.{are_seats}
use Rattle.bench.specs.Calls.{seat_rows}
use Rattle.bench.proofs.RowLaws.{demands_of, holds, first_before, first_behind, first_none}
use Rattle.bench.proofs.GoodSeats.{seat_of}

-- ---- several demands, grouped as the code groups them
pub all_one : (a : Bool) → all (a ∷ []) ≡ a
unfolding every
all_one a = and-true a

pub all_two : (a b : Bool) → all (a ∷ b ∷ []) ≡ (a && b)
unfolding every
all_two true b = and-true b
all_two false b = refl

pub all_three : (a b c : Bool) → all (a ∷ b ∷ c ∷ []) ≡ (a && b && c)
unfolding every
all_three true b c = all_two b c
all_three false b c = refl

pub all_four : (a b c d : Bool) → all (a ∷ b ∷ c ∷ d ∷ []) ≡ (a && b && c && d)
unfolding every
all_four true b c d = all_three b c d
all_four false b c d = refl

-- ---- a row is a test, and what is behind it is tested next
one_test : (k : ℕ) (l : List Bool) (a : Bool) (rs : List Row) (m : ℕ) → all l ≡ a → first rs ≡ m → first (unless k l ∷ rs) ≡ cond (not a) k m
unfolding first
one_test k l true rs m e f = rw e f
one_test k l false rs m e f = rw e

pub test_one : (k : ℕ) (a : Bool) (rs : List Row) (m : ℕ) → first rs ≡ m → first (unless k (a ∷ []) ∷ rs) ≡ cond (not a) k m
test_one k a rs m f = one_test k (a ∷ []) a rs m (all_one a) f

pub test_two : (k : ℕ) (a b : Bool) (rs : List Row) (m : ℕ) → first rs ≡ m → first (unless k (a ∷ b ∷ []) ∷ rs) ≡ cond (not (a && b)) k m
test_two k a b rs m f = one_test k (a ∷ b ∷ []) (a && b) rs m (all_two a b) f

pub test_three : (k : ℕ) (a b c : Bool) (rs : List Row) (m : ℕ) → first rs ≡ m → first (unless k (a ∷ b ∷ c ∷ []) ∷ rs) ≡ cond (not (a && b && c)) k m
test_three k a b c rs m f = one_test k (a ∷ b ∷ c ∷ []) (a && b && c) rs m (all_three a b c) f

pub no_test : first [] ≡ 0
unfolding first
no_test = refl

not_both : (a b : Bool) → not (a && b) ≡ (not a || not b)
not_both true b = refl
not_both false b = refl

pub not_below : (a b : ℕ) → not (ltb a b) ≡ leb b a
not_below a b = by_test (ltb a b) (λ t. rw (t, lt-leb b a (ltb-true a b t))) (λ t. rw (t, le-leb b a (ltb-false a b t)))

-- ---- a table behind another one
behind : (ps rs : List Row) → every in_table ps ≡ true → first (ps ++ rs) ≡ cond (eqb (first ps) 0) (first rs) (first ps)
behind ps rs e = by_equality (first ps) 0 (λ z. rw (eq-eqb (first ps) 0 z) (first_behind ps rs e z)) (λ n. rw (ne_eqb (first ps) 0 n) (first_before ps rs n))

module _ (long : Bool) (s : ℕ) (r : Record) where
  -- ---- 1 and 2
  pub seat_tests : first (seat_rows long (s ∷ []) r) ≡ cond (not long || not (good_record r)) 1 (cond (leb seats s) 2 0)
  unfolding seat_rows every
  seat_tests = rw (← not_both long (good_record r), ← not_below s seats) (test_two 1 long (good_record r) _ _ (one_test 2 (are_seats (s ∷ []) ∷ []) (ltb s seats) [] 0 (all_one _ ∙ all_one (ltb s seats)) no_test))

  -- where neither fails: the lent areas have their lengths, there is such a seat, and what the record says of it is good
  pub record Passed : Type 0 where
    pub lengths : long ≡ true
    pub seat : s < seats
    pub good : good_seat (entry_of s r) ≡ true

  pub entry_passed : (rs : List Row) → first (seat_rows long (s ∷ []) r ++ rs) ≡ 0 → Passed
  unfolding seat_rows every demands_of
  entry_passed rs h =
      let at = holds (seat_rows long (s ∷ []) r) refl (first_none (seat_rows long (s ∷ []) r) rs h) in
      let m = ltb-true s seats (and_left (ltb s seats) true (at 2 0)) in
      record { lengths = at 1 0; seat = m; good = seat_of r (at 1 1) s m }

  pub seat_is : (rs : List Row) → first (seat_rows long (s ∷ []) r ++ rs) ≡ 0 → s < seats
  seat_is rs h = (entry_passed rs h).seat

  -- ---- 3, behind the number of the seat
  pub third_test : (a : Bool) (k : ℕ) → k ≡ first (seat_rows long (s ∷ []) r) → first (seat_rows long (s ∷ []) r ++ (unless 3 (a ∷ []) ∷ [])) ≡ cond (eqb k 0) (cond (not a) 3 0) k
  unfolding seat_rows every
  third_test a k e = rw (behind (seat_rows long (s ∷ []) r) (unless 3 (a ∷ []) ∷ []) refl, ← e, test_one 3 a [] 0 no_test)

  -- ---- a whole table, behind the number of the entry
  pub entry_then : (lent : Bool) → lent ≡ long → (x : Row) → in_table x ≡ true → (rs : List Row) (m : ℕ) → first rs ≡ m → (k : ℕ) → k ≡ first (seat_rows long (s ∷ []) r ++ (x ∷ [])) → first (seat_rows lent (s ∷ []) r ++ (x ∷ rs)) ≡ cond (eqb k 0) m k
  unfolding seat_rows every
  entry_then lent l x t rs m f k e = rw (l, behind (seat_rows long (s ∷ []) r ++ (x ∷ [])) rs (rw t), ← e, f)
