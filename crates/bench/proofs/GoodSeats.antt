-- A seat of a good record is empty, or its count and settings are such as load takes.
use mathlib.Core.Path.{◌≡◌}
use mathlib.Core.Bool.{true}
use mathlib.Core.List.{[], ◌∷◌}
use mathlib.Core.Logic.{◌≢◌}
use Prim.Native.Nat.{ℕ, ◌≤◌, ◌<◌}
use native.Mathlib.Omega.{arith}
use lib.Dec.{leb}
use borrow.Author.Tests.{leb-true, ne_eqb}
use Rattle.matrix.proofs.Cases.{by_equality}
use Rattle.matrix.proofs.Every.{and_left, and_right, every_at}
use Rattle.bench.specs.declared.seats.Record.{Record}
use Rattle.bench.specs.Areas.{seats}
use Rattle.bench.specs.Rows.{all}
use Rattle.bench.specs.Strand.{Entry, entry_of}
use Rattle.bench.specs.Given.{good_count, good_settings, good_seat, good_record}
use Rattle.bench.proofs.RowLaws.{held_at}

pub record Between (n : ℕ) : Type 0 where
  pub least : 2 ≤ n
  pub most : n ≤ 32

pub between : (n : ℕ) → good_count n ≡ true → Between n
between n h = record { least = leb-true 2 n (and_left (leb 2 n) (leb n 32) h); most = leb-true n 32 (and_right (leb 2 n) (leb n 32) h) }

taken_good : (e : Entry) → good_seat e ≡ true → e.count ≢ 0 → all (good_count e.count ∷ good_settings e.settings ∷ []) ≡ true
unfolding good_seat
taken_good e h n = rw (ne_eqb e.count 0 n) at h

pub taken_seat : (e : Entry) → good_seat e ≡ true → e.count ≢ 0 → Between e.count
taken_seat e h n = between e.count (held_at _ 0 (taken_good e h n))

pub taken_settings : (e : Entry) → good_seat e ≡ true → e.count ≢ 0 → good_settings e.settings ≡ true
taken_settings e h n = held_at _ 1 (taken_good e h n)

pub small_seat : (e : Entry) → good_seat e ≡ true → e.count ≤ 32
small_seat e h = by_equality e.count 0 (λ z. omega arith) (λ n. (taken_seat e h n).most)

pub seat_of : (r : Record) → good_record r ≡ true → (s : ℕ) → s < seats → good_seat (entry_of s r) ≡ true
unfolding good_record
seat_of r h s m = every_at (λ (t : ℕ). good_seat (entry_of t r)) seats (λ t. t) h s m
