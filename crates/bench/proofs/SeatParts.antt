-- Reading and writing seats' strands: what was written is read back, and the other seats' strands stay, because the parts of an area share no index.
-- A bench is good where its areas have their lengths and every seat's strand is fine; writing fine strands keeps it so.
use mathlib.Core.Path.{◌≡◌, refl, ◌∙◌}
use mathlib.Core.Bool.{true, false, cond, or-true, true≢false}
use mathlib.Core.List.{List, [], ◌∷◌}
use mathlib.Core.Logic.{◌≢◌}
use Prim.Native.Nat.{ℕ, ◌+◌, ◌*◌, ◌≤◌, ◌<◌}
use native.Mathlib.Nat.{mul-le-mul_left}
use native.Mathlib.Omega.{arith}
use lib.Dec.{eqb, leb}
use lib.ListN.{length, replicate, length-set, length-replicate, get_or-replicate}
use lib.Seq.{get_or-set_same, get_or-set_other}
use lib.Ieee.{nan, of_bits}
use borrow.Author.Tests.{eqb-true, leb-true, eq-eqb, ne_eqb}
use Rattle.bench.specs.declared.seats.Settings.{Settings}
use Rattle.std.specs.Float.{float_is_finite}
use Rattle.vectors.specs.Number.{plus_zero}
use Rattle.vectors.specs.Finite.{is_finite}
use Rattle.matrix.specs.System.{every}
use Rattle.matrix.specs.Parts.{Apart, part, put}
use Rattle.bench.specs.Areas.{seats, rest_numbers, drape_numbers, pin_bytes, rest_part, drape_part, pin_part}
use Rattle.bench.specs.Strand.{Strand, Bench, new_record, new_bench, no_settings, settings_of, setting_numbers, seat_entry, entry_of, strand_of, put_strand, Left, put_all}
use Rattle.bench.specs.Given.{good_count, good_settings, is_empty, good_seat, good_record}
use Rattle.bench.specs.Isolation.{Finite}
use Rattle.matrix.proofs.Parts.{length_part, length_put, part_put_same, part_put_apart}
use Rattle.matrix.proofs.Every.{every_all, and_right}
use Rattle.bench.proofs.EveryNumber.{every_part, every_replicate}
use Rattle.matrix.proofs.Cases.{by_order, by_equality, by_test}

-- ---- an area of six parts, each w long
within : (w s : ℕ) → s < seats → w * s + w ≤ seats * w
within w s h = omega (arith, mul-le-mul_left w h)

lower_apart : (w s t : ℕ) → s < t → Apart (w * s) w (w * t) w
lower_apart w s t h = let q = mul-le-mul_left w h in λ k a b c d. omega arith

parts_apart : (w s t : ℕ) → t ≢ s → Apart (w * s) w (w * t) w
parts_apart w s t n = by_order s t (lower_apart w s t) (λ h k a b c d. lower_apart w t s (by_equality t s (λ e. absurd (n e)) (λ e. omega arith)) k c d a b)

module _ {A : Type 0} (w : ℕ) (l : List A) (long : length l ≡ seats * w) (s : ℕ) (h : s < seats) where
  part_long : length (part l (w * s) w) ≡ w
  part_long = length_part l (w * s) w (omega (arith, within w s h))

  part_same : (d : A) (p : List A) → length p ≡ w → part (put l (w * s) p) (w * s) w ≡ p
  part_same d p e = part_put_same d l (w * s) w p e (omega (arith, within w s h))

  part_other : (d : A) (p : List A) → length p ≡ w → (t : ℕ) → t < seats → t ≢ s → part (put l (w * s) p) (w * t) w ≡ part l (w * t) w
  part_other d p e t g n = part_put_apart d l (w * s) p (w * t) w (rw e (parts_apart w s t n)) (omega (arith, within w t g))

-- ---- good benches and fine strands
pub record Long (b : Bench) : Type 0 where
  pub counts : length b.seats.counts ≡ seats
  pub settings : length b.seats.settings ≡ seats
  pub rest : length b.rest ≡ rest_numbers
  pub drape : length b.drape ≡ drape_numbers
  pub pins : length b.pins ≡ pin_bytes

-- of its fields, so that a strand which keeps them keeps the proof
pub record Taken (n : ℕ) (g : Settings) : Type 0 where
  pub count : good_count n ≡ true
  pub settings : good_settings g ≡ true

pub record Fine (x : Strand) : Type 0 where
  pub rest : length x.rest ≡ rest_part
  pub drape : length x.drape ≡ drape_part
  pub pins : length x.pins ≡ pin_part
  pub taken : is_empty x.count ≡ false → Taken x.count x.settings
  pub finite : Finite x

pub record Good (b : Bench) : Type 0 where
  pub long : Long b
  pub fine : (t : ℕ) → t < seats → Fine (strand_of t b)

pub count_small : (x : Strand) → Fine x → x.count ≤ 32
count_small x f = by_test (is_empty x.count) (λ e. omega (arith, eqb-true x.count 0 e)) (λ e. leb-true x.count 32 (and_right (leb 2 x.count) (leb x.count 32) (f.taken e).count))

good_seat_lem : (x : Strand) → Fine x → good_seat (seat_entry x.count x.settings) ≡ true
unfolding good_seat every
good_seat_lem x f = by_test (is_empty x.count) (λ e. rw e) (λ e. let t = f.taken e in rw (t.count, t.settings) (rw (or-true (is_empty x.count))))

pub good_record_lem : (b : Bench) → Good b → good_record b.seats ≡ true
unfolding good_record strand_of
good_record_lem b g = every_all (λ (t : ℕ). good_seat (entry_of t b.seats)) seats (λ t. t) (λ t h. good_seat_lem (strand_of t b) (g.fine t h))

-- ---- one strand written
module _ (b : Bench) (g : Long b) (s : ℕ) (h : s < seats) (x : Strand) (f : Fine x) where
  strand_same : strand_of s (put_strand s x b) ≡ x
  unfolding strand_of put_strand
  strand_same = λ i. record {
    count = get_or-set_same b.seats.counts s x.count 0 (rw g.counts h) i;
    settings = get_or-set_same b.seats.settings s x.settings no_settings (rw g.settings h) i;
    rest = part_same rest_part b.rest g.rest s h nan x.rest f.rest i;
    drape = part_same drape_part b.drape g.drape s h nan x.drape f.drape i;
    pins = part_same pin_part b.pins g.pins s h 0 x.pins f.pins i;
  }

  strand_other : (t : ℕ) → t < seats → t ≢ s → strand_of t (put_strand s x b) ≡ strand_of t b
  unfolding strand_of put_strand
  strand_other t k n = λ i. record {
    count = get_or-set_other b.seats.counts s t x.count 0 n i;
    settings = get_or-set_other b.seats.settings s t x.settings no_settings n i;
    rest = part_other rest_part b.rest g.rest s h nan x.rest f.rest t k n i;
    drape = part_other drape_part b.drape g.drape s h nan x.drape f.drape t k n i;
    pins = part_other pin_part b.pins g.pins s h 0 x.pins f.pins t k n i;
  }

  long_put : Long (put_strand s x b)
  unfolding put_strand
  long_put = record {
    counts = length-set b.seats.counts s x.count ∙ g.counts;
    settings = length-set b.seats.settings s x.settings ∙ g.settings;
    rest = length_put b.rest (rest_part * s) x.rest ∙ g.rest;
    drape = length_put b.drape (drape_part * s) x.drape ∙ g.drape;
    pins = length_put b.pins (pin_part * s) x.pins ∙ g.pins;
  }

  strand_put : (t : ℕ) → t < seats → strand_of t (put_strand s x b) ≡ cond (eqb t s) x (strand_of t b)
  strand_put t k = by_equality t s (λ e. rw (eq-eqb t s e, e) strand_same) (λ e. rw (ne_eqb t s e) (strand_other t k e))

good_put : (b : Bench) → Good b → (s : ℕ) → s < seats → (x : Strand) → Fine x → Good (put_strand s x b)
good_put b g s h x f = record {
  long = long_put b g.long s h x f;
  fine = λ t k. by_equality t s (λ e. rw (e, strand_same b g.long s h x f) f) (λ e. rw (strand_other b g.long s h x f t k e) (g.fine t k));
}

-- ---- several

-- the strand of seat t after these are written, where x stood
unfoldable pub left_at : ℕ → List Left → Strand → Strand
left_at t [] x = x
left_at t (l ∷ ls) x = left_at t ls (cond (eqb t l.seat) l.strand x)

pub data Sit : List Left → Type 0 where
  none : Sit []
  one : {l : Left} {ls : List Left} → l.seat < seats → Fine l.strand → Sit ls → Sit (l ∷ ls)

pub good_all : (b : Bench) → Good b → {ls : List Left} → Sit ls → Good (put_all ls b)
unfolding put_all
good_all b g none = g
good_all b g (one {l = l} h f q) = good_all (put_strand l.seat l.strand b) (good_put b g l.seat h l.strand f) q

pub strand_all : (b : Bench) → Good b → {ls : List Left} → Sit ls → (t : ℕ) → t < seats → strand_of t (put_all ls b) ≡ left_at t ls (strand_of t b)
unfolding put_all left_at
strand_all b g none t k = refl
strand_all b g (one {l = l} h f q) t k =
    rw (← strand_put b g.long l.seat h l.strand f t k) (strand_all (put_strand l.seat l.strand b) (good_put b g l.seat h l.strand f) q t k)

-- ---- the new bench
pub finite_zero : is_finite plus_zero ≡ true
unfolding float_is_finite of_bits
finite_zero = refl

pub finite_zeros : (n : ℕ) → every is_finite (replicate n plus_zero) ≡ true
finite_zeros n = every_replicate is_finite n plus_zero finite_zero

pub finite_unset : every is_finite (setting_numbers (settings_of plus_zero)) ≡ true
unfolding every
finite_unset = rw (finite_zero)

pub empty_new : (s : ℕ) → s < seats → (strand_of s new_bench).count ≡ 0
unfolding strand_of new_bench new_record
empty_new s h = get_or-replicate seats s 0 0 h

fine_new : (s : ℕ) → s < seats → Fine (strand_of s new_bench)
unfolding strand_of new_bench new_record
fine_new s h = record {
  rest = part_long rest_part (replicate rest_numbers plus_zero) (length-replicate rest_numbers plus_zero) s h;
  drape = part_long drape_part (replicate drape_numbers plus_zero) (length-replicate drape_numbers plus_zero) s h;
  pins = part_long {A = ℕ} pin_part (replicate pin_bytes 0) (length-replicate {A = ℕ} pin_bytes 0) s h;
  taken = λ e. absurd (true≢false (rw (get_or-replicate {A = ℕ} seats s 0 0 h) at e));
  finite = record {
    settings = rw (get_or-replicate seats s (settings_of plus_zero) no_settings h) finite_unset;
    rest = every_part is_finite (rest_part * s) rest_part (replicate rest_numbers plus_zero) (finite_zeros rest_numbers);
    drape = every_part is_finite (drape_part * s) drape_part (replicate drape_numbers plus_zero) (finite_zeros drape_numbers);
  };
}

pub good_new : Good new_bench
unfolding new_bench new_record
good_new = record { long = record { counts = refl; settings = refl; rest = refl; drape = refl; pins = refl }; fine = fine_new }
