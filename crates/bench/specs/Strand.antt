-- One seat's data, and the whole bench: document 01, "The areas" and "Bench".
use Rattle.std.specs.Prelude.{List, [], ◌∷◌, ℕ, ◌*◌, get_or, set, replicate, Float}
use Rattle.std.specs.Float.{nan}
use Rattle.vectors.specs.Number.{plus_zero}
use Rattle.matrix.specs.Parts.{part, put}
use Rattle.bench.specs.declared.seats.Settings.{Settings}
use Rattle.bench.specs.declared.seats.Record.{Record}
use Rattle.bench.specs.Areas.{seats, rest_numbers, drape_numbers, pin_bytes, rest_part, drape_part, pin_part}

-- "A seat's strand is its count and settings in the record and its whole parts of rest, drape, working copy included, and pins."
pub record Strand : Type 0 where
  -- the number of its vertices, 0 where the seat is empty
  pub count : ℕ
  pub settings : Settings
  -- positions, then frames, as they are at rest
  pub rest : List Float
  -- positions, frames, velocities and working copy
  pub drape : List Float
  -- four bytes a vertex: its three position components, then its twist
  pub pins : List ℕ

abbrev pub strand : ℕ → Settings → List Float → List Float → List ℕ → Strand
strand n g rest drape pins = record { count = n; settings = g; rest = rest; drape = drape; pins = pins }

-- The strand with another drape, and with other pins.
abbrev pub with_drape : Strand → List Float → Strand
with_drape t d = strand t.count t.settings t.rest d t.pins

abbrev pub with_pin_bytes : Strand → List ℕ → Strand
with_pin_bytes t p = strand t.count t.settings t.rest t.drape p

-- The record and the three areas that live on between calls.
pub record Bench : Type 0 where
  pub seats : Record
  pub rest : List Float
  pub drape : List Float
  pub pins : List ℕ

abbrev pub bench_of : Record → List Float → List Float → List ℕ → Bench
bench_of r rest drape pins = record { seats = r; rest = rest; drape = drape; pins = pins }

-- The settings with these stiffnesses, against stretch and the three against bend and twist, and this ratio.
abbrev pub settings_by : Float → Float → Float → Float → Float → Settings
settings_by k a b c r = record { stiff_length = k; stiff_bendtwist0 = a; stiff_bendtwist1 = b; stiff_bendtwist2 = c; conv_ratio = r }

-- All of them x.
abbrev pub settings_of : Float → Settings
settings_of x = settings_by x x x x x

-- The numbers of the settings, one after the other: what is asked of all of them is asked once.
abbrev pub setting_numbers : Settings → List Float
setting_numbers g = g.stiff_length ∷ g.stiff_bendtwist0 ∷ g.stiff_bendtwist1 ∷ g.stiff_bendtwist2 ∷ g.conv_ratio ∷ []

-- "A new bench is all zero."
unfoldable pub new_record : Record
new_record = record { counts = replicate seats 0; settings = replicate seats (settings_of plus_zero) }

unfoldable pub new_bench : Bench
new_bench = record { seats = new_record; rest = replicate rest_numbers plus_zero; drape = replicate drape_numbers plus_zero; pins = replicate pin_bytes 0 }

-- What is read of a record's list past its end.
abbrev pub no_settings : Settings
no_settings = settings_of nan

-- What the record says of one seat.
pub record Entry : Type 0 where
  pub count : ℕ
  pub settings : Settings

abbrev pub seat_entry : ℕ → Settings → Entry
seat_entry n g = record { count = n; settings = g }

abbrev pub entry_of : ℕ → Record → Entry
entry_of s r = seat_entry (get_or r.counts s 0) (get_or r.settings s no_settings)

-- The strand of seat s, and the bench with x for the strand of seat s.
unfoldable pub strand_of : ℕ → Bench → Strand
strand_of s b = record {
  count = get_or b.seats.counts s 0;
  settings = get_or b.seats.settings s no_settings;
  rest = part b.rest (rest_part * s) rest_part;
  drape = part b.drape (drape_part * s) drape_part;
  pins = part b.pins (pin_part * s) pin_part;
}

unfoldable pub put_strand : ℕ → Strand → Bench → Bench
put_strand s x b = record {
  seats = record { counts = set b.seats.counts s x.count; settings = set b.seats.settings s x.settings };
  rest = put b.rest (rest_part * s) x.rest;
  drape = put b.drape (drape_part * s) x.drape;
  pins = put b.pins (pin_part * s) x.pins;
}

-- A strand that is written on a seat.
pub record Left : Type 0 where
  pub seat : ℕ
  pub strand : Strand

abbrev pub left : ℕ → Strand → Left
left s x = record { seat = s; strand = x }

-- Each of these on seat s.
abbrev pub on_seat : ℕ → List Strand → List Left
on_seat s [] = []
on_seat s (x ∷ xs) = left s x ∷ on_seat s xs

-- Several, written one after the other.
unfoldable pub put_all : List Left → Bench → Bench
put_all [] b = b
put_all (l ∷ ls) b = put_all ls (put_strand l.seat l.strand b)
