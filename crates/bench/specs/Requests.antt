-- What is asked of one seat: when it is refused, what it answers, and the strand that it leaves. Document 01, "The areas", "Bench" and "When the bench declines".
use Rattle.std.specs.Prelude.{not, cond, List, [], ◌∷◌, ◌++◌, ℕ, ◌+◌, ◌-◌, ◌*◌, eqb, ltb, length, set, replicate, Float}
use Rattle.vectors.specs.Number.{plus_zero}
use Rattle.vectors.specs.Finite.{is_finite}
use Rattle.matrix.specs.Parts.{part}
use Rattle.matrix.specs.Rows.{rows3}
use Rattle.matrix.specs.System.{every}
use Rattle.bench.specs.declared.answers.Pick.{Pick}
use Rattle.bench.specs.declared.answers.StepAnswer.TheVariants.{Accepted}
use Rattle.bench.specs.Areas.{rest_part, drape_part, pin_part, vector_part}
use Rattle.bench.specs.Strand.{Strand, with_drape, with_pin_bytes, settings_of}
use Rattle.bench.specs.Given.{good_count, good_settings, is_empty, edges_fit}
use Rattle.bench.specs.Rows.{Row, unless}
use Rattle.bench.specs.Answers.{Answer, said, handed, reported}
use Rattle.bench.specs.Step.{Time, pick_fits, goal_fits, time_fits, Update, update_of}
use Rattle.bench.specs.Asks.{Load, Request, load, unload, pin, look, companion, step}

-- ---- the strands that are left

-- l, and zeros up to the numbers of 32 vertices: "every entry past n become 0"
unfoldable pub padded : List Float → List Float
padded l = l ++ replicate (vector_part - length l) plus_zero

-- "Load writes the whole of the seat's parts: rest from its two lists, drape positions, drape frames and working copy from rest; velocities, pins and every entry past n become 0." Nothing stays of t, which stood there.
unfoldable pub loaded_on : Load → Strand → Strand
loaded_on g t = record {
  count = g.count;
  settings = g.settings;
  rest = padded g.positions ++ padded g.frames;
  drape = padded g.positions ++ (padded g.frames ++ (replicate vector_part plus_zero ++ padded g.positions));
  pins = replicate pin_part 0;
}

-- "Unload zeroes the seat." Nothing stays of t.
unfoldable pub emptied : Strand → Strand
emptied t = record { count = 0; settings = settings_of plus_zero; rest = replicate rest_part plus_zero; drape = replicate drape_part plus_zero; pins = replicate pin_part 0 }

-- "Pin writes one pin byte and nothing else."
unfoldable pub pinned_on : ℕ → ℕ → ℕ → Strand → Strand
pinned_on v c x t = with_pin_bytes t (set t.pins (4 * v + c) x)

-- "Look, with kind 0 rest positions, 1 rest frames, 2 drape positions, 3 drape frames, 4 velocities, hands back that part .., 3n numbers"
unfoldable pub shown_of : ℕ → Strand → List Float
shown_of kind t = cond (ltb kind 2) (part t.rest (vector_part * kind) (3 * t.count)) (part t.drape (vector_part * (kind - 2)) (3 * t.count))

-- ---- what comes of a request

-- What comes of a request or a call: A is a strand, or one with its seat.
pub record Case (A : Type 0) : Type 0 where
  -- it is refused with the number of the first of these that fails
  pub rows : List Row
  -- else it answers this
  pub answer : Answer
  -- and writes these
  pub leaves : List A

-- The case with these rows, this answer, and this written.
abbrev pub comes : {A : Type 0} → List Row → Answer → List A → Case A
comes rs a l = record { rows = rs; answer = a; leaves = l }

-- "load on a taken seat, any other call on an empty one"; n is the seat's count
abbrev pub vacant : ℕ → Row
vacant n = unless 3 (is_empty n ∷ [])

abbrev pub taken : ℕ → Row
taken n = unless 3 (not (is_empty n) ∷ [])

-- What is asked of a step of t before it begins.
abbrev pub asked_rows : Strand → Pick → Time → List Row
asked_rows t p d = taken t.count ∷ unless 5 (pick_fits t.count p ∷ []) ∷ unless 6 (goal_fits p ∷ time_fits d ∷ []) ∷ []

-- 4 "n outside 2 to 32, or a load list not 3n long"; 5 "vertex at or above n, component above 3, look kind above 4"; 6 "a given number not finite, stiffness or ratio below 0, dt not above 0"; 7 "some edge's computed squared length not finite or not above 0".
-- A request to a seat where t stands: it sees that strand, and no seat number. A step's rows from 7 on are in its update.
unfoldable pub case_at : Request → Strand → Case Strand
case_at (load g) t =
    comes
    (vacant t.count
    ∷ unless 4 (good_count g.count ∷ eqb (length g.positions) (3 * g.count) ∷ eqb (length g.frames) (3 * g.count) ∷ [])
    ∷ unless 6 (every is_finite g.positions ∷ every is_finite g.frames ∷ good_settings g.settings ∷ [])
    ∷ unless 7 (edges_fit g.count (rows3 g.positions 0 g.count) ∷ [])
    ∷ [])
    (said 0)
    (loaded_on g t ∷ [])
case_at unload t = comes (taken t.count ∷ []) (said 0) (emptied t ∷ [])
case_at (pin v c x) t = comes (taken t.count ∷ unless 5 (ltb v t.count ∷ ltb c 4 ∷ []) ∷ []) (said 0) (pinned_on v c x t ∷ [])
case_at (look k) t = comes (taken t.count ∷ unless 5 (ltb k 5 ∷ []) ∷ []) (handed (shown_of k t)) []
case_at (companion k) t = comes (taken t.count ∷ unless 5 (ltb k 5 ∷ []) ∷ []) (said 0) []
case_at (step p d) t =
    let u : Update = update_of t p d in
    comes (asked_rows t p d ++ u.rows) (reported (Accepted u.energy u.ratio u.count)) (with_drape t u.drape ∷ [])
