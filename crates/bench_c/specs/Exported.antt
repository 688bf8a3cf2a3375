-- What crosses to C in place of an enum or of a part of an area: a pick, a step's answer and the place of a look, as numbers.
use Rattle.std.specs.Prelude.{cond, List, ℕ, zero, suc, ◌*◌, ltb, get_or, Float}
use Rattle.vectors.specs.declared.vec3.Vec3.{Vec3}
use Rattle.bench.specs.declared.answers.Pick.{Pick}
use Rattle.bench.specs.declared.answers.Pick.TheVariants.{Nothing, At}
use Rattle.bench.specs.declared.look.Place as shown
use Rattle.bench.specs.Strand.{Bench}
use Rattle.bench.specs.Answers.{Answer, numbers_told}
use Rattle.bench.specs.Asks.{look, call}
use Rattle.bench.specs.Calls.{number_of}
use Rattle.bench.specs.Looks.{begins_at}
use Rattle.bench_c.specs.declared.Report.{Report}
use Rattle.bench_c.specs.declared.Place.{Place}

-- "A step may carry a pick (vertex, goal)": none where the flag is 0.
abbrev pub pick_of : ℕ → ℕ → Vec3 → Pick
pick_of zero v goal = Nothing
pick_of (suc b) v goal = At v goal

-- An answer in document 01's numbers.
abbrev pub report_of : Answer → Report
report_of a = let n = numbers_told a in record { number = n.number; energy = n.energy; count = n.count; ratio = n.ratio }

-- "that part of the rest area or of the drape area itself": the area that a kind chooses.
abbrev pub looked_at : ℕ → List Float → List Float → List Float
looked_at kind rest drape = cond (ltb kind 2) rest drape

-- The place of a look, without the area, which its kind chooses.
abbrev pub placed : shown.Place → Place
placed p = record { at = p.at; count = p.count }

-- "3n numbers, or an empty part when refused"; k is what the look is refused with
abbrev pub place_by : ℕ → ℕ → ℕ → ℕ → Place
place_by zero s kind n = record { at = begins_at s kind; count = 3 * n }
place_by (suc k) s kind n = record { at = 0; count = 0 }

-- The place of what a look hands back.
abbrev pub place_of : ℕ → ℕ → Bench → Place
place_of s kind b = place_by (number_of (call s (look kind)) b) s kind (get_or b.seats.counts s 0)
