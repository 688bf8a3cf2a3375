-- Document 01's checked examples P1 to P10, as one table, and what two of them tell of a pin. Numbers are given and told by their bits, so that a zero's sign is seen.
use Rattle.std.specs.Prelude.{◌≡◌, true, false, List, [], ◌∷◌, map, ℕ, replicate, Float}
use Rattle.std.specs.Float.{binary64}
use Rattle.std.specs.Float.Ieee.{to_bits}
use Rattle.roots.specs.Sqrt.{sqrt_of}
use Rattle.vectors.specs.Number.{plus_zero}
use Rattle.vectors.specs.Samples.{vec3_numbers}
use Rattle.vectors.specs.declared.vec3.Vec3.{Vec3}
use Rattle.elements.specs.Spring3.{wdwddw_squared_length_difference}
use Rattle.elements.specs.Darboux.{darboux_rod}
use Rattle.elements.specs.Written.{number, v3, rod_of, stretch_numbers}
use Rattle.matrix.specs.Area.{work_numbers}
use Rattle.matrix.specs.HairSystem.{vec3_at}
use Rattle.bench.specs.declared.answers.Pick.TheVariants.{At}
use Rattle.bench.specs.declared.seats.Settings.{Settings}
use Rattle.bench.specs.Strand.{settings_by, new_bench, strand_of}
use Rattle.bench.specs.Step.{still, positions_in}
use Rattle.bench.specs.Answers.{Answer, said, handed, reported, step_numbers}
use Rattle.bench.specs.Asks.{load_of, load, pin, step, Call, call_with, call}
use Rattle.bench.specs.Runs.{Run, run}
use Rattle.bench.specs.PinStory.{history, empty, laid, story}

abbrev pub bits : List Float → List ℕ
bits l = map (to_bits binary64) l

-- ---- the bits of the numbers that the examples name

abbrev pub one : ℕ
one = 0x3FF0_0000_0000_0000

abbrev pub two : ℕ
two = 0x4000_0000_0000_0000

abbrev pub four : ℕ
four = 0x4010_0000_0000_0000

abbrev pub half : ℕ
half = 0x3FE0_0000_0000_0000

abbrev pub minus_zero : ℕ
minus_zero = 0x8000_0000_0000_0000

abbrev pub minus_one : ℕ
minus_one = 0xBFF0_0000_0000_0000

-- ---- the bench's: "n = 2, positions (0,0,0),(1,0,0), frames (0,1,0), stiffness 0, ratio 1/1024, no pins, static pick on vertex 1"

-- the last seat; document 01 names none
abbrev pub seat : ℕ
seat = 5

abbrev pub settings : Settings
settings = settings_by plus_zero plus_zero plus_zero plus_zero (number 0x3F50_0000_0000_0000)

abbrev pub loading : Call
loading = call seat (load (load_of 2 settings (map number (0 ∷ 0 ∷ 0 ∷ one ∷ 0 ∷ 0 ∷ [])) (map number (0 ∷ one ∷ 0 ∷ 0 ∷ one ∷ 0 ∷ []))))

abbrev pub pulling : Vec3 → Call
pulling goal = call_with (replicate work_numbers plus_zero) seat (step (At 1 goal) still)

-- Position component c of vertex 1 is pinned.
abbrev pub pinning : ℕ → Call
pinning c = call seat (pin 1 c 1)

-- The calls of an example without pins, and with vertex 1 held.
abbrev pub free : Vec3 → List Call
free goal = loading ∷ pulling goal ∷ []

abbrev pub held : Vec3 → List Call
held goal = loading ∷ pinning 0 ∷ pinning 1 ∷ pinning 2 ∷ pulling goal ∷ []

-- An answer in numbers: what it is refused with, 0 for accepted; after that a step's energy, count and ratio.
unfoldable pub answer_numbers : Answer → List ℕ
answer_numbers (said k) = k ∷ []
answer_numbers (handed l) = bits l
answer_numbers (reported r) = let s = step_numbers r in s.number ∷ to_bits binary64 s.energy ∷ s.count ∷ to_bits binary64 s.ratio ∷ []

-- What calls show from the new bench on: all answers, and where vertex 1 of the drape is after them.
pub record Shown : Type 0 where
  pub told : List (List ℕ)
  pub place : List ℕ

abbrev pub shown_by : Run → Shown
shown_by r = record { told = map answer_numbers r.answers; place = bits (vec3_numbers (vec3_at (positions_in 2 (strand_of seat r.bench).drape) 1)) }

abbrev pub shown : List Call → Shown
shown cs = shown_by (run cs new_bench)

-- ---- the table

pub record Examples : Type 0 where
  -- "root 4 is 2"
  pub p1 : to_bits binary64 (sqrt_of (number four)) ≡ two
  -- "root 2 has bits 3FF6A09E667F3BCD hexadecimal"
  pub p2 : to_bits binary64 (sqrt_of (number two)) ≡ 0x3FF6_A09E_667F_3BCD
  -- "root 2^-1074 is 2^-537"
  pub p3 : to_bits binary64 (sqrt_of (number 0x0000_0000_0000_0001)) ≡ 0x1E60_0000_0000_0000
  -- "root -0 is -0"
  pub p4 : to_bits binary64 (sqrt_of (number minus_zero)) ≡ minus_zero
  -- "stretch: ends 0 and (2,0,0), rest 1, stiffness 1: energy 0.5, gradients (-1,+0,+0),(1,-0,-0), block diagonal 1, 0.5, 0.5"
  pub p5 : bits (stretch_numbers (wdwddw_squared_length_difference (number one) (v3 0 0 0) (v3 two 0 0) (number one))) ≡ half ∷ minus_one ∷ 0 ∷ 0 ∷ one ∷ minus_zero ∷ minus_zero ∷ one ∷ 0 ∷ 0 ∷ 0 ∷ half ∷ 0 ∷ 0 ∷ 0 ∷ half ∷ []
  -- "Darboux of (0,0,0),(1,0,0),(1,1,0), both frames (0,0,1): (-1,0,0)"
  pub p6 : bits (vec3_numbers (darboux_rod (rod_of (v3 0 0 0) (v3 one 0 0) (v3 one one 0) (v3 0 0 one) (v3 0 0 one)))) ≡ minus_one ∷ 0 ∷ 0 ∷ []
  -- "goal (0.5,0,0): count 1, ratio 0, energy 0, vertex 1 there"
  pub p7 : shown (free (v3 half 0 0)) ≡ record { told = (0 ∷ []) ∷ (0 ∷ 0 ∷ 1 ∷ 0 ∷ []) ∷ []; place = half ∷ 0 ∷ 0 ∷ [] }
  -- "goal (0,0,0): 11, edge vanishes"
  pub p8 : shown (free (v3 0 0 0)) ≡ record { told = (0 ∷ []) ∷ (11 ∷ 0 ∷ 0 ∷ 0 ∷ []) ∷ []; place = one ∷ 0 ∷ 0 ∷ [] }
  -- "goal (-1,0,0): 10"
  pub p9 : shown (free (v3 minus_one 0 0)) ≡ record { told = (0 ∷ []) ∷ (10 ∷ 0 ∷ 0 ∷ 0 ∷ []) ∷ []; place = one ∷ 0 ∷ 0 ∷ [] }
  -- "goal (0.5,0,0), positions of vertex 1 pinned: accepted, count 0"
  pub p10 : shown (held (v3 half 0 0)) ≡ record { told = (0 ∷ []) ∷ (0 ∷ []) ∷ (0 ∷ []) ∷ (0 ∷ []) ∷ (0 ∷ 0 ∷ 0 ∷ 0 ∷ []) ∷ []; place = one ∷ 0 ∷ 0 ∷ [] }

-- ---- what calls tell of a pin

-- Component 0 of vertex 1, which the load puts at 1.
pub record PinsTold : Type 0 where
  -- pinned, and so at the only step
  pub pinned : story 1 0 empty (history seat (held (v3 half 0 0)) new_bench) ≡ laid (number one) true true
  -- not pinned, and so not at every step
  pub loose : story 1 0 empty (history seat (free (v3 half 0 0)) new_bench) ≡ laid (number one) false false
