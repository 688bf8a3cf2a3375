-- The step of one strand: rod3_darboux.rs, `update_static`, lines 1113 to 1172, and `update_dynamic`, lines 1174 to 1263, with what 5 and 6 ask of pick and time, and the refusals 7 to 11 of document 01.
use Rattle.std.specs.Prelude.{◌≡◌, Bool, true, ◌&&◌, List, [], ◌∷◌, ◌++◌, ℕ, zero, suc, ◌+◌, ◌*◌, ltb, get_or, Float}
use Rattle.std.specs.Float.Ieee.{lt}
use Rattle.vectors.specs.Number.{plus_zero, ◌⊕◌, ◌⊖◌, ◌⊗◌, ◌⊘◌}
use Rattle.vectors.specs.Vec3.{vec3}
use Rattle.vectors.specs.Finite.{is_finite, vec3_is_finite, vec4_is_finite}
use Rattle.vectors.specs.declared.vec3.Vec3.{Vec3}
use Rattle.matrix.specs.Parts.{part, put, table}
use Rattle.matrix.specs.Rows.{rows3, flat3}
use Rattle.matrix.specs.Area as area
use Rattle.matrix.specs.System.{System, every, system_is_finite}
use Rattle.matrix.specs.HairSystem.{Shape, shape, vec3_at, hair_energy, hair_system}
use Rattle.matrix.specs.Loads.{with_pick, with_inertia}
use Rattle.matrix.specs.Fixed.{with_pins}
use Rattle.matrix.specs.ConjugateGradient.{Outcome, conjugate_gradient}
use Rattle.bench.specs.declared.answers.Pick.{Pick}
use Rattle.bench.specs.declared.answers.Pick.TheVariants.{Nothing, At}
use Rattle.bench.specs.declared.answers.StepAnswer.{StepAnswer}
use Rattle.bench.specs.declared.answers.StepAnswer.TheVariants.{Accepted, Refused}
use Rattle.bench.specs.declared.seats.Settings.{Settings}
use Rattle.bench.specs.Areas.{place_positions, place_frames, place_velocities, place_working_copy}
use Rattle.bench.specs.Strand.{Strand}
use Rattle.bench.specs.Given.{edges_fit}
use Rattle.bench.specs.Rows.{Row, unless, first}
use Rattle.bench.specs.Refusals.{refusal_of}
use Rattle.bench.specs.Update.{unless_pinned, vec3_unless_pinned, orthonormalize_framex_for_hair, update_solution_hair, turns_fit}

-- A step's kind: static, or dynamic over the time dt.
pub data Time : Type 0 where
  still : Time
  over : (dt : Float) → Time

-- ---- what a step is given

-- No pick, or one of the n vertices: what refusal 5 asks.
unfoldable pub pick_fits : ℕ → Pick → Bool
pick_fits n Nothing = true
pick_fits n (At v goal) = ltb v n

-- "a given number not finite" and "dt not above 0" are declined with 6
unfoldable pub goal_fits : Pick → Bool
goal_fits Nothing = true
goal_fits (At v goal) = vec3_is_finite goal

unfoldable pub time_fits : Time → Bool
time_fits still = true
time_fits (over dt) = is_finite dt && lt plus_zero dt

-- ---- what the drape holds of n vertices

abbrev pub positions_in : ℕ → List Float → List Vec3
positions_in n d = rows3 d place_positions n

abbrev pub frames_in : ℕ → List Float → List Vec3
frames_in n d = rows3 d place_frames n

abbrev pub velocities_in : ℕ → List Float → List Vec3
velocities_in n d = rows3 d place_velocities n

abbrev pub working_copy_in : ℕ → List Float → List Vec3
working_copy_in n d = rows3 d place_working_copy n

-- The shape that stands in a part of the rest or of the drape.
abbrev pub shape_in : ℕ → List Float → Shape
shape_in n l = shape (positions_in n l) (frames_in n l)

-- ---- the shape that the system is assembled of

-- "Unpinned working copy = drape + dt·velocity; pinned entries keep the working copy they had": lines 1178 to 1186
unfoldable pub predicted : Float → ℕ → Float → Float → Float → Float
predicted dt pin position velocity copy = unless_pinned pin copy (position ⊕ (dt ⊗ velocity))

abbrev pub predicted_vec3 : Float → List ℕ → ℕ → Vec3 → Vec3 → Vec3 → Vec3
predicted_vec3 dt pins o p v c =
    vec3 (predicted dt (get_or pins o 0) p.x v.x c.x) (predicted dt (get_or pins (o + 1) 0) p.y v.y c.y) (predicted dt (get_or pins (o + 2) 0) p.z v.z c.z)

unfoldable pub predicted_copy : Float → ℕ → List ℕ → List Float → List Vec3
predicted_copy dt n pins d = table n (λ i. predicted_vec3 dt pins (4 * i) (vec3_at (positions_in n d) i) (vec3_at (velocities_in n d) i) (vec3_at (working_copy_in n d) i))

-- line 1187: the frames are orthonormalised along it
unfoldable pub predicted_shape : Float → ℕ → List ℕ → List Float → Shape
predicted_shape dt n pins d = let xyz = predicted_copy dt n pins d in shape xyz (orthonormalize_framex_for_hair n xyz (frames_in n d))

-- A static step takes the drape's shape, a dynamic one the predicted.
unfoldable pub shape_by : Time → ℕ → List ℕ → List Float → Shape
shape_by still n pins d = shape_in n d
shape_by (over dt) n pins d = predicted_shape dt n pins d

-- ---- begin: the system, up to 8

-- lines 1129 to 1146: the picked vertex is pulled to its goal; xyz are the positions that the system was assembled of
unfoldable pub with_picked : ℕ → List Vec3 → Pick → System → System
with_picked n xyz Nothing s = s
with_picked n xyz (At v goal) s = with_pick n v (vec3_at xyz v) goal s

abbrev pub bendtwist : Settings → Vec3
bendtwist g = vec3 g.stiff_bendtwist0 g.stiff_bendtwist1 g.stiff_bendtwist2

-- lines 1117 to 1128, of the staged shape; "reported energy excludes" the pick
unfoldable pub energy_of : ℕ → Settings → List Float → Shape → Float
energy_of n g rest staged = hair_energy n (shape_in n rest) staged g.stiff_length (bendtwist g)

unfoldable pub picked_system : ℕ → Settings → List Float → Shape → Pick → System
picked_system n g rest staged pick = with_picked n staged.positions pick (hair_system n (shape_in n rest) staged g.stiff_length (bendtwist g))

-- "Dynamic adds 1/(dt·dt)"
unfoldable pub timed : Time → ℕ → System → System
timed still n s = s
timed (over dt) n s = with_inertia n dt s

-- What a step begins with: the staged shape, its energy, and the system with pick and inertia.
pub record Begun : Type 0 where
  pub staged : Shape
  pub energy : Float
  pub system : System

unfoldable pub begun_with : Time → ℕ → Settings → List Float → Pick → Shape → Begun
begun_with time n g rest pick staged =
    let e : Float = energy_of n g rest staged in
    let s : System = timed time n (picked_system n g rest staged pick) in
    record { staged = staged; energy = e; system = s }

-- "some edge's computed squared length not finite or not above 0"; "energy, a gradient or block number not finite after pick and inertia, before pins"
unfoldable pub begin_rows : ℕ → Begun → List Row
begin_rows n b = unless 7 (edges_fit n b.staged.positions ∷ []) ∷ unless 8 (system_is_finite b.energy b.system ∷ []) ∷ []

-- ---- the solve

-- "at most 1,000 iterations"
abbrev pub most_iterations : ℕ
most_iterations = 1000

-- lines 1147 to 1163: pins act, then the system is solved
unfoldable pub solved : ℕ → List ℕ → Float → System → Outcome
solved n pins tolerance s = let p = with_pins n pins s in conjugate_gradient n p.rows tolerance most_iterations p.gradient

-- ---- what a step would leave on the drape, from the shape after it

-- "A static step changes neither velocities nor working copy."
unfoldable pub static_drape : List Float → Shape → List Float
static_drape d s = put (put d place_positions (flat3 s.positions)) place_frames (flat3 s.frames)

-- "Unpinned velocity = (working copy - drape)/dt"; a pinned one is kept: lines 1252 to 1262
unfoldable pub velocity_after : Float → ℕ → Float → Float → Float → Float
velocity_after dt pin velocity copy position = unless_pinned pin velocity ((copy ⊖ position) ⊘ dt)

abbrev pub velocity_vec3 : Float → List ℕ → ℕ → Vec3 → Vec3 → Vec3 → Vec3
velocity_vec3 dt pins o v c p =
    vec3 (velocity_after dt (get_or pins o 0) v.x c.x p.x) (velocity_after dt (get_or pins (o + 1) 0) v.y c.y p.y) (velocity_after dt (get_or pins (o + 2) 0) v.z c.z p.z)

unfoldable pub velocities_after : Float → ℕ → List ℕ → List Float → List Vec3 → List Vec3
velocities_after dt n pins d copy = table n (λ i. velocity_vec3 dt pins (4 * i) (vec3_at (velocities_in n d) i) (vec3_at copy i) (vec3_at (positions_in n d) i))

-- "then that drape component takes the working copy. A pinned drape position .. kept"
unfoldable pub positions_after : ℕ → List ℕ → List Float → List Vec3 → List Vec3
positions_after n pins d copy = table n (λ i. vec3_unless_pinned pins (4 * i) (vec3_at (positions_in n d) i) (vec3_at copy i))

-- After a dynamic step; the positions of s are the working copy.
unfoldable pub dynamic_drape : Float → ℕ → List ℕ → List Float → Shape → List Float
dynamic_drape dt n pins d s =
    let x = put d place_positions (flat3 (positions_after n pins d s.positions)) in
    let f = put x place_frames (flat3 s.frames) in
    let v = put f place_velocities (flat3 (velocities_after dt n pins d s.positions)) in
    put v place_working_copy (flat3 s.positions)

-- The drape after a step of either kind.
unfoldable pub drape_after : Time → ℕ → List ℕ → List Float → Shape → List Float
drape_after still n pins d s = static_drape d s
drape_after (over dt) n pins d s = dynamic_drape dt n pins d s

-- ---- finish: 9 to 11

-- "a solution number or the last ratio not finite" is declined with 9
unfoldable pub outcome_is_finite : Outcome → Bool
outcome_is_finite o = is_finite o.ratio && every vec4_is_finite o.left.u

-- "a drape position, frame number or velocity of the n vertices .. not finite" is declined with 11
unfoldable pub drape_is_finite : ℕ → List Float → Bool
drape_is_finite n d = every is_finite (part d place_positions (3 * n)) && every is_finite (part d place_frames (3 * n)) && every is_finite (part d place_velocities (3 * n))

-- staged is the shape that the solve o was of, d the drape that the step would leave; "some turned edge has 1+c < 2^-20" is 10
unfoldable pub finish_rows : ℕ → List ℕ → Shape → Outcome → List Float → List Row
finish_rows n pins staged o d = unless 9 (outcome_is_finite o ∷ []) ∷ unless 10 (turns_fit n pins staged o.left.u ∷ []) ∷ unless 11 (drape_is_finite n d ∷ []) ∷ []

-- ---- the whole step

-- What a step of one strand comes to: the rows that may refuse it; else energy, ratio and count, and the drape that it leaves. Nothing else of the strand changes.
pub record Update : Type 0 where
  pub rows : List Row
  pub energy : Float
  pub ratio : Float
  pub count : ℕ
  pub drape : List Float

unfoldable pub update_of : Strand → Pick → Time → Update
update_of t pick time =
    let n : ℕ = t.count in
    let b : Begun = begun_with time n t.settings t.rest pick (shape_by time n t.pins t.drape) in
    let o : Outcome = solved n t.pins t.settings.conv_ratio b.system in
    let d : List Float = drape_after time n t.pins t.drape (update_solution_hair n t.pins b.staged o.left.u) in
    record { rows = begin_rows n b ++ finish_rows n t.pins b.staged o d; energy = b.energy; ratio = o.ratio; count = o.count; drape = d }

-- ---- a step and its parts, by the number k that it is refused with

-- What it answers: energy, ratio and count where it is accepted.
abbrev pub report_by : ℕ → Float → Float → ℕ → StepAnswer
report_by zero energy ratio count = Accepted energy ratio count
report_by (suc k) energy ratio count = Refused (refusal_of (suc k))

-- The drape after it, where it was old and the step would leave new.
abbrev pub drape_by : ℕ → List Float → List Float → List Float
drape_by zero old new = new
drape_by (suc k) old new = old

abbrev pub step_answer : Update → StepAnswer
step_answer u = report_by (first u.rows) u.energy u.ratio u.count

abbrev pub step_drape : List Float → Update → List Float
step_drape old u = drape_by (first u.rows) old u.drape

-- The velocities that the drape d gets stand in the work area w, where a step changes them; w's staged positions are the working copy.
abbrev pub VelocitiesStaged : Time → ℕ → List ℕ → List Float → List Float → Type 0
VelocitiesStaged still n pins d w = Unit
VelocitiesStaged (over dt) n pins d w = part w area.place_velocities (3 * n) ≡ flat3 (velocities_after dt n pins d (rows3 w area.place_positions n))
