-- The elements by what is known of each edge are those of the strand. A length is read where the loop that measures left it.
use mathlib.Core.Path.{◌≡◌, sym, ap, ◌∙◌}
use mathlib.Core.List.{List}
use Prim.Native.Nat.{ℕ, ◌+◌, ◌-◌, ◌≤◌, ◌<◌}
use native.Mathlib.Nat.{zero-add}
use native.Mathlib.Numerals.{add-one}
use native.Mathlib.Omega.{arith}
use lib.ListN.{get_or, set, replicate, length-replicate}
use lib.Ieee.{Float, nan}
use Rattle.vectors.specs.Number.{plus_zero}
use Rattle.vectors.specs.Vec3.{vec3_norm}
use Rattle.vectors.specs.Edge.{edge_length, measured_of}
use Rattle.vectors.specs.declared.vec3.Vec3.{Vec3}
use Rattle.elements.specs.Darboux.{darboux_rod, cdc_rod_darboux}
use Rattle.elements.specs.Bend.{wdwdwdw_darboux_rod_hair_approx_hessian}
use Rattle.matrix.specs.Parts.{table}
use Rattle.matrix.specs.HairSystem.{Shape, rod_of, stretch_element, stretch_at, stretches, bend_at}
use Rattle.matrix.specs.Edges.{length_at, edge_lengths, stretch_by, stretches_by, frame_at, frames_at, bend_between}
use Rattle.matrix.proofs.Parts.{length_table, table_ext, get_or_table, get_or_inside, put_none, put_more}

length_of : (m : ℕ) (p : List Vec3) (i : ℕ) → i < m → m ≤ 32 → get_or (edge_lengths m p) i nan ≡ length_at p i
unfolding edge_lengths
length_of m p i h g = rw zero-add at (get_or_inside (replicate 32 plus_zero) 0 (table m (length_at p)) i nan (omega (arith, length_table m (length_at p), length-replicate 32 plus_zero)) (omega (arith, length_table m (length_at p)))) ∙ get_or_table m (length_at p) i nan h

-- read from what is known, of positions that are still the same
pub length_in : {l : List Float} {p : List Vec3} (m : ℕ) (q : List Vec3) (i : ℕ) → l ≡ edge_lengths m p → q ≡ p → i < m → m ≤ 32 → get_or l i nan ≡ length_at q i
length_in {l} {p} m q i e d h g = rw (e, d) (length_of m p i h g)

-- the loop that measures
pub lengths_none : (p : List Vec3) → replicate 32 plus_zero ≡ edge_lengths 0 p
unfolding edge_lengths table
lengths_none p = sym (put_none (replicate 32 plus_zero) 0)

pub lengths_more : (m : ℕ) (p : List Vec3) → set (edge_lengths m p) m (length_at p m) ≡ edge_lengths (m + 1) p
unfolding edge_lengths
lengths_more m p = rw (add-one m) (rw zero-add at (put_more (replicate 32 plus_zero) 0 m (length_at p)))

pub stretches_by_lem : (n : ℕ) (rest staged : List Vec3) (k : Float) → n ≤ 32 → stretches_by n (edge_lengths (n - 1) rest) staged k ≡ stretches n rest staged k
unfolding stretches_by stretches stretch_by stretch_at length_at edge_length measured_of vec3_norm
stretches_by_lem n rest staged k h = table_ext (n - 1) _ _ (λ i b. ap (λ (x : Float). stretch_element i (stretch_by staged k i x)) (length_of (n - 1) rest i b (omega arith)))

pub bend_by_frames : (rest staged : Shape) (k : Vec3) (i : ℕ) → bend_between (frames_at rest staged i) (frames_at rest staged (i + 1)) k ≡ bend_at rest staged k i
unfolding bend_between frames_at frame_at bend_at rod_of wdwdwdw_darboux_rod_hair_approx_hessian cdc_rod_darboux darboux_rod
bend_by_frames rest staged k i = let e : i + 1 + 1 ≡ i + 2 = omega arith in rw e
