-- The invariant: the first i elements are added to the system and to the energy. The shape that the next one reads is still the staged one.
use Rattle.std.proofs.Common.{ℕ, get_or}
use lib.Ieee.{nan}
use Rattle.matrix.specs.Rows.{rows3}
use Rattle.matrix.specs.Area.{place_positions}
use Rattle.matrix.specs.HairSystem.{stretch_element}
use Rattle.matrix.specs.Edges.{stretch_by}
use Rattle.matrix.proofs.SystemLaws.{Gathered}
use Rattle.matrix.proofs.hair_system.add_stretches.Given as goal

abbrev pub invariant-loop-i : goal.invariant-loop-i
invariant-loop-i l = Gathered l.n.count l.initial.work l.w (λ (j : ℕ). stretch_element j (stretch_by (rows3 l.initial.work place_positions l.n.count) l.k j (get_or l.ini j nan))) l.i l.work l.sum
