-- The invariant: the first i rows are stored.
use Rattle.std.proofs.Common.{ℕ, ◌+◌, ◌*◌}
use Rattle.vectors.specs.Vec4.{vec4_add, vec4_scale}
use Rattle.matrix.specs.Rows.{row4}
use Rattle.matrix.proofs.RowLaws.{Stored}
use Rattle.matrix.proofs.slice_of_array.scale_and_add_vec.Given as goal

abbrev pub invariant-loop-i : goal.invariant-loop-i
invariant-loop-i l = Stored l.initial.work l.work l.to (λ (k : ℕ). vec4_add (row4 l.initial.work (l.from + 4 * k)) (vec4_scale (row4 l.initial.work (l.to + 4 * k)) l.beta)) l.i
