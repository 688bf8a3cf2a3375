-- The invariant: the first i rows are stored, and the square is theirs.
use Rattle.std.proofs.Common.{◌≡◌, List, ℕ, ◌+◌, ◌*◌}
use Rattle.std.specs.Prelude.{Float}
use Rattle.vectors.specs.Number.{plus_zero}
use Rattle.vectors.specs.Vec4.{vec4_add, vec4_scale}
use Rattle.vectors.specs.declared.vec4.Vec4.{Vec4}
use Rattle.matrix.specs.Parts.{table}
use Rattle.matrix.specs.Rows.{row4}
use Rattle.matrix.specs.SliceOfArray.{dot_from}
use Rattle.matrix.proofs.RowLaws.{Stored}
use Rattle.matrix.proofs.slice_of_array.add_scaled_and_square.Given as goal

-- row k of the sum
abbrev pub moved : List Float → ℕ → Float → ℕ → ℕ → Vec4
moved w to alpha from k = vec4_add (row4 w (to + 4 * k)) (vec4_scale (row4 w (from + 4 * k)) alpha)

abbrev pub invariant-loop-i : goal.invariant-loop-i
invariant-loop-i l = record {
  stored : Stored l.initial.work l.work l.to (moved l.initial.work l.to l.alpha l.from) l.i;
  square : l.square ≡ dot_from plus_zero (table l.i (moved l.initial.work l.to l.alpha l.from)) (table l.i (moved l.initial.work l.to l.alpha l.from));
}
