-- What the calls promise, put together, is the definition: the blocks in use are those of all rows.
use Rattle.std.proofs.Common.{Bool, ◌&&◌, ℕ, ◌∙◌, sym, ap}
use Rattle.vectors.specs.Finite.{is_finite, vec4_is_finite, mat4_is_finite}
use Rattle.matrix.specs.Rows.{rows4, blocks16}
use Rattle.matrix.specs.Area.{place_r}
use Rattle.matrix.specs.SparseSquare.{matrix_rows}
use Rattle.matrix.specs.System.{every, system_at, system_is_finite}
use Rattle.matrix.proofs.RowPlaces.{all_blocks}
use Rattle.matrix.proofs.Every.{every_row}
use Rattle.matrix.proofs.system.is_finite.Goals as goal

pub returns : goal.returns
unfolding system_is_finite system_at matrix_rows rows4 blocks16
returns c =
    let n = c.args.n in
    let w = c.args.work.now in
    let e = ap (λ (k : ℕ). every mat4_is_finite (blocks16 w 0 k)) (sym (all_blocks n.count n.in_range.0)) ∙ every_row mat4_is_finite w n.count n.count in
    rw (c.is_finite.ensures, c.rows_are_finite.ensures, c.rows_are_finite-2.ensures)
    (ap (λ (b : Bool). is_finite c.args.energy && every vec4_is_finite (rows4 w place_r n.count) && b) e)
