-- The invariant: whether the first i are finite.
use Rattle.std.proofs.Common.{◌≡◌, ℕ, ◌+◌, ◌*◌}
use Rattle.matrix.specs.Parts.{table}
use Rattle.matrix.specs.System.{every}
use Rattle.matrix.proofs.system.rows_are_finite.Given as goal

abbrev pub invariant-loop-i : goal.invariant-loop-i
invariant-loop-i g l = l.all ≡ every g.R.Finite.finite (table l.i (λ (k : ℕ). g.R.Row.row l.work (l.at + g.R.Row.WIDTH * k)))
