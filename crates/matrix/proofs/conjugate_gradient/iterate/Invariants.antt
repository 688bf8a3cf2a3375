-- The invariant: what is to be iterated is what was to be iterated at the start.
use Rattle.std.proofs.Common.{◌-◌, ◌≤◌}
use Rattle.matrix.proofs.Going.{Going}
use Rattle.matrix.proofs.conjugate_gradient.iterate.Given as goal

abbrev pub invariant-loop-count : goal.invariant-loop-count
invariant-loop-count l = record {
  within : l.count ≤ l.limit;
  going : Going l.n.count l.initial.work l.first l.inverse l.tolerance l.limit l.work l.rho l.count l.square;
}

abbrev pub decreases-loop-count : goal.decreases-loop-count
decreases-loop-count l = l.limit - l.count
