-- The invariant: the first i numbers of the list are stored.
use Rattle.std.proofs.Common.{◌≡◌, ℕ}
use Rattle.std.specs.Prelude.{get_or}
use Rattle.std.specs.Float.{nan}
use Rattle.matrix.specs.Parts.{put, table}
use Rattle.bench.proofs.parts.store.Given as goal

abbrev pub invariant-loop-i : goal.invariant-loop-i
invariant-loop-i l = l.part ≡ put l.initial.part 0 (table l.i (λ (k : ℕ). get_or l.list k nan))
