-- The invariant: whether the first i are good.
use Rattle.std.proofs.Common.{◌≡◌, ℕ}
use Rattle.matrix.specs.Parts.{table}
use Rattle.matrix.specs.System.{every}
use Rattle.bench.specs.Strand.{entry_of}
use Rattle.bench.specs.Given.{good_seat}
use Rattle.bench.proofs.given.good_record.Given as goal

abbrev pub invariant-loop-i : goal.invariant-loop-i
invariant-loop-i l = l.all ≡ every (λ (s : ℕ). good_seat (entry_of s l.seats)) (table l.i (λ s. s))
