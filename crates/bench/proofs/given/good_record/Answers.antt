-- A turn of the loop asks one more, as the test of one more does.
use Rattle.std.proofs.Common.{ℕ, sym}
use Rattle.matrix.proofs.Every.{every_more}
use Rattle.bench.specs.Strand.{entry_of}
use Rattle.bench.specs.Given.{good_seat}
use Rattle.bench.proofs.given.good_record.Goals as goal

pub loop-i-preserved : goal.loop-i-preserved
loop-i-preserved c = rw (c.loop-i.invariant, c.good_seat-all.ensures) (sym (every_more (λ (s : ℕ). good_seat (entry_of s c.args.seats)) c.loop-i.i (λ s. s)))
