-- After as many turns of the loop r is s doubled as often, less whole turns.
use Rattle.std.proofs.Common.{◌≡◌, ◌*◌, ◌%◌, ◌^◌}
use Rattle.vectors.proofs.Remainder.{turn}
use Rattle.vectors.proofs.angle.doubled.Given as goal

abbrev pub invariant-loop : goal.invariant-loop
invariant-loop l = l.r ≡ l.s * 2 ^ l.counter % turn
