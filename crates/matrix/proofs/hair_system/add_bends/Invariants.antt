-- The invariant: the first i elements are added to the system and to the energy, and a is the edge from vertex i. The shape that is read is still the staged one.
use Rattle.std.proofs.Common.{◌≡◌, ℕ}
use Rattle.matrix.specs.HairSystem.{staged_shape, bend_element, bend_at}
use Rattle.matrix.specs.Edges.{shape_of, frames_at}
use Rattle.matrix.proofs.SystemLaws.{Gathered}
use Rattle.matrix.proofs.hair_system.add_bends.Given as goal

abbrev pub invariant-loop-i : goal.invariant-loop-i
invariant-loop-i l =
    let n = l.rest.n.count in
    let rest = shape_of l.rest in
    let staged = staged_shape n l.initial.work in
    record {
      edge : l.a ≡ frames_at rest staged l.i;
      gathered : Gathered n l.initial.work l.w (λ (j : ℕ). bend_element j (bend_at rest staged l.k j)) l.i l.work l.sum;
    }
