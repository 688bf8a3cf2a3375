-- Cleared, then measured, then all elements, then the damping; the staged shape stays throughout.
use Rattle.std.proofs.Common.{◌≡◌, ◌-◌, List, sym, ap, ◌∙◌, arith}
use Rattle.std.specs.Prelude.{Float}
use Rattle.matrix.specs.declared.lists.Lists.{Lists}
use Rattle.matrix.specs.declared.vertices.Vertices.{Vertices}
use Rattle.matrix.specs.Rows.{rows3}
use Rattle.matrix.specs.Area.{place_positions}
use Rattle.matrix.specs.HairSystem.{Shape, shape, staged_shape}
use Rattle.matrix.specs.Edges.{edge_lengths, shape_of}
use Rattle.matrix.proofs.Shapes.{rows3_kept}
use Rattle.matrix.proofs.Assembly.{assembly}
use Rattle.matrix.proofs.hair_system.wdwddw_hair_system.Goals as goal

-- the lengths of the shape that is read from the area
measured : (s : Lists) (n : Vertices) (l w : List Float) → l ≡ edge_lengths (s.n.count - 1) (shape_of s).positions → s.n ≡ n → shape_of s ≡ staged_shape n.count w → l ≡ edge_lengths (n.count - 1) (rows3 w place_positions n.count)
unfolding staged_shape
measured s n l w e d f = e ∙ ap (λ (x : Shape). edge_lengths (s.n.count - 1) x.positions) f ∙ ap (λ (m : Vertices). edge_lengths (m.count - 1) (rows3 w place_positions n.count)) d

pub add_stretches-w-requires : goal.add_stretches-w-requires
add_stretches-w-requires c = record { def_value = measured c.staged.result _ _ _ c.edge_lengths-def.ensures c.staged.ensures.count c.staged.ensures.value }

pub add_bends-energy-requires-clause-def_value : goal.add_bends-energy-requires-clause-def_value
add_bends-energy-requires-clause-def_value c =
    let n = c.args.n in
    measured c.staged.result _ _ _ c.edge_lengths-def.ensures c.staged.ensures.count c.staged.ensures.value
    ∙ sym (ap (edge_lengths (n.count - 1)) (rows3_kept _ _ c.add_stretches-w.ensures.after_vectors_kept place_positions n.count (omega arith)))

pub returns : goal.returns
returns c =
    let a = c.args in
    let n = a.n.count in
    let ini = shape (rows3 a.rest.now 0 n) (rows3 a.axes.now 0 n) in
    let cleared = c.clear.ensures in
    let stretched = c.add_stretches-w.ensures in
    let bent = c.add_bends-energy.ensures in
    let damped = c.add_to_diagonals.ensures in
    let all = assembly n ini a.stretch a.bendtwist _ a.work.now _ _ _ _ _ _ a.n.in_range.1 c.edge_lengths-ini.ensures cleared.work_after cleared.after_vectors_kept stretched.value stretched.work_after stretched.after_vectors_kept bent.value bent.work_after bent.after_vectors_kept damped.work_after damped.after_vectors_kept in
    record { value = all.0; work_after = all.1.0; after_vectors_kept = all.1.1 }
