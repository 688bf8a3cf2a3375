-- One element more, whose edge's length is read where the staged shape still stands.
use Rattle.std.proofs.Common.{◌-◌, List, get_or, ap, ◌∙◌, arith, rules}
use lib.Ieee.{nan}
use Rattle.vectors.specs.declared.vec3.Vec3.{Vec3}
use Rattle.matrix.specs.Area.{place_positions}
use Rattle.matrix.specs.HairSystem.{stretch_element}
use Rattle.matrix.specs.Edges.{stretch_by}
use Rattle.matrix.proofs.Shapes.{rows3_kept}
use Rattle.matrix.proofs.EdgeLaws.{length_in}
use Rattle.matrix.proofs.SystemLaws.{gathered_none, gathered_more}
use Rattle.matrix.proofs.hair_system.add_stretches.Goals as goal

pub loop-i-init : goal.loop-i-init
loop-i-init c = gathered_none _ _ _ _ c.told-work

pub stretch_at-s-requires : goal.stretch_at-s-requires
stretch_at-s-requires c =
    let a = c.args in
    let l = c.loop-i in
    length_in (a.n.count - 1) _ l.i c.requires.def_value (rows3_kept a.work.now l.work l.invariant.after place_positions a.n.count (omega arith)) (omega arith) (omega arith)

pub loop-i-preserved : goal.loop-i-preserved
unfolding stretch_element
loop-i-preserved c =
    let a = c.args in
    let l = c.loop-i in
    let g = l.invariant in
    let same = ap (λ (x : List Vec3). stretch_by x a.k l.i (get_or a.ini.now l.i nan)) (rows3_kept a.work.now l.work g.after place_positions a.n.count (omega arith)) in
    gathered_more (stretch_element l.i c.stretch_at-s.result) g (ap (stretch_element l.i) (c.stretch_at-s.ensures ∙ same)) c.add_stretch.ensures.work_after c.add_stretch.ensures.after_vectors_kept (search rules)
