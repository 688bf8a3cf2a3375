-- One element more, of the two edges as they are in the staged shape, which still stands.
use Rattle.std.proofs.Common.{◌≡◌, ◌+◌, ◌-◌, refl, ap, ◌∙◌, arith, rules}
use Rattle.matrix.specs.Area.{place_positions}
use Rattle.matrix.specs.HairSystem.{Shape, staged_shape, bend_element, bend_at, bends}
use Rattle.matrix.specs.Edges.{shape_of, frames_at}
use Rattle.matrix.proofs.Shapes.{rows3_kept, shape_kept}
use Rattle.matrix.proofs.EdgeLaws.{length_in, bend_by_frames}
use Rattle.matrix.proofs.SystemLaws.{gathered_none, gathered_more}
use Rattle.matrix.proofs.hair_system.add_bends.Goals as goal

pub frames_at-a-requires-clause-ini_value : goal.frames_at-a-requires-clause-ini_value
frames_at-a-requires-clause-ini_value c = length_in (c.args.rest.n.count - 1) _ 0 c.requires.ini_value refl (omega arith) (omega arith)

pub frames_at-a-requires-clause-def_value : goal.frames_at-a-requires-clause-def_value
frames_at-a-requires-clause-def_value c = length_in (c.args.rest.n.count - 1) _ 0 c.requires.def_value refl (omega arith) (omega arith)

pub loop-i-init : goal.loop-i-init
loop-i-init c = record { edge = c.frames_at-a.ensures; gathered = gathered_none _ _ _ _ c.told-work }

pub frames_at-b-requires-clause-ini_value : goal.frames_at-b-requires-clause-ini_value
frames_at-b-requires-clause-ini_value c = length_in (c.args.rest.n.count - 1) _ (c.loop-i.i + 1) c.requires.ini_value refl (omega arith) (omega arith)

pub frames_at-b-requires-clause-def_value : goal.frames_at-b-requires-clause-def_value
frames_at-b-requires-clause-def_value c =
    let a = c.args in
    let l = c.loop-i in
    length_in (a.rest.n.count - 1) _ (l.i + 1) c.requires.def_value (rows3_kept a.work.now l.work l.invariant.gathered.after place_positions a.rest.n.count (omega arith)) (omega arith) (omega arith)

pub loop-i-preserved : goal.loop-i-preserved
unfolding bend_element
loop-i-preserved c =
    let a = c.args in
    let n = a.rest.n.count in
    let l = c.loop-i in
    let g = l.invariant.gathered in
    let ini = shape_of a.rest in
    let def = staged_shape n a.work.now in
    let next = c.frames_at-b.ensures ∙ ap (λ (x : Shape). frames_at ini x (l.i + 1)) (shape_kept a.work.now l.work g.after n) in
    let same : c.bend_between-e.result ≡ bend_at ini def a.k l.i = rw (c.bend_between-e.ensures, l.invariant.edge, next) (bend_by_frames ini def a.k l.i) in
    record {
      edge = next;
      gathered = gathered_more (bend_element l.i c.bend_between-e.result) g (ap (bend_element l.i) same) c.add_bend.ensures.work_after c.add_bend.ensures.after_vectors_kept (search rules);
    }

pub returns : goal.returns
unfolding bends
returns c =
    let g = c.loop-i.invariant.gathered in
    let e : c.args.rest.n.count - 2 ≡ c.loop-i.i = omega arith in
    rw e (record { value = g.energy; work_after = g.system; after_vectors_kept = g.after })
