-- A turn of the loop pins the blocks of one row more.
use Rattle.std.proofs.Common.{◌∙◌, ◌+◌, ◌≤◌, eqb, ltb, arith, rules}
use borrow.Author.Tests.{lt-ltb, le-ltb}
use Rattle.matrix.proofs.Fixing.{fixed_first, fixed_next, fixed_all, number_adds}
use Rattle.matrix.proofs.pins.set_fixed_bc.Goals as goal

pub loop-i-init : goal.loop-i-init
loop-i-init c = fixed_first c.args.pins.n.count c.args.pins.bytes.now (λ p q. ltb p 0) _ (λ i j near. le-ltb i 0 (omega arith))

pub loop-i-preserved : goal.loop-i-preserved
loop-i-preserved c =
    let l = c.loop-i in
    let f = c.fix_row.ensures in
    fixed_next (λ p q. eqb l.i p) (λ p q. ltb p l.i) (λ p q. ltb p (l.i + 1)) l.invariant (search rules) (f.work_after, f.after_vectors_kept) (λ i j near. number_adds l.i i)

pub returns : goal.returns
returns c =
    let l = c.loop-i in
    let e : c.args.pins.n.count ≤ l.i = search rules in
    record {
      work_after = l.invariant.system ∙ fixed_all c.args.pins.n.count c.args.pins.bytes.now (λ p q. ltb p l.i) _ (λ i j near. lt-ltb i l.i (omega (arith, near.row)));
      after_vectors_kept = l.invariant.staged;
    }
