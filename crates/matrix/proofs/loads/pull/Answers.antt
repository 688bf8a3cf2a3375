-- The row that is stored is the old one, pulled.
use Rattle.matrix.specs.Loads.{pulled, with_pull}
use Rattle.matrix.proofs.SystemLaws.{row_changed, row_changed_after}
use Rattle.matrix.proofs.loads.pull.Goals as goal

pub returns : goal.returns
unfolding with_pull
returns c =
    let a = c.args in
    let n = a.n in
    let e = rw (c.pulled.ensures, c.load-g.ensures) at c.store.ensures in
    record {
      work_after = row_changed n.count a.v (pulled a.c) _ _ n.in_range c.told-work c.requires.v_lt_n e;
      after_vectors_kept = row_changed_after n.count a.v (pulled a.c) _ _ n.in_range c.told-work c.requires.v_lt_n e;
    }
