-- The part is stored where it was lent.
use Rattle.std.proofs.Common.{◌*◌}
use native.Mathlib.Nat.{add-sub_cancel_left}
use Rattle.matrix.specs.Parts.{part}
use Rattle.bench.proofs.PutBack.{put_copied}
use Rattle.bench.proofs.parts.copy.Goals as goal

pub returns : goal.returns
unfolding part
returns c =
    let a = c.args in
    let k = 3 * a.n.count in
    put_copied a.area.now a.list.now a.at a.from k c.requires.area_long c.requires.list_long (add-sub_cancel_left a.at k) (add-sub_cancel_left a.from k) c.store.ensures
