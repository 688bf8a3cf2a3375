-- The block that is stored is the old one and m.
use Rattle.vectors.specs.Mat4.{mat4_add}
use Rattle.vectors.specs.declared.mat4.Mat4.{Mat4}
use Rattle.matrix.specs.HairSystem.{plus_block}
use Rattle.matrix.proofs.SystemLaws.{block_changed, block_changed_after}
use Rattle.matrix.proofs.system.add_block.Goals as goal

pub returns : goal.returns
unfolding plus_block
returns c =
    let a = c.args in
    let e = rw (c.add.ensures, c.load-b.ensures, c.block_place-at.ensures) at c.store.ensures in
    record {
      work_after = block_changed a.n.count a.i a.j (λ (x : Mat4). mat4_add x a.m) _ _ a.n.in_range c.told-work c.requires.near e;
      after_vectors_kept = block_changed_after a.n.count a.i a.j (λ (x : Mat4). mat4_add x a.m) _ _ a.n.in_range c.told-work c.requires.near e;
    }
