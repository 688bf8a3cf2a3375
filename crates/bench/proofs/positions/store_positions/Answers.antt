-- The first i vectors are stored. The positions still to be read stand behind them.
use Prim.Native.Nat.{ℕ, ◌+◌, ◌*◌}
use mathlib.Core.Path.{◌≡◌, ap, ◌∙◌}
use native.Mathlib.Omega.{arith}
use Rattle.matrix.specs.Parts.{put}
use Rattle.matrix.specs.Rows.{numbers3}
use Rattle.matrix.proofs.RowLaws.{stored_none, stored_more, unstored, stored_all}
use Rattle.matrix.specs.Area as area
use Rattle.matrix.proofs.Shapes.{vec3_at_lem}
use Rattle.bench.specs.Areas.{place_positions}
use Rattle.bench.specs.Step.{positions_after}
use Rattle.bench.proofs.positions.store_positions.Goals as goal

pub loop-i-init : goal.loop-i-init
loop-i-init c = stored_none _ _ _

pub loop-i-preserved : goal.loop-i-preserved
loop-i-preserved c =
    let a = c.args in
    let l = c.loop-i in
    let z : 3 * l.i ≡ place_positions + 3 * l.i = omega arith in
    let kept = c.position_after in
    let stored = c.store.ensures ∙ ap (λ (k : ℕ). put l.drape k (numbers3 kept.result)) z in
    let old = unstored l.invariant (3 * l.i) (λ j x y u v. omega arith) in
    let p = old ∙ vec3_at_lem a.drape.now place_positions a.n.count l.i (3 * l.i) (omega arith) (omega arith) in
    let w = vec3_at_lem a.work.now area.place_positions a.n.count l.i (area.place_positions + 3 * l.i) (omega arith) (omega arith) in
    stored_more l.invariant stored (rw (kept.ensures, p, w))

pub returns : goal.returns
unfolding positions_after
returns c = stored_all c.loop-i.invariant (omega arith)
