-- Both answers are the definition: stopped at once, or iterated from what `begin` leaves.
use Rattle.std.proofs.Common.{List, ap, ◌∙◌}
use Rattle.vectors.specs.declared.mat4.Mat4.{Mat4}
use Rattle.matrix.specs.Rows.{rows4}
use Rattle.matrix.specs.Area.{place_r}
use Rattle.matrix.specs.ConjugateGradient.{conjugate_gradient}
use Rattle.matrix.proofs.RowsPut.{kept_on}
use Rattle.matrix.proofs.Iteration.{small, large}
use Rattle.matrix.proofs.conjugate_gradient.conjugate_gradient.Goals as goal

pub returns-then-rho : goal.returns-then-rho
returns-then-rho c =
    let b = c.begin-rho.ensures in
    record { outcome_is = small _ _ _ _ _ _ _ b.vectors_after c.if-rho.true; kept = b.kept }

pub returns : goal.returns
returns c =
    let a = c.args in
    let b = c.begin-rho.ensures in
    let i = c.iterate.ensures in
    let same = ap (λ (m : List (List Mat4)). conjugate_gradient a.n.count m a.tolerance a.limit (rows4 a.work.now place_r a.n.count)) b.kept.matrix in
    record {
      outcome_is = i.outcome_is ∙ large _ _ _ _ _ _ _ b.vectors_after c.if-rho.false ∙ same;
      kept = kept_on b.kept i.kept;
    }
