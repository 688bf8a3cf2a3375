-- The calls' promises are the definition, once the table is that of the rule; the law of angles that are not finite gives the rest.
use Rattle.vectors.specs.Angle.{cosine_of}
use Rattle.vectors.proofs.Series.{cosine_rule, cosine_not_finite}
use Rattle.vectors.proofs.angle.cosine.Goals as goal

pub returns-clause-value : goal.returns-clause-value
unfolding cosine_of
returns-clause-value c = cc cosine_rule

pub returns-clause-not_finite : goal.returns-clause-not_finite
unfolding cosine_of
returns-clause-not_finite c h = let e = cosine_not_finite c.args.angle h in cc (cosine_rule, e)
