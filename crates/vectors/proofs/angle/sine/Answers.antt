-- The calls' promises are the definition, once the table is that of the rule; the law of angles that are not finite gives the rest.
use Rattle.vectors.specs.Angle.{sine_of}
use Rattle.vectors.proofs.Series.{sine_rule, sine_not_finite}
use Rattle.vectors.proofs.angle.sine.Goals as goal

pub returns-clause-value : goal.returns-clause-value
unfolding sine_of
returns-clause-value c = cc sine_rule

pub returns-clause-not_finite : goal.returns-clause-not_finite
unfolding sine_of
returns-clause-not_finite c h = let e = sine_not_finite c.args.angle h in cc (sine_rule, e)
