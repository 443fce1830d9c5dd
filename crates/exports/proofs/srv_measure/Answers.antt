-- srv_measure: the measure's answer.
use mathlib.Core.Path.{◌∙◌, ap}
use Rattle.answers.specs.Answers.{numbers_of}
use Rattle.exports.proofs.srv_measure.Goals as goal

pub returns : goal.returns
returns c = c.into.ensures ∙ ap numbers_of c.measure.ensures
