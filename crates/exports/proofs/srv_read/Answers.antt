-- srv_read: the reading's answer and row.
use mathlib.Core.Path.{◌∙◌, ap}
use Rattle.answers.specs.Answers.{numbers_of}
use Rattle.exports.proofs.srv_read.Goals as goal

pub returns : goal.returns
returns c = record { answer = c.into.ensures ∙ ap numbers_of c.read.ensures.answer; records = c.read.ensures.records }
