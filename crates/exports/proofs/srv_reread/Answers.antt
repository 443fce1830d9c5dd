-- srv_reread: the re-reading's answer and row.
use mathlib.Core.Path.{◌∙◌, ap}
use Rattle.answers.specs.Answers.{numbers_of}
use Rattle.exports.proofs.srv_reread.Goals as goal

pub returns : goal.returns
returns c = record { answer = c.into.ensures ∙ ap numbers_of c.reread.ensures.answer; records = c.reread.ensures.records }
