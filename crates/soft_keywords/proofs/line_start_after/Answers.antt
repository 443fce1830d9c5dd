-- line_start_after: the test is the definition's.
use Rattle.soft_keywords.proofs.Softens as softens
use borrow.Author.Rules.{rules}
use Rattle.soft_keywords.proofs.line_start_after.Goals as goal

pub returns-then-is_note : goal.returns-then-is_note
returns-then-is_note c = search (rules, softens.after_note)

pub returns-else-is_note : goal.returns-else-is_note
returns-else-is_note c = search (rules, softens.after_other)
