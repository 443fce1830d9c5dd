-- is_bare: two tests joined.
use Rattle.reader.proofs.Parts as parts
use borrow.Author.Rules.{rules}
use Rattle.reader.proofs.is_bare.Goals as goal

pub returns-then-first : goal.returns-then-first
returns-then-first c = search (rules, parts.bare_told)
