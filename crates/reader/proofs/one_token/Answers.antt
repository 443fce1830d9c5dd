-- one_token: the record's kind is the token's.
use Rattle.reader.proofs.Parts as parts
use borrow.Author.Rules.{rules}
use Rattle.reader.proofs.one_token.Goals as goal

pub returns : goal.returns
returns c = search (rules, parts.given_kind)
