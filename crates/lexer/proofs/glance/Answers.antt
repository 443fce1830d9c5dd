-- glance: one or two bytes tell a step, or nothing is said.
use Rattle.lexer.proofs.Glances as glances
use borrow.Author.Rules.{rules}
use Rattle.lexer.proofs.glance.Goals.{else-nest-eq0-via-then-nest-eq0+else-is_closer, else-nest-eq0-via-else-nest-eq0}
use Rattle.lexer.proofs.glance.Goals as goal

pub returns-then-b-eq32 : goal.returns-then-b-eq32
returns-then-b-eq32 c = search (rules, glances.glance_blank)

pub returns-then-starts_name : goal.returns-then-starts_name
returns-then-starts_name c = search (rules, glances.glance_letter)

pub returns-in-Some : goal.returns-in-Some
returns-in-Some c =
    elim c.else-nest-eq0.branch [
      | else-nest-eq0-via-then-nest-eq0+else-is_closer w ↦ search (rules, glances.glance_single)
      | else-nest-eq0-via-else-nest-eq0 w ↦ search (rules, glances.glance_closer)
    ]

pub returns-then-nest-eq0-2 : goal.returns-then-nest-eq0-2
returns-then-nest-eq0-2 c = search (rules, glances.glance_line)

pub returns-then-is_ascii_start : goal.returns-then-is_ascii_start
returns-then-is_ascii_start c = search (rules, glances.glance_prefix)

pub returns-in-Some-alone : goal.returns-in-Some-alone
returns-in-Some-alone c = search (rules, glances.glance_alone)
