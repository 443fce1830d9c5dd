-- item_line: the blanks are in the line of the first item; else line ends are counted.
use Rattle.filling.proofs.Lines as lines
use borrow.Author.Rules.{rules}
use Rattle.filling.proofs.item_line.Goals as goal

pub returns-then-l-at : goal.returns-then-l-at
returns-then-l-at c = search (rules, lines.item_here)

pub line_ends-requires : goal.line_ends-requires
line_ends-requires c = search (rules, lines.item_part)

pub overflow_add-result : goal.overflow_add-result
overflow_add-result c = record { fits = search (rules, lines.item_fits) }

pub returns : goal.returns
returns c = search (rules, lines.item_on)
