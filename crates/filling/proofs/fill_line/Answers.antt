-- fill_line: what is pending is written once the first item is known to be none of the endings; then the rest of the line.
use Rattle.rounds.proofs.Rests.{glance_on}
use Rattle.measuring.proofs.Lines as counts
use Rattle.filling.proofs.Lines as lines
use Rattle.lexer.proofs.Goes as steps
use borrow.Author.Rules.{rules}
use Rattle.filling.proofs.fill_line.Goals as goal

pub put_start-k-requires : goal.put_start-k-requires
put_start-k-requires g c = search (rules, lines.on_prefixed, glance_on)

pub fill_rest-requires : goal.fill_rest-requires
fill_rest-requires g c = search (rules, lines.on_rest, glance_on)

pub returns-then-goes_on : goal.returns-then-goes_on
returns-then-goes_on g c = search (rules, lines.on_lined, glance_on)

pub put_start-k-requires-in-Gap : goal.put_start-k-requires-in-Gap
put_start-k-requires-in-Gap g c = search (rules, lines.on_prefixed, counts.skip_on)

pub rest_apart-requires : goal.rest_apart-requires
rest_apart-requires g c = search (rules, lines.on_rest, counts.skip_on)

pub put_start-k-requires-then-is_note : goal.put_start-k-requires-then-is_note
put_start-k-requires-then-is_note g c = search (rules, lines.on_prefixed, counts.tok_on)

pub rest_apart-requires-then-is_note : goal.rest_apart-requires-then-is_note
rest_apart-requires-then-is_note g c = search (rules, lines.on_rest, counts.tok_on)

pub returns-then-is_note : goal.returns-then-is_note
returns-then-is_note g c =
    lines.on_lined _ _ _ _ _ _ _ _ _ c.item_line-here.ensures _ _ c.requires c.or_moved-fresh.ensures (counts.tok_on _ _ _ _ c.next_step.ensures _ _ _ c.in-Tok.is) _ _ _ _ c.rest_apart-then-is_note.ensures c.put_start-k-then-is_note.ensures.0 c.put_start-k-then-is_note.ensures.1

pub soft_kind-kind-requires : goal.soft_kind-kind-requires
soft_kind-kind-requires g c = search (rules, lines.first_in)

pub put_start-k-requires-in-Tok : goal.put_start-k-requires-in-Tok
put_start-k-requires-in-Tok g c = search (rules, lines.tok_lead)

pub put-requires : goal.put-requires
put-requires g c = search (rules, lines.first_put)

pub line_ends-requires : goal.line_ends-requires
line_ends-requires g c =
    steps.tok_part _ _ _ _ c.next_step.ensures c.requires.ok.within _ _ _ c.in-Tok.is

pub overflow_add-next : goal.overflow_add-next
overflow_add-next g c =
    record { fits = lines.first_up _ _ _ _ c.next_step.ensures c.requires.ok.within _ _ _ c.in-Tok.is _ c.item_line-here.ensures _ c.line_ends.ensures c.requires.ok.small }

pub overflow_add-k : goal.overflow_add-k
overflow_add-k g c =
    record { fits = lines.first_fits _ _ _ _ _ _ _ _ c.requires _ c.put_start-k-in-Tok.ensures.1 }

pub rest_apart-requires-in-Tok : goal.rest_apart-requires-in-Tok
rest_apart-requires-in-Tok g c =
    lines.tok_rest _ _ _ _ _ _ _ _ _ c.item_line-here.ensures _ _ c.requires c.or_moved-fresh.ensures _ c.next_step.ensures _ _ _ c.in-Tok.is _ c.is_note.ensures c.if-is_note.false _ _ _ _ c.put_start-k-in-Tok.ensures.0 c.put_start-k-in-Tok.ensures.1 c.put.ensures _ c.line_ends.ensures

pub put_start-k-requires-in-Newline : goal.put_start-k-requires-in-Newline
put_start-k-requires-in-Newline g c = search (rules, lines.on_prefixed, counts.line_on)

pub rest_apart-requires-in-Newline : goal.rest_apart-requires-in-Newline
rest_apart-requires-in-Newline g c = search (rules, lines.on_rest, counts.line_on)

pub put_start-k-requires-in-End : goal.put_start-k-requires-in-End
put_start-k-requires-in-End g c = search (rules, lines.over_lead)

pub returns-in-Gap : goal.returns-in-Gap
returns-in-Gap g c = search (rules, lines.on_lined, counts.skip_on)

pub returns-else-is_note : goal.returns-else-is_note
returns-else-is_note g c =
    lines.line_tok _ _ _ _ _ _ _ _ _ c.item_line-here.ensures _ _ c.requires c.or_moved-fresh.ensures _ c.next_step.ensures _ _ _ c.in-Tok.is _ c.is_note.ensures c.if-is_note.false _ _ _ _ c.put_start-k-in-Tok.ensures.0 c.put_start-k-in-Tok.ensures.1 c.put.ensures _ _ c.rest_apart-in-Tok.ensures c.soft_kind-kind.ensures

pub returns-in-Newline : goal.returns-in-Newline
returns-in-Newline g c = search (rules, lines.on_lined, counts.line_on)

pub returns-in-Error : goal.returns-in-Error
returns-in-Error g c = search (rules, lines.line_stop)

pub returns-in-End : goal.returns-in-End
returns-in-End g c = search (rules, lines.line_over)
