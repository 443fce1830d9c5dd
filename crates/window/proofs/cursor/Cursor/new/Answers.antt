-- new: three characters one after another are the window. Assumes nothing.
use Rattle.window.proofs.Laws.{window_three, three_on}
use Rattle.window.proofs.cursor.Cursor.new.Goals as goal

pub invariant_of-result-clause-shows : goal.invariant_of-result-clause-shows
invariant_of-result-clause-shows c = search window_three

pub invariant_of-result-clause-reaches : goal.invariant_of-result-clause-reaches
invariant_of-result-clause-reaches c = three_on _ _ _ _ c.char_at-a.ensures _ _ c.char_at-b.ensures _ _ c.char_at-c.ensures
