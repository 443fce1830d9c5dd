-- print_all: nothing is written at first, and each turn writes the line of one record more.
use Prim.Native.Nat.{ℕ, ◌+◌}
use mathlib.Core.Path.{◌≡◌}
use mathlib.Core.List.{List}
use native.Mathlib.Numerals.{add-one}
use Rattle.std.specs.Prelude.{Option}
use Rattle.std.specs.Io.KnownBytes.{Appends}
use Rattle.std.proofs.KnownBytes.{Appends-nil, Appends-trans}
use Rattle.token.specs.declared.Record.{Record}
use Rattle.records.specs.Records.{rec_at}
use Rattle.printing.specs.Promises.{record_line, record_lines}
use Rattle.printing.proofs.print_all.Goals as goal

lines_more : (o p q : Option (List ℕ)) (row : List ℕ) (i : ℕ) (r : Record) → r ≡ rec_at row i → Appends o p (record_lines row i) → Appends p q (record_line r)
    → Appends o q (record_lines row (i + 1))
unfolding record_lines
lines_more o p q row i r e a b = rw (add-one i, ← e) (Appends-trans o p q _ _ a b)

pub loop-i-init : goal.loop-i-init
unfolding record_lines
loop-i-init g c = Appends-nil _

pub loop-i-preserved : goal.loop-i-preserved
loop-i-preserved g c = lines_more _ _ _ _ _ _ c.record_at.ensures c.loop-i.invariant c.in_ok-print_record.ensures
