-- print_all: after i turns the lines of the first i records are written.
use Rattle.std.specs.Io.KnownBytes.{Appends}
use Rattle.printing.specs.Promises.{record_lines}
use Rattle.printing.proofs.print_all.Given as goal

abbrev pub invariant-loop-i : goal.invariant-loop-i
invariant-loop-i g l = Appends (g.W.Write.contents l.initial.out) (g.W.Write.contents l.out) (record_lines l.row l.i)
