use Prim.Native.Nat.{◌-◌}
use lib.ListN.{length}
use Rattle.characters.proofs.print_characters.Given as goal

abbrev pub decreases-loop-cur : goal.decreases-loop-cur
decreases-loop-cur g l = length l.cur.text.now - l.cur.at
