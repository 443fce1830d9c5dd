-- lex_string: the window shows the quote, and whether it is three; behind it, or behind the window, the body begins.
-- Assumes nothing.
use Rattle.strings.proofs.Bodies.{quote_in, quote_fits, string_one, string_three}
use native.Mathlib.Omega.{arith}
use lib.ListN.{length}
use Prim.Native.Nat.{◌<◌}
use Rattle.strings.proofs.lex_string.Goals as goal

pub triple_end-requires : goal.triple_end-requires
triple_end-requires c = search quote_fits

pub returns-then-is_triple : goal.returns-then-is_triple
returns-then-is_triple c = search string_three

pub overflow_add-cur : goal.overflow_add-cur
overflow_add-cur c = let k : c.args.cur.at < length c.args.cur.text.now = search quote_in in omega arith

pub single_end-requires : goal.single_end-requires
single_end-requires c = search quote_fits

pub returns : goal.returns
returns c = search string_one
