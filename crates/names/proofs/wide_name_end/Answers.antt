-- wide_name_end: a start goes on with a name; what the window shows behind it does or ends it.
-- Assumes nothing.
use native.Mathlib.Omega.{arith}
use Rattle.names.proofs.Laws.{second_fits, third_fits, wide_one, wide_two, wide_more}
use lib.ListN.{length}
use Prim.Native.Nat.{◌+◌, ◌≤◌}
use Rattle.names.proofs.wide_name_end.Goals as goal

pub overflow_add-second : goal.overflow_add-second
overflow_add-second c =
    let a = c.args in
    let k : a.cur.at + c.bytes_of.result ≤ length a.cur.text.now = search second_fits in
    omega arith

pub returns-then-is_identifier_continuation-2 : goal.returns-then-is_identifier_continuation-2
returns-then-is_identifier_continuation-2 c = search wide_more

pub overflow_add-result : goal.overflow_add-result
overflow_add-result c =
    let a = c.args in
    let k : a.cur.at + c.bytes_of.result + c.bytes_of-then-is_identifier_continuation.result ≤ length a.cur.text.now = search third_fits in
    omega arith

pub returns-then-is_identifier_continuation : goal.returns-then-is_identifier_continuation
returns-then-is_identifier_continuation c = search wide_two

pub returns : goal.returns
returns c = search wide_one
