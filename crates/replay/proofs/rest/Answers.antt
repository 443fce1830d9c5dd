-- rest: each part that is lent is as long as was asked, since `min` keeps it within its buffer.
use mathlib.Core.Path.{◌∙◌, ap}
use Prim.Native.Nat.{◌≤◌, ◌*◌, ◌/◌, min}
use lib.ListN.{length}
use lib.Seq.{length-take-le}
use native.Mathlib.Omega.{arith}
use Rattle.std.proofs.lemmas.Result.{IfOk-weaker}
use Rattle.replay.specs.Promises.{record_bytes}
use Rattle.replay.proofs.Laws.{frame_asked}
use Rattle.replay.proofs.rest.Goals as goal

pub returns-clause-ok : goal.returns-clause-ok
returns-clause-ok g c =
    let b = c.min-bytes in
    let w = c.min-written in
    let m = c.min-room in
    let p : b.result ≤ length c.args.text.now = omega arith in
    let q : w.result * record_bytes ≤ length c.args.records.now = omega arith in
    let k : m.result ≤ length c.args.row.now = omega arith in
    let i = length-take-le b.result c.args.text.now p in
    let j = length-take-le (w.result * record_bytes) c.args.records.now q in
    let l = length-take-le m.result c.args.row.now k in
    IfOk-weaker _ _ _
    (λ what asked. frame_asked _ c.args.text.now c.ask.new.text c.args.records.now c.ask.new.records
    b.result (w.result * record_bytes) _ (length c.args.row.now) what asked
    (omega arith) (omega arith)
    (b.ensures ∙ ap (λ n. min n (length c.args.text.now)) c.number.ensures)
    (ap (λ n. n * record_bytes) (w.ensures ∙ ap (λ n. min n (length c.args.records.now / record_bytes)) c.number-2.ensures))
    (l ∙ m.ensures ∙ ap (λ n. min n (length c.args.row.now)) c.number-3.ensures))
    c.ask.ensures.ok
