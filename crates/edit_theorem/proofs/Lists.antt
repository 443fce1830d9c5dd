-- The edit theorem for lists of records: the second door's contracts are the first's, said of a list's row, and a row tells its list.
-- Assumes nothing.
use Prim.Native.Nat.{ℕ, ◌≤◌}
use mathlib.Core.Path.{◌≡◌, refl, sym, ◌∙◌, ap, subst}
use native.Mathlib.Omega.{arith}
use seplogic.Ra.Ura.{Ura}
use base.Logic.{SProp}
use prog.Memory.{Memory}
use prog.Routine.{Routine}
use types.Logic.{Logic}
use contract.Monad.{Fun, fact}
use contract.Lifetimes.{Lfts}
use lib.ListN.{length}
use Rattle.token.specs.declared.Record.{Record}
use Rattle.records.specs.Records.{room, flat}
use Rattle.records.proofs.Flats.{flat_tells, flat_recs}
use Rattle.records.proofs.Rooms.{flat_length, flat_room}
use Rattle.answers.specs.declared.Answer.{Answer}
use Rattle.answers.specs.Codes.{HasRecords}
use Rattle.reading.specs.Answers.{read_answer, read_row}
use Rattle.list_reading.specs.contracts.read as list_read
use Rattle.list_rereading.specs.contracts.reread as list_reread
use Rattle.edit_theorem.specs.Calls.{Call, ReadCall, RereadCall, IsReading, IsRereading, as_reading, Edit, Anew, SameList}
use Rattle.edit_theorem.specs.AllowedCalls.{IsListReading, IsListRereading, ListRead, ListReread, list_read_call, list_reread_call}
use Rattle.edit_theorem.proofs.RowHolds.{row_holds}
use Rattle.edit_theorem.proofs.Theorem as theorem

-- the calls, of rows
abbrev row_read_lem : ReadCall Record → ReadCall ℕ
row_read_lem c = record { text = c.text; mode = c.mode; start = c.start; lent = flat c.lent; answer = c.answer; left = flat c.left }

abbrev row_reread_lem : RereadCall Record → RereadCall ℕ
row_reread_lem c = record { text = c.text; mode = c.mode; lent = flat c.lent; count = c.count; common = c.common; answer = c.answer; left = flat c.left }

row_read : (c : ReadCall Record) → IsListReading c → IsReading (row_read_lem c)
row_read c p = record { answer = p.answer; left = p.records }

row_reread : (c : RereadCall Record) → IsListRereading c → IsRereading (row_reread_lem c)
row_reread c p = record { answer = p.answer; left = p.records }

-- a list holds as many records as a reading into it counts
holds : (c : ReadCall Record) → IsListReading c → c.start ≡ 0 → HasRecords c.answer → c.answer.count ≤ length c.left
holds c p z k =
    let e : c.answer ≡ read_answer c.text c.mode 0 (flat c.lent) = p.answer ∙ ap (λ (s : ℕ). read_answer c.text c.mode s (flat c.lent)) z in
    let f : flat c.left ≡ read_row c.text c.mode 0 (flat c.lent) = p.records ∙ ap (λ (s : ℕ). read_row c.text c.mode s (flat c.lent)) z in
    let h = (row_holds c.text c.mode (flat c.lent) (subst HasRecords e k)).room in
    omega (arith, ap (λ (r : Answer). r.count) e, ap room f, flat_room c.left)

module _ (old : ReadCall Record) (again : RereadCall Record) (p : IsListReading old) (q : IsListRereading again) (e : Edit old again) where
  row_edit : Edit (row_read_lem old) (row_reread_lem again)
  row_edit = record { start = e.start; records = e.records; lent = ap flat e.lent; mode = e.mode; count = e.count; in_old = e.in_old; in_new = e.in_new; same = e.same }

  -- after an edit a re-reading is a reading of the new text; so edits may follow one another
  pub edited_list : IsListReading (as_reading again)
  edited_list = let x = theorem.edited (row_read_lem old) (row_reread_lem again) (row_read old p) (row_reread again q) row_edit in record { answer = x.answer; records = x.left }

  -- THE THEOREM, of calls as the contracts have them
  pub reread_is_read_list : (anew : ReadCall Record) → IsListReading anew → Anew again anew → SameList again anew
  reread_is_read_list anew r w =
      let x = theorem.reread_is_read (row_read_lem old) (row_reread_lem again) (row_read old p) (row_reread again q) row_edit (row_read_lem anew) (row_read anew r)
      (record { start = w.start; text = w.text; mode = w.mode; long = omega (arith, w.long, flat_length anew.lent, flat_length again.lent) }) in
      record {
        answer = x.answer;
        records = λ k.
            sym (flat_recs again.left again.answer.count (holds (as_reading again) edited_list refl (subst HasRecords (sym x.answer) k)))
            ∙ x.records k ∙ flat_recs anew.left anew.answer.count (holds anew r w.start k);
        left = λ y. flat_tells again.left anew.left (x.left (ap flat y));
      }

-- each contract is one clause, which states a plain fact in any world
module _ {M : Type 1} {𝓤 : Ura M} (𝓛 : Logic 𝓤) (mem : Memory → SProp 𝓤) (run : Routine → Fun 𝓤) where
  pub list_read_says : (κs : Lfts 2) (a : _) (g : _) (r : _) (e : _) → (list_read.clauses 𝓛 mem run κs a).ensures g r e ≡ fact 𝓤 (ListRead κs a r e)
  list_read_says κs a g r e = refl

  pub list_reread_says : (κs : Lfts 2) (a : _) (g : _) (r : _) (e : _) → (list_reread.clauses 𝓛 mem run κs a).ensures g r e ≡ fact 𝓤 (ListReread κs a r e)
  list_reread_says κs a g r e = refl

-- THE THEOREM over the contracts
pub list_reread_is_read : (old : Call ListRead) (again : Call ListReread) (anew : Call ListRead)
    → Edit (list_read_call old) (list_reread_call again) → Anew (list_reread_call again) (list_read_call anew) → SameList (list_reread_call again) (list_read_call anew)
list_reread_is_read old again anew e w = reread_is_read_list (list_read_call old) (list_reread_call again) old.allowed again.allowed e (list_read_call anew) anew.allowed w
