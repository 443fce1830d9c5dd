-- What is true of any call of the doors, whatever was read before: its answer stands in document 01's table, code 3 tells the fault that the
-- text has, and a re-reading keeps what it has to.
-- Assumes nothing.
use Prim.Native.Nat.{ℕ, ◌+◌, ◌<◌, ◌≤◌}
use mathlib.Core.Path.{◌≡◌, sym, ◌∙◌, ap, subst}
use mathlib.Core.List.{List}
use lib.ListN.{length, get_or}
use Rattle.utf8.specs.Faults.{Bytes}
use Rattle.token.specs.Kinds as K
use Rattle.records.specs.Records.{rec_at, flat}
use Rattle.records.specs.Promises.{blank}
use Rattle.answers.specs.Answers.{answer_in, ill_formed, no_room, unsound}
use Rattle.answers.specs.Codes.{InTable, FaultTold, AuditInTable}
use Rattle.answers.proofs.Laws.{numbers_tell}
use Rattle.reading.proofs.Codes.{measure_in_table, read_in_table}
use Rattle.reading.proofs.Faults.{measure_told, read_told}
use Rattle.rereading.proofs.Codes.{reread_in_table, reread_told}
use Rattle.rereading.proofs.Keeps.{keeps_every}
use Rattle.list_rereading.proofs.Keeps.{keeps_every_list}
use Rattle.audit.proofs.Codes.{audit_in_table}
use Rattle.exports.proofs.srv_read.Reads as read
use Rattle.exports.proofs.srv_measure.Reads as measure
use Rattle.exports.proofs.srv_reread.Reads as reread
use Rattle.exports.proofs.srv_audit.Reads as audit
use Rattle.list_exports.proofs.Determined as list
use Rattle.edit_theorem.specs.Calls.{Call}
use Rattle.door_theorem.specs.Doors.{read_call, reread_call, list_read_call, list_reread_call, measure_answered, measure_end, audit_answered}
use Rattle.door_theorem.proofs.Theorem.{is_reading, is_rereading}

-- codes, code 0's place, details
pub srv_read_in_table : (c : Call read.Post) → InTable no_room ((read_call c).start + length (read_call c).text) (read_call c).answer
srv_read_in_table c = subst (InTable no_room _) (sym (is_reading c).answer) (read_in_table (read_call c).text (read_call c).mode (read_call c).start (read_call c).lent)

pub srv_reread_in_table : (c : Call reread.Post) → InTable unsound (length (reread_call c).text) (reread_call c).answer
srv_reread_in_table c =
    subst (InTable unsound _) (sym (is_rereading c).answer)
    (reread_in_table (reread_call c).text (reread_call c).mode (reread_call c).lent (reread_call c).count (reread_call c).common)

pub srv_measure_in_table : (c : Call measure.Post) → InTable ill_formed (measure_end c) (measure_answered c)
srv_measure_in_table c = subst (InTable ill_formed (measure_end c)) (sym (ap answer_in c.allowed ∙ numbers_tell _)) (measure_in_table c.given.0.now c.given.1.0 c.given.1.1.0)

pub srv_audit_in_table : (c : Call audit.Post) → AuditInTable (audit_answered c)
srv_audit_in_table c = subst AuditInTable (sym (ap answer_in c.allowed ∙ numbers_tell _)) (audit_in_table c.given.0.now c.given.1.0)

-- the same of the list doors
pub srv_list_read_in_table : (c : Call list.Read) → InTable no_room ((list_read_call c).start + length (list_read_call c).text) (list_read_call c).answer
srv_list_read_in_table c =
    subst (InTable no_room _) (sym c.allowed.answer) (read_in_table (list_read_call c).text (list_read_call c).mode (list_read_call c).start (flat (list_read_call c).lent))

pub srv_list_reread_in_table : (c : Call list.Reread) → InTable unsound (length (list_reread_call c).text) (list_reread_call c).answer
srv_list_reread_in_table c =
    subst (InTable unsound _) (sym c.allowed.answer)
    (reread_in_table (list_reread_call c).text (list_reread_call c).mode (flat (list_reread_call c).lent) (list_reread_call c).count (list_reread_call c).common)

pub srv_list_audit_in_table : (c : Call list.Audit) → AuditInTable c.result
srv_list_audit_in_table c = subst AuditInTable (sym c.allowed) (audit_in_table (flat c.given.0.now) c.given.1.0)

-- document 02 item 2: code 3 tells the fault that the text has
pub srv_read_told : (c : Call read.Post) → Bytes (read_call c).text → FaultTold (read_call c).text (read_call c).start (read_call c).answer
srv_read_told c b = subst (FaultTold _ _) (sym (is_reading c).answer) (read_told (read_call c).text b (read_call c).start (read_call c).mode (read_call c).lent)

pub srv_measure_told : (c : Call measure.Post) → Bytes c.given.0.now → FaultTold c.given.0.now c.given.1.1.0 (measure_answered c)
srv_measure_told c b = subst (FaultTold _ _) (sym (ap answer_in c.allowed ∙ numbers_tell _)) (measure_told c.given.0.now b c.given.1.1.0 c.given.1.0)

pub srv_reread_told : (c : Call reread.Post) → Bytes (reread_call c).text → FaultTold (reread_call c).text 0 (reread_call c).answer
srv_reread_told c b =
    subst (FaultTold _ 0) (sym (is_rereading c).answer)
    (reread_told (reread_call c).text (reread_call c).mode (reread_call c).lent (reread_call c).count (reread_call c).common b)

pub srv_list_read_told : (c : Call list.Read) → Bytes (list_read_call c).text → FaultTold (list_read_call c).text (list_read_call c).start (list_read_call c).answer
srv_list_read_told c b =
    subst (FaultTold _ _) (sym c.allowed.answer) (read_told (list_read_call c).text b (list_read_call c).start (list_read_call c).mode (flat (list_read_call c).lent))

pub srv_list_reread_told : (c : Call list.Reread) → Bytes (list_reread_call c).text → FaultTold (list_reread_call c).text 0 (list_reread_call c).answer
srv_list_reread_told c b =
    subst (FaultTold _ 0) (sym c.allowed.answer)
    (reread_told (list_reread_call c).text (list_reread_call c).mode (flat (list_reread_call c).lent) (list_reread_call c).count (list_reread_call c).common b)

-- demand 3's last sentence: a counted Newline that ends below A keeps every record up to itself, even a wrong one
pub srv_keeps_every : (c : Call reread.Post) (i : ℕ) → i < (reread_call c).count → (rec_at (reread_call c).lent i).kind ≡ K.newline → (rec_at (reread_call c).lent i).end < (reread_call c).common
    → (j : ℕ) → j ≤ i → rec_at (reread_call c).left j ≡ rec_at (reread_call c).lent j
srv_keeps_every c i h k l j m =
    ap (λ (x : List ℕ). rec_at x j) (is_rereading c).left
    ∙ keeps_every (reread_call c).text (reread_call c).mode (reread_call c).lent (reread_call c).count (reread_call c).common i h k l j m

pub srv_list_keeps_every : (c : Call list.Reread) (i : ℕ) → i < (list_reread_call c).count → (get_or (list_reread_call c).lent i blank).kind ≡ K.newline → (get_or (list_reread_call c).lent i blank).end < (list_reread_call c).common
    → (j : ℕ) → j ≤ i → get_or (list_reread_call c).left j blank ≡ get_or (list_reread_call c).lent j blank
srv_list_keeps_every c = keeps_every_list _ _ _ _ _ _ _ c.allowed
