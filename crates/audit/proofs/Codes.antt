-- What an audit answers stands in the table: it refuses, or it tells a place.
-- Assumes nothing.
use Prim.Native.Nat.{ℕ, suc}
use mathlib.Core.Path.{refl}
use mathlib.Core.List.{List, [], ◌∷◌}
use mathlib.Core.Logic.{inl, inr}
use lib.Dec.{ltb}
use lib.ListN.{length, drop}
use Rattle.choice.proofs.Laws.{choose_keeps}
use Rattle.token.specs.declared.Record.{Record}
use Rattle.token.specs.Brackets.{is_opener, is_closer}
use Rattle.records.specs.Records.{room, recs_in}
use Rattle.answers.specs.Answers.{is_above}
use Rattle.answers.specs.Codes.{AuditInTable}
use Rattle.audit.specs.Audits.{most_open, closes_latest, audit_from, audit_of}

from_in_table : (i : ℕ) (opened : List ℕ) (rs : List Record) → AuditInTable (audit_from i opened rs)
unfolding audit_from
from_in_table i opened [] = inr (inl refl)
from_in_table i opened (r ∷ rs) =
    choose_keeps AuditInTable (is_opener r.kind)
    (λ _. choose_keeps AuditInTable (ltb (length opened) most_open) (λ _. from_in_table (suc i) (r.kind ∷ opened) rs) (λ _. inr (inr refl)))
    (λ _. choose_keeps AuditInTable (is_closer r.kind)
    (λ _. choose_keeps AuditInTable (closes_latest r.kind opened) (λ _. from_in_table (suc i) (drop 1 opened) rs) (λ _. inr (inl refl)))
    (λ _. from_in_table (suc i) opened rs))

pub audit_in_table : (row : List ℕ) (old : ℕ) → AuditInTable (audit_of row old)
unfolding audit_of
audit_in_table row old = choose_keeps AuditInTable (is_above (room row) old) (λ _. inl refl) (λ _. from_in_table 0 [] (recs_in row 0 old))
