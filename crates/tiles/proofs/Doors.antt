-- The same of what a call leaves in a row, in every mode: the second pass changes no place, and no note's kind.
-- Assumes nothing.
use Prim.Native.Nat.{ℕ}
use mathlib.Core.Path.{◌≡◌, sym, ◌∙◌, ap}
use mathlib.Core.List.{List, [], ◌∷◌}
use mathlib.Core.Bool.{Bool, true, false}
use native.Mathlib.Omega.{arith}
use lib.Dec.{ltb}
use lib.ListN.{length}
use Rattle.choice.proofs.Laws.{choose_keeps}
use Rattle.window.specs.Place.{text_start}
use Rattle.token.specs.Kinds as K
use Rattle.lexer.specs.Steps.{is_listed}
use Rattle.rounds.specs.Rounds.{raw_reading, listed_records, listed_reading, view}
use Rattle.rounds.proofs.Listed.{listed_full}
use Rattle.soft_keywords.specs.SoftKeywords.{stays_keyword, soft_kind, line_start_after, soften}
use Rattle.answers.specs.declared.Answer.{Answer}
use Rattle.answers.specs.Codes.{HasRecords}
use Rattle.reading.specs.Modes.{lists_notes, starts_line}
use Rattle.reading.specs.Answers.{read_answer, read_row}
use Rattle.records.specs.Records.{Spanned}
use Rattle.reading.proofs.Calls.{text_start_within}
use Rattle.edit_theorem.specs.Calls.{spans_in_row}
use Rattle.edit_theorem.proofs.RowHolds.{first, spans_hold, row_holds}
use Rattle.tiles.specs.Notes.{AllStand}
use Rattle.tiles.specs.Tiles.{Blank, BlankOrNotes, Tiled}
use Rattle.tiles.proofs.Readings.{nothing_added, none_left_out}
use Rattle.tiles.proofs.Papers.{paper_between}

-- the pass leaves a kind or makes it a Name's
soft_is : (line : Bool) (k n : ℕ) (rs : List Spanned) → (n ≡ K.name → ⊥) → soft_kind line k rs ≡ n → k ≡ n
unfolding soft_kind
soft_is line k n rs x =
    let P : ℕ → Type 0 = λ m. m ≡ n → k ≡ n in
    choose_keeps P (ltb k K.first_soft) (λ _ e. e)
    (λ _. choose_keeps P line (λ _. choose_keeps P (stays_keyword k rs) (λ _ e. e) (λ _ e. absurd (x (sym e)))) (λ _ e. absurd (x (sym e))))

soft_stand : (t : List ℕ) (line : Bool) (rs : List Spanned) → AllStand t rs → AllStand t (soften line rs)
unfolding soften
soft_stand t line [] a = tt
soft_stand t line (r ∷ rs) a = (
  record { comment = λ e. a.0.comment (soft_is line r.kind K.comment rs (λ z. omega arith) e); newline = λ e. a.0.newline (soft_is line r.kind K.non_logical_newline rs (λ z. omega arith) e) },
  soft_stand t (line_start_after line r.kind) rs a.1,
)

soft_tiled : (Gap : ℕ → ℕ → Type 0) (line : Bool) (from to : ℕ) (rs : List Spanned) → Tiled Gap from rs to → Tiled Gap from (soften line rs) to
unfolding soften
soft_tiled Gap line from to [] l = l
soft_tiled Gap line from to (r ∷ rs) l = (l.0, l.1, l.2, soft_tiled Gap (line_start_after line r.kind) r.end to rs l.3)

listed_stand : (t : List ℕ) (full : Bool) (rs : List Spanned) → AllStand t rs → AllStand t (listed_records full rs)
unfolding listed_records
listed_stand t full [] a = tt
listed_stand t full (r ∷ rs) a = choose_keeps (AllStand t) (is_listed full r.kind) (λ _. (a.0, listed_stand t full rs a.1)) (λ _. listed_stand t full rs a.1)

module _ (t : List ℕ) (mode : ℕ) (row : List ℕ) (told : HasRecords (read_answer t mode 0 row)) where
  -- the records that a reading leaves; their lines are the contract's, and not spoken of here
  abbrev records : List Spanned
  records = spans_in_row (read_answer t mode 0 row) (read_row t mode 0 row)

  holds : records ≡ soften (starts_line mode) (view (lists_notes mode) t (first t)).recs
  holds = spans_hold t mode row _ _ (row_holds t mode row told)

  code_is : (read_answer t mode 0 row).code ≡ (view (lists_notes mode) t (first t)).code
  code_is = ap (λ (a : Answer). a.code) (row_holds t mode row told).ends

  view_is : (b : Bool) → lists_notes mode ≡ b → records ≡ soften (starts_line mode) (view b t (first t)).recs
  view_is b e = holds ∙ ap (λ (x : Bool). soften (starts_line mode) (view x t (first t)).recs) e

  -- PROMISE: nothing else is added: each record of kind 7 is a comment of the text, and each of kind 8 one newline
  pub notes_stand : AllStand t records
  unfolding view listed_reading
  notes_stand = rw holds (soft_stand t (starts_line mode) _ (listed_stand t (lists_notes mode) (raw_reading t (first t)).recs (nothing_added t (first t) (text_start_within t))))

  -- PROMISE: none is left out: with code 0 in modes 3 to 5 only blanks and continuations lie between records
  pub blank_between : lists_notes mode ≡ true → (read_answer t mode 0 row).code ≡ 0 → Tiled (Blank t) (text_start t).at records (length t)
  unfolding view listed_reading
  blank_between f z =
      rw (view_is true f, listed_full (raw_reading t (first t)).recs) (soft_tiled (Blank t) (starts_line mode) (text_start t).at (length t) (raw_reading t (first t)).recs (none_left_out t (first t) (text_start_within t) (sym code_is ∙ z)))

  -- and in modes 0 to 2 comments and newlines besides
  pub notes_between : lists_notes mode ≡ false → (read_answer t mode 0 row).code ≡ 0 → Tiled (BlankOrNotes t) (text_start t).at records (length t)
  notes_between f z =
      rw (view_is false f) (soft_tiled (BlankOrNotes t) (starts_line mode) (text_start t).at (length t) (view false t (first t)).recs (paper_between t (first t) (text_start_within t) (ap (λ (b : Bool). (view b t (first t)).code) (sym f) ∙ sym code_is ∙ z)))
