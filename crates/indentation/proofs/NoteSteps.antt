-- The notes of a line's start one by one, in the words of an item: a comment runs while in its line, and a newline is a step.
-- Assumes nothing.
use Prim.Native.Nat.{ℕ, ◌+◌, ◌<◌, ◌≤◌}
use Prim.Native.Char.{code}
use mathlib.Core.Path.{◌≡◌, refl, sym, ◌∙◌, ap, subst}
use mathlib.Core.List.{List, [], ◌∷◌}
use mathlib.Core.Bool.{true, false}
use mathlib.Core.Logic.{◌⊎◌, inl, inr}
use native.Mathlib.Omega.{arith}
use native.Mathlib.Decide.{dec_lt}
use borrow.Author.Tests.{eqb-true, ne_eqb}
use lib.Dec.{eqb}
use Rattle.std.specs.Prelude.{Some, None}
use lib.ListN.{length, get_or, drop}
use Rattle.choice.proofs.Laws.{choose_both}
use Rattle.utf8.specs.Chars.{chars, width}
use Rattle.utf8.proofs.Pass.{none, found}
use Rattle.utf8.proofs.Bytes.{get_or_any}
use Rattle.window.specs.Place.{Place, place_at, slid, slid_by, next_char}
use Rattle.window.proofs.Laws.{slid_le_step, next_place}
use Rattle.window.proofs.Within.{within_at, within_step}
use Rattle.token.specs.Kinds as K
use Rattle.records.specs.Records.{Spanned, spanned}
use Rattle.names.specs.Runs.{skip_from, skip_while, is_newline, not_newline}
use Rattle.names.proofs.Laws.{in_line, breaks}
use Rattle.names.proofs.Bounds.{comment_forward}
use Rattle.indentation.specs.declared.Note.{Note}
use Rattle.indentation.specs.Notes.{is_cr_lf, newline_note, notes_from, notes}
use Rattle.indentation.specs.Promises.{NextNote, NoteAt}
use Rattle.indentation.proofs.BlankLaws.{first_is}

-- a note by its parts
abbrev note : ℕ → ℕ → ℕ → Note
note k s e = record { kind = k; from = s; to = e }

newline_is : (at c : ℕ) (r : List ℕ) → (c ≡ code "\n") ⊎ (c ≡ code "\r") → newline_note at at c r (λ b. notes_from false b (at + width c) r) ≡ notes_from false at at (c ∷ r)
unfolding notes_from not_newline is_newline
newline_is at c r (inl e) = rw e
newline_is at c r (inr e) = rw e

-- a comment and what follows it
comment_from : (from at : ℕ) (l : List ℕ) → notes_from true from at l ≡ spanned K.comment from (skip_from not_newline at l).at ∷ notes (skip_from not_newline at l)
unfolding notes_from notes skip_from
comment_from from at [] = refl
comment_from from at (c ∷ r) =
    choose_both (λ (x : List Spanned) (q : Place). x ≡ spanned K.comment from q.at ∷ notes q) (not_newline c)
    (λ _. comment_from from (at + width c) r) (λ e. ap (λ (l : List Spanned). spanned K.comment from at ∷ l) (newline_is at c r (breaks c e)))

newline_cr : (at : ℕ) (r : List ℕ) → let q = next_char (record { at = at; rest = code "\r" ∷ r }) in notes_from false at at (code "\r" ∷ r) ≡ spanned K.non_logical_newline at q.at ∷ notes q
unfolding notes_from notes not_newline is_newline is_cr_lf next_char slid slid_by
newline_cr at [] = refl
newline_cr at (d ∷ r) =
    choose_both (λ (x : List Spanned) (q : Place). x ≡ spanned K.non_logical_newline at q.at ∷ notes q) (eqb d (code "\n")) (λ e. rw (eqb-true d (code "\n") e)) (λ _. refl)

notes_is : (t : List ℕ) (i : ℕ) → notes (place_at t i) ≡ notes_from false i i (chars (drop i t))
unfolding notes
notes_is t i = refl

module _ (t : List ℕ) (i : ℕ) (h : i < length t) (at : ℕ) (w : notes (place_at t i) ≡ notes (place_at t at)) (a : at ≤ i) where
  here : (b : ℕ) → b < 0x80 → get_or t i 0 ≡ b → notes_from false i i (b ∷ chars (drop (i + 1) t)) ≡ notes (place_at t at)
  unfolding notes
  here b k e = sym (ap (notes_from false i i) (first_is t i b h k e)) ∙ w

  pub note_space : get_or t i 0 ≡ code " " → notes (place_at t (i + 1)) ≡ notes (place_at t at)
  unfolding notes_from notes width
  note_space e = here (code " ") (omega arith) e

  pub note_tab : get_or t i 0 ≡ code "\t" → notes (place_at t (i + 1)) ≡ notes (place_at t at)
  unfolding notes_from notes width
  note_tab e = here (code "\t") (omega arith) e

  pub note_feed : get_or t i 0 ≡ code "\u{c}" → notes (place_at t (i + 1)) ≡ notes (place_at t at)
  unfolding notes_from notes width
  note_feed e = here (code "\u{c}") (omega arith) e

  pub note_blank : (get_or t i 0 ≡ code "\t") ⊎ ((get_or t i 0 ≡ code "\u{c}") ⊎ (get_or t i 0 ≡ code " ")) → notes (place_at t (i + 1)) ≡ notes (place_at t at)
  note_blank (inl e) = note_tab e
  note_blank (inr (inl e)) = note_feed e
  note_blank (inr (inr e)) = note_space e

  pub note_comment : (e : ℕ) → place_at t e ≡ skip_while not_newline (place_at t i) → get_or t i 0 ≡ code "#" → NoteAt t at (Some (note K.comment i e))
  unfolding notes_from skip_while skip_from not_newline is_newline width
  note_comment e z b =
      let l = first_is t i (code "#") h (omega arith) b in
      let q : place_at t e ≡ skip_from not_newline (i + 1) (chars (drop (i + 1) t)) = z ∙ ap (skip_from not_newline i) l in
      let v = comment_forward t i e z h b in
      record {
        from = a;
        some = v.0;
        to = v.1;
        reads = sym (here (code "#") (omega arith) b) ∙ comment_from i (i + 1) (chars (drop (i + 1) t)) ∙ sym (ap (λ (p : Place). spanned K.comment i p.at ∷ notes p) q);
      }

  -- a newline ends behind its first byte, within the text
  newline_next : (k e : ℕ) → k < 0x80 → get_or t i 0 ≡ k → place_at t e ≡ next_char (place_at t i)
      → notes_from false i i (k ∷ chars (drop (i + 1) t)) ≡ spanned K.non_logical_newline i (next_char (place_at t i)).at ∷ notes (next_char (place_at t i)) → NextNote t at K.non_logical_newline i e
  newline_next k e u b z n =
      let y : e ≡ (next_char (place_at t i)).at = ap (λ (p : Place). p.at) z in
      let s = ap (λ (p : Place). p.at) (next_place t i h (omega arith)) in
      record {
        from = a;
        some = omega (arith, slid_le_step (place_at t i));
        to = omega (arith, (within_step t (place_at t i) (within_at t i (omega arith))).fits);
        reads = sym (here k u b) ∙ n ∙ sym (ap (λ (p : Place). spanned K.non_logical_newline i p.at ∷ notes p) z);
      }

  pub note_lf : get_or t i 0 ≡ code "\n" → NoteAt t at (Some (note K.non_logical_newline i (i + 1)))
  unfolding notes_from notes not_newline is_newline is_cr_lf width
  note_lf b = record { from = a; some = omega arith; to = omega arith; reads = sym (here (code "\n") (omega arith) b) }

  pub note_cr : (e : ℕ) → place_at t e ≡ next_char (place_at t i) → get_or t i 0 ≡ code "\r" → NoteAt t at (Some (note K.non_logical_newline i e))
  note_cr e z b =
      let l = first_is t i (code "\r") h (omega arith) b in
      newline_next (code "\r") e (omega arith) b z
      (subst (λ (r : List ℕ). notes_from false i i (code "\r" ∷ chars (drop (i + 1) t)) ≡ spanned K.non_logical_newline i (next_char (record { at = i; rest = r })).at ∷ notes (next_char (record { at = i; rest = r }))) (sym l) (newline_cr i (chars (drop (i + 1) t))))

  on_other : (c : ℕ) (r : List ℕ) → (c ≡ code " " → ⊥) → (c ≡ code "\t" → ⊥) → (c ≡ code "#" → ⊥) → (c ≡ code "\u{c}" → ⊥) → (c ≡ code "\n" → ⊥) → (c ≡ code "\r" → ⊥) → notes_from false i i (c ∷ r) ≡ []
  unfolding notes_from
  on_other x r a b c d e f = simp (ne_eqb x (code " ") a, ne_eqb x (code "\t") b, ne_eqb x (code "#") c, ne_eqb x (code "\u{c}") d, in_line x e f)

  pub note_other : (get_or t i 0 ≡ code " " → ⊥) → (get_or t i 0 ≡ code "\t" → ⊥) → (get_or t i 0 ≡ code "\u{c}" → ⊥) → (get_or t i 0 ≡ code "#" → ⊥) → (get_or t i 0 ≡ code "\n" → ⊥) → (get_or t i 0 ≡ code "\r" → ⊥) → NoteAt t at None
  note_other a b d c e f = sym w ∙ go (dec_lt (get_or t i 0) 0x80)
    where
      go : Dec (get_or t i 0 < 0x80) → notes (place_at t i) ≡ []
      go (yes k) = w ∙ sym (here (get_or t i 0) k refl) ∙ on_other (get_or t i 0) _ a b c d e f
      go (no k) =
          let y = found t i h in
          let v = get_or_any t i 256 0 h in
          let m = y.high (omega arith) in
          notes_is t i ∙ ap (notes_from false i i) y.here.list
          ∙ on_other y.c _ (λ z. omega arith) (λ z. omega arith) (λ z. omega arith) (λ z. omega arith) (λ z. omega arith) (λ z. omega arith)

pub note_end : (t : List ℕ) (i at : ℕ) → notes (place_at t i) ≡ notes (place_at t at) → length t ≤ i → NoteAt t at None
unfolding notes_from
note_end t i at w h = sym w ∙ notes_is t i ∙ ap (notes_from false i i) (none t i h)
