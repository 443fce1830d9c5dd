-- The blanks at a line's start: they do not depend on the number of its byte, and blank and comment lines are passed with nothing counted.
-- Assumes nothing.
use Prim.Native.Nat.{ℕ, zero, suc, ◌+◌, ◌≤◌}
use Prim.Native.Char.{code}
use mathlib.Core.Path.{◌≡◌, refl, sym, ◌∙◌, ap}
use mathlib.Core.List.{List, [], ◌∷◌, ◌++◌, append_assoc}
use mathlib.Core.Bool.{Bool, true, false}
use native.Mathlib.Omega.{arith}
use native.Mathlib.Nat.{add-zero}
use lib.Dec.{eqb}
use lib.ListN.{length, replicate, length-append, length-replicate}
use Rattle.choice.proofs.Laws.{choose_both}
use Rattle.utf8.specs.Chars.{chars_from, chars, width}
use Rattle.utf8.proofs.Pass.{plain, pass}
use Rattle.window.specs.Place.{Place}
use Rattle.names.specs.Runs.{is_newline, not_newline}
use Rattle.names.proofs.Laws.{in_line}
use Rattle.std.specs.Prelude.{Result, Ok, Err}
use Rattle.indentation.specs.declared.Margin.{Margin}
use Rattle.indentation.specs.Blanks.{counted, stopped, blanks_from, blanks}
use Rattle.margin_comments.specs.Lines.{NewlineBytes, InLine, indented, CommentLine, CommentBefore, Lines}
use Rattle.margin_comments.specs.Lines.NewlineBytes.{lf, cr, crlf}
use Rattle.margin_comments.specs.Lines.CommentLine.{hash}
use Rattle.margin_comments.specs.Lines.CommentBefore.{line, last}
use Rattle.margin_comments.specs.Lines.Lines.{none, feed, blank, comment}
use Rattle.margin_comments.proofs.Places.{further}

-- what a line's start needs of its blanks (`line_start`): those that are counted, or, for code 25, the place alone of a tab after a space
abbrev pub needed : Result Margin Margin → Result Margin ℕ
needed (Ok m) = Ok m
needed (Err m) = Err m.at

module _ (d : ℕ) where
  -- blanks so many bytes further on
  abbrev pub moved_margin : Result Margin Margin → Result Margin Margin
  moved_margin (Ok m) = counted (d + m.at) m.blanks.tabs m.blanks.spaces
  moved_margin (Err m) = stopped (d + m.at) m.blanks.tabs m.blanks.spaces

  abbrev Margins : Result Margin Margin → Result Margin Margin → Type 0
  Margins x y = x ≡ moved_margin y

  blanks_by : (inside : Bool) (i at tabs spaces : ℕ) (l : List ℕ) → i ≡ d + at → blanks_from inside i tabs spaces l ≡ moved_margin (blanks_from inside at tabs spaces l)
  unfolding blanks_from
  blanks_by inside i at tabs spaces [] e = ap (λ (n : ℕ). counted n 0 0) e
  blanks_by true i at tabs spaces (c ∷ r) e =
      choose_both Margins (not_newline c) (λ _. blanks_by true (i + width c) (at + width c) 0 0 r (omega arith)) (λ _. blanks_by false (i + width c) (at + width c) 0 0 r (omega arith))
  blanks_by false i at tabs spaces (c ∷ r) e =
      choose_both Margins (eqb c (code " ")) (λ _. blanks_by false (i + width c) (at + width c) tabs (spaces + 1) r (omega arith))
      (λ _. choose_both Margins (eqb c (code "\t"))
      (λ _. choose_both Margins (eqb spaces 0) (λ _. blanks_by false (i + width c) (at + width c) (tabs + 1) spaces r (omega arith)) (λ _. ap (λ (n : ℕ). stopped n tabs spaces) e))
      (λ _. choose_both Margins (eqb c (code "#")) (λ _. blanks_by true (i + width c) (at + width c) 0 0 r (omega arith))
      (λ _. choose_both Margins (eqb c (code "\u{c}")) (λ _. blanks_by false (i + width c) (at + width c) 0 0 r (omega arith))
      (λ _. choose_both Margins (not_newline c) (λ _. ap (λ (n : ℕ). counted n tabs spaces) e)
      (λ _. blanks_by false (i + width c) (at + width c) 0 0 r (omega arith))))))

  pub blanks_further : (p : Place) → blanks (further d p) ≡ moved_margin (blanks p)
  unfolding blanks
  blanks_further p = blanks_by false (d + p.at) p.at 0 0 p.rest refl

-- ---- lines that are passed
-- a byte of ASCII is a character
first_char : (b : ℕ) (l : List ℕ) → b ≤ 0x7f → chars (b ∷ l) ≡ b ∷ chars l
first_char b l h = plain (b ∷ l) 0 (omega arith) (omega arith)

over_tabs : (n at tabs : ℕ) (l : List ℕ) → blanks_from false at tabs 0 (chars (replicate n (code "\t") ++ l)) ≡ blanks_from false (at + n) (tabs + n) 0 (chars l)
unfolding blanks_from width
over_tabs zero at tabs l = rw (add-zero at, add-zero tabs)
over_tabs (suc n) at tabs l =
    let a : at + 1 + n ≡ at + suc n = omega arith in
    let b : tabs + 1 + n ≡ tabs + suc n = omega arith in
    rw (first_char (code "\t") (replicate n (code "\t") ++ l) (omega arith), ← a, ← b) (over_tabs n (at + 1) (tabs + 1) l)

over_spaces : (n at tabs spaces : ℕ) (l : List ℕ) → blanks_from false at tabs spaces (chars (replicate n (code " ") ++ l)) ≡ blanks_from false (at + n) tabs (spaces + n) (chars l)
unfolding blanks_from width
over_spaces zero at tabs spaces l = rw (add-zero at, add-zero spaces)
over_spaces (suc n) at tabs spaces l =
    let a : at + 1 + n ≡ at + suc n = omega arith in
    let b : spaces + 1 + n ≡ spaces + suc n = omega arith in
    rw (first_char (code " ") (replicate n (code " ") ++ l) (omega arith), ← a, ← b) (over_spaces n (at + 1) tabs (spaces + 1) l)

-- tabs and then spaces before other bytes
over_indent : (tabs spaces at : ℕ) (l : List ℕ) → blanks_from false at 0 0 (chars (indented tabs spaces l)) ≡ blanks_from false (at + tabs + spaces) (0 + tabs) (0 + spaces) (chars l)
over_indent tabs spaces at l = over_tabs tabs at 0 (replicate spaces (code " ") ++ l) ∙ over_spaces spaces (at + tabs) (0 + tabs) 0 l

-- a comment's bytes, whatever characters they make
over_one : (at i c : ℕ) (r : List ℕ) → not_newline c ≡ true → blanks_from true (at + (i + width c)) 0 0 r ≡ blanks_from true (at + i) 0 0 (c ∷ r)
unfolding blanks_from
over_one at i c r e = let z : at + (i + width c) ≡ at + i + width c = omega arith in rw (e, z)

over_text : (text : List ℕ) (at : ℕ) (l : List ℕ) → InLine text → blanks_from true at 0 0 (chars (text ++ l)) ≡ blanks_from true (at + length text) 0 0 (chars l)
over_text [] at l h = rw (add-zero at)
over_text (b ∷ text) at l h =
    let g : ℕ → List ℕ → Result Margin Margin = λ i r. blanks_from true (at + i) 0 0 r in
    let e = pass g not_newline (λ c k. in_line c (omega arith) (omega arith)) (over_one at) (b ∷ (text ++ l)) 0 (omega arith) h.0 in
    let x : at ≡ at + 0 = omega arith in
    let y : at + 1 + length text ≡ at + suc (length text) = omega arith in
    ap (λ (i : ℕ). blanks_from true i 0 0 (chars (b ∷ (text ++ l)))) x ∙ sym e ∙ over_text text (at + 1) l h.1 ∙ ap (λ (i : ℕ). blanks_from true i 0 0 (chars l)) y

-- a newline, in a comment or behind blanks
over_newline : (inside : Bool) (at tabs spaces : ℕ) {newline : List ℕ} (l : List ℕ) → NewlineBytes newline
    → blanks_from inside at tabs spaces (chars (newline ++ l)) ≡ blanks_from false (at + length newline) 0 0 (chars l)
unfolding blanks_from not_newline is_newline width
over_newline true at tabs spaces l lf = rw (first_char (code "\n") l (omega arith))
over_newline false at tabs spaces l lf = rw (first_char (code "\n") l (omega arith))
over_newline true at tabs spaces l cr = rw (first_char (code "\r") l (omega arith))
over_newline false at tabs spaces l cr = rw (first_char (code "\r") l (omega arith))
over_newline true at tabs spaces l crlf = let z : at + 1 + 1 ≡ at + 2 = omega arith in rw (first_char (code "\r") (code "\n" ∷ l) (omega arith), first_char (code "\n") l (omega arith), z)
over_newline false at tabs spaces l crlf = let z : at + 1 + 1 ≡ at + 2 = omega arith in rw (first_char (code "\r") (code "\n" ∷ l) (omega arith), first_char (code "\n") l (omega arith), z)

over_hash : (at tabs spaces : ℕ) (l : List ℕ) → blanks_from false at tabs spaces (chars (code "#" ∷ l)) ≡ blanks_from true (at + 1) 0 0 (chars l)
unfolding blanks_from width
over_hash at tabs spaces l = rw (first_char (code "#") l (omega arith))

-- the bytes behind tabs and spaces, before others
indented_append : (tabs spaces : ℕ) (x y : List ℕ) → indented tabs spaces x ++ y ≡ indented tabs spaces (x ++ y)
indented_append tabs spaces x y = append_assoc (replicate tabs (code "\t")) (replicate spaces (code " ") ++ x) y ∙ ap (λ (l : List ℕ). replicate tabs (code "\t") ++ l) (append_assoc (replicate spaces (code " ")) x y)

length_indented : (tabs spaces : ℕ) (x : List ℕ) → length (indented tabs spaces x) ≡ tabs + spaces + length x
length_indented tabs spaces x =
    omega (arith, length-append (replicate tabs (code "\t")) (replicate spaces (code " ") ++ x), length-append (replicate spaces (code " ")) x, length-replicate tabs (code "\t"), length-replicate spaces (code " "))

-- from a line's start to the next one
abbrev Passed : List ℕ → Type 0
Passed bytes = (at : ℕ) (l : List ℕ) → blanks_from false at 0 0 (chars (bytes ++ l)) ≡ blanks_from false (at + length bytes) 0 0 (chars l)

over_comment : {bytes : List ℕ} → CommentLine bytes → Passed bytes
over_comment (hash tabs spaces text {newline} h n) at l =
    let k : at + tabs + spaces + 1 + length text + length newline ≡ at + length (indented tabs spaces (code "#" ∷ (text ++ newline))) =
    omega (arith, length_indented tabs spaces (code "#" ∷ (text ++ newline)), length-append text newline) in
    ap (λ (x : List ℕ). blanks_from false at 0 0 (chars x)) (indented_append tabs spaces (code "#" ∷ (text ++ newline)) l)
    ∙ over_indent tabs spaces at (code "#" ∷ ((text ++ newline) ++ l))
    ∙ over_hash (at + tabs + spaces) (0 + tabs) (0 + spaces) ((text ++ newline) ++ l)
    ∙ ap (λ (x : List ℕ). blanks_from true (at + tabs + spaces + 1) 0 0 (chars x)) (append_assoc text newline l)
    ∙ over_text text (at + tabs + spaces + 1) (newline ++ l) h
    ∙ over_newline true (at + tabs + spaces + 1 + length text) 0 0 l n
    ∙ ap (λ (i : ℕ). blanks_from false i 0 0 (chars l)) k

-- the last comment, to the text's end
end_anyhow : (at : ℕ) → blanks_from true at 0 0 (chars []) ≡ blanks_from false at 0 0 (chars [])
unfolding blanks_from chars_from
end_anyhow at = refl

pub over_put_in : {bytes rest : List ℕ} → CommentBefore bytes rest → (at : ℕ) → blanks_from false at 0 0 (chars (bytes ++ rest)) ≡ blanks_from false (at + length bytes) 0 0 (chars rest)
over_put_in (line rest c) at = over_comment c at rest
over_put_in (last tabs spaces text h) at =
    let k : at + tabs + spaces + 1 + length text ≡ at + length (indented tabs spaces (code "#" ∷ text)) = omega (arith, length_indented tabs spaces (code "#" ∷ text)) in
    ap (λ (x : List ℕ). blanks_from false at 0 0 (chars x)) (indented_append tabs spaces (code "#" ∷ text) [])
    ∙ over_indent tabs spaces at (code "#" ∷ (text ++ []))
    ∙ over_hash (at + tabs + spaces) (0 + tabs) (0 + spaces) (text ++ [])
    ∙ over_text text (at + tabs + spaces + 1) [] h
    ∙ end_anyhow (at + tabs + spaces + 1 + length text)
    ∙ ap (λ (i : ℕ). blanks_from false i 0 0 (chars [])) k

over_blank : (tabs spaces : ℕ) {newline : List ℕ} → NewlineBytes newline → Passed (indented tabs spaces newline)
over_blank tabs spaces {newline} n at l =
    let k : at + tabs + spaces + length newline ≡ at + length (indented tabs spaces newline) = omega (arith, length_indented tabs spaces newline) in
    ap (λ (x : List ℕ). blanks_from false at 0 0 (chars x)) (indented_append tabs spaces newline l)
    ∙ over_indent tabs spaces at (newline ++ l)
    ∙ over_newline false (at + tabs + spaces) (0 + tabs) (0 + spaces) l n
    ∙ ap (λ (i : ℕ). blanks_from false i 0 0 (chars l)) k

over_feed : (tabs spaces : ℕ) → Passed (indented tabs spaces (code "\u{c}" ∷ []))
unfolding blanks_from width
over_feed tabs spaces at l =
    let k : at + tabs + spaces + 1 ≡ at + length (indented tabs spaces (code "\u{c}" ∷ [])) = omega (arith, length_indented tabs spaces (code "\u{c}" ∷ [])) in
    ap (λ (x : List ℕ). blanks_from false at 0 0 (chars x)) (indented_append tabs spaces (code "\u{c}" ∷ []) l)
    ∙ over_indent tabs spaces at (code "\u{c}" ∷ l)
    ∙ ap (blanks_from false (at + tabs + spaces) (0 + tabs) (0 + spaces)) (first_char (code "\u{c}") l (omega arith))
    ∙ ap (λ (i : ℕ). blanks_from false i 0 0 (chars l)) k

-- one passage behind another
both_passed : (x y : List ℕ) → Passed x → Passed y → Passed (x ++ y)
both_passed x y p q at l =
    let k : at + length x + length y ≡ at + length (x ++ y) = omega (arith, length-append x y) in
    ap (λ (z : List ℕ). blanks_from false at 0 0 (chars z)) (append_assoc x y l) ∙ p at (y ++ l) ∙ q (at + length x) l ∙ ap (λ (i : ℕ). blanks_from false i 0 0 (chars l)) k

pub over_lines : {bytes : List ℕ} → Lines bytes → Passed bytes
over_lines none = λ at l. ap (λ (i : ℕ). blanks_from false i 0 0 (chars l)) (sym (add-zero at))
over_lines (feed tabs spaces {rest} r) = both_passed (indented tabs spaces (code "\u{c}" ∷ [])) rest (over_feed tabs spaces) (over_lines r)
over_lines (blank tabs spaces {newline} {rest} n r) = both_passed (indented tabs spaces newline) rest (over_blank tabs spaces n) (over_lines r)
over_lines (comment {bytes} {rest} c r) = both_passed bytes rest (over_comment c) (over_lines r)
