-- A newline blocks look-ahead: an item, and a step, from near places on that ends at or before the cut's end is the same. A gap has to
-- end before it: a backslash before the cut's newline looks whether the text goes on behind that.
-- Assumes nothing.
use Prim.Native.Nat.{ℕ, ◌+◌, ◌<◌, ◌≤◌}
use Prim.Native.Char.{code}
use mathlib.Core.Path.{◌≡◌, refl, sym, ◌∙◌, ap}
use mathlib.Core.List.{List}
use mathlib.Core.Logic.{⊎_elim}
use native.Mathlib.Omega.{arith}
use lib.Dec.{eqb}
use lib.ListN.{drop}
use Rattle.std.specs.Prelude.{Option, Some, None}
use Rattle.choice.proofs.Laws.{choose_keeps, choose_both}
use Rattle.utf8.specs.Chars.{chars, no_char}
use Rattle.window.specs.Place.{Place, place_at, nth, slid, slid_by, next_char}
use Rattle.window.proofs.Near.{Near, Beside, After, same_at, same_first, same_second, step_beside}
use Rattle.window.proofs.Near.Near.{lf, cr, more}
use Rattle.window.proofs.Near.Beside.{beside}
use Rattle.classes.specs.Classes.{is_identifier_start, is_emoji}
use Rattle.token.specs.declared.StringKind.{StringKind}
use Rattle.token.specs.Kinds as K
use Rattle.token.specs.declared.Token.TheVariants as N
use Rattle.token.specs.declared.Item.{Item}
use Rattle.token.specs.declared.Item.TheVariants as I
use Rattle.token.specs.Codes.{kind_of}
use Rattle.names.specs.Runs.{is_newline, is_blank}
use Rattle.names.proofs.Local.{blank_near, comment_near, name_near}
use Rattle.strings.proofs.Local.{Before, Alike, Quoted, opening_near, quoted, string_near}
use Rattle.numbers.proofs.Local.{number_near}
use Rattle.operators.proofs.Local.{operator_near}
use Rattle.lexer.specs.declared.Step.{Step}
use Rattle.lexer.specs.declared.Step.TheVariants as T
use Rattle.numbers.specs.Numbers.{digit_value, is_digit}
use Rattle.lexer.specs.Items.{starts_number, joined_line, continuation, other_at, operator_at, normal_at, open_at, item_at}
use Rattle.token.specs.Brackets.{is_opener, is_closer}
use Rattle.lexer.specs.Steps.{token_step, step_of, step_at}

-- ---- newlines, comments, continuations
joined_near : {end : ℕ} {p p' : Place} → After end p p' → Alike end (joined_line p) (joined_line p')
unfolding joined_line
joined_near {end} {p} {p'} =
    ⊎_elim (λ b _. rw (same_first b, same_at b))
    (λ e. choose_keeps (λ x. Before end x → joined_line p' ≡ x) (eqb (nth p 0) no_char) (λ _ a. absurd a) (λ _ a. absurd (omega arith)))

continuation_near : {end : ℕ} {p p' : Place} → Beside end p p' → Beside end (slid p) (slid p') → Alike end (continuation p) (continuation p')
unfolding continuation
continuation_near {end} {p} {p'} b n =
    rw (same_second b n) (choose_both (Alike end) (is_newline (nth p 1)) (λ _. joined_near (step_beside n)) (λ _ a. absurd a))

newline_near : {end : ℕ} {p p' : Place} → Beside end p p' → (next_char p').at ≡ (next_char p).at
newline_near b = ⊎_elim same_at (λ e. e.1 ∙ sym e.0) (step_beside b)

other_near : {end : ℕ} {p p' : Place} → Beside end p p' → Alike end (other_at p) (other_at p')
unfolding other_at is_newline slid slid_by
other_near (beside (lf e)) = λ _. ap (I.Tok N.Newline) (newline_near (beside (lf e)))
other_near (beside (cr e f g)) = λ _. ap (I.Tok N.Newline) (newline_near (beside (cr e f g)))
other_near {end} (beside (more c h)) =
    let b = beside (more c h) in
    choose_both (Alike end) (eqb c (code "#")) (λ _ _. ap (I.Tok N.Comment) (comment_near b))
    (λ _. choose_both (Alike end) (is_newline c) (λ _ _. ap (I.Tok N.Newline) (newline_near b))
    (λ _. choose_both (Alike end) (eqb c (code "\\")) (λ _. continuation_near b (beside h))
    (λ _. choose_both (Alike end) (eqb c (code "!")) (λ _ _. refl)
    (λ _. choose_both (Alike end) (is_emoji c) (λ _ _. refl) (λ _ _. refl)))))

-- ---- operators, numbers, names, strings
operator_at_near : {end : ℕ} {p p' : Place} → Beside end p p' → (s : Option (ℕ × ℕ)) → Alike end (operator_at p s) (operator_at p' s)
unfolding operator_at
operator_at_near b (Some (k, n)) = λ _. ap (λ i. I.Tok (N.Operator k) (i + n)) (same_at b)
operator_at_near b None = other_near b

number_starts_near : {end : ℕ} {p p' : Place} → Beside end p p' → starts_number (nth p' 0) (nth p' 1) ≡ starts_number (nth p 0) (nth p 1)
unfolding starts_number is_digit digit_value
number_starts_near (beside (lf e)) = refl
number_starts_near (beside (cr e f g)) = refl
number_starts_near (beside (more c h)) = rw (same_first (beside h))

word_near : {end : ℕ} {p p' : Place} → Beside end p p' → Alike end (normal_at p) (normal_at p')
unfolding normal_at
word_near {end} {p} b =
    rw (number_starts_near b, operator_near b, same_first b)
    (choose_both (Alike end) (is_identifier_start (nth p 0)) (λ _ _. name_near b)
    (λ _. choose_both (Alike end) (starts_number (nth p 0) (nth p 1)) (λ _ _. number_near b) (λ _. operator_at_near b _)))

open_near : {end : ℕ} {p p' : Place} → Beside end p p' → (o : Option (StringKind × ℕ)) → Quoted end p p' o → Alike end (open_at p o) (open_at p' o)
unfolding open_at
open_near b (Some (k, n)) q = string_near k q.0 q.1
open_near b None q = word_near b

-- the item at near places
pub item_near : {end : ℕ} {p p' : Place} → Beside end p p' → Alike end (item_at p) (item_at p')
unfolding item_at
item_near {end} {p} b =
    rw (opening_near b, same_first b)
    (choose_both (Alike end) (eqb (nth p 0) no_char) (λ _ _. refl)
    (λ _. choose_both (Alike end) (is_blank (nth p 0)) (λ _ _. ap I.Gap (blank_near b)) (λ _. open_near b _ (quoted b))))

-- ---- steps
-- a token or a line that ends at or before the cut's end, or a gap that ends before it
abbrev pub Kept : ℕ → Step → Type 0
Kept end (T.Gap e) = e < end
Kept end (T.Tok k e n) = e ≤ end
Kept end (T.Newline e) = e ≤ end
Kept end (T.Error w e) = ⊥
Kept end T.End = ⊥

token_before : (end nest k e : ℕ) → Kept end (token_step nest k e) → e ≤ end
unfolding token_step
token_before end nest k e =
    let Q : Step → Type 0 = λ s. Kept end s → e ≤ end in
    choose_keeps Q (eqb k K.newline) (λ _. choose_keeps Q (eqb nest 0) (λ _ g. g) (λ _ g. g))
    (λ _. choose_keeps Q (is_opener k) (λ _ g. g)
    (λ _. choose_keeps Q (is_closer k) (λ _. choose_keeps Q (eqb nest 0) (λ _ g. absurd g) (λ _ g. g)) (λ _ g. g)))

item_before : (end at nest : ℕ) (i : Item) → Kept end (step_of at nest i) → Before end i
unfolding step_of
item_before end at nest (I.Tok k e) = token_before end nest (kind_of k) e
item_before end at nest (I.Gap e) = λ g. g
item_before end at nest I.End = choose_keeps (λ s. Kept end s → ⊥) (eqb nest 0) (λ _ g. g) (λ _ g. g)
item_before end at nest (I.Error w e) = λ g. g

-- the step from near places on
pub step_near : (t t' : List ℕ) (end at nest : ℕ) → Near end at (chars (drop at t)) (chars (drop at t')) → Kept end (step_at t at nest) → step_at t' at nest ≡ step_at t at nest
unfolding step_at
step_near t t' end at nest h g = ap (step_of at nest) (item_near (beside h) (item_before end at nest (item_at (place_at t at)) g))
