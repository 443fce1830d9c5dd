-- The same of an item, and of what it does within brackets.
-- Assumes nothing.
use Prim.Native.Nat.{ℕ, ◌+◌}
use Prim.Native.Char.{code}
use mathlib.Core.Path.{◌≡◌, refl, ◌∙◌, ap}
use mathlib.Core.List.{List}
use native.Mathlib.Nat.{add_assoc}
use lib.Dec.{eqb}
use lib.ListN.{drop}
use Rattle.std.specs.Prelude.{Option, Some, None}
use Rattle.choice.proofs.Laws.{choose_both}
use Rattle.utf8.specs.Chars.{chars, no_char}
use Rattle.window.specs.Place.{Place, place_at, nth, slid, next_char}
use Rattle.classes.specs.Classes.{is_identifier_start, is_emoji}
use Rattle.token.specs.declared.StringKind.{StringKind}
use Rattle.token.specs.declared.Item.{Item}
use Rattle.token.specs.declared.Item.TheVariants as I
use Rattle.token.specs.declared.Token.TheVariants as N
use Rattle.token.specs.declared.Ending.TheVariants as E
use Rattle.token.specs.Kinds as K
use Rattle.token.specs.Codes.{kind_of}
use Rattle.names.specs.Runs.{is_newline, not_newline, is_blank}
use Rattle.strings.specs.Strings.{opening_of, ahead, string_at}
use Rattle.operators.specs.Operators.{longest_operator}
use Rattle.lexer.specs.Items.{starts_number, joined_line, continuation, other_at, operator_at, normal_at, open_at, item_at}
use Rattle.lexer.specs.declared.Step.{Step}
use Rattle.lexer.specs.declared.Step.TheVariants as T
use Rattle.token.specs.Brackets.{is_opener, is_closer}
use Rattle.lexer.specs.Steps.{token_step, step_of, step_at}
use Rattle.margin_comments.proofs.Places.{further, moved_item, Items, slid_further, next_further, skip_further, name_further, ahead_further, string_further, number_further}

module _ (d : ℕ) where
  joined_further : (p : Place) → joined_line (further d p) ≡ moved_item d (joined_line p)
  unfolding joined_line
  joined_further p = choose_both (Items d) (eqb (nth p 0) no_char) (λ _. refl) (λ _. refl)

  continuation_further : (p : Place) → continuation (further d p) ≡ moved_item d (continuation p)
  unfolding continuation
  continuation_further p =
      choose_both (Items d) (is_newline (nth p 1))
      (λ _. ap (λ (q : Place). joined_line (next_char q)) (slid_further d p) ∙ ap joined_line (next_further d (slid p)) ∙ joined_further (next_char (slid p)))
      (λ _. ap (λ (q : Place). I.Error E.LineContinuationError q.at) (slid_further d p))

  other_further : (p : Place) → other_at (further d p) ≡ moved_item d (other_at p)
  unfolding other_at
  other_further p =
      choose_both (Items d) (eqb (nth p 0) (code "#")) (λ _. ap (λ (q : Place). I.Tok N.Comment q.at) (skip_further d not_newline p))
      (λ _. choose_both (Items d) (is_newline (nth p 0)) (λ _. ap (λ (q : Place). I.Tok N.Newline q.at) (next_further d p))
      (λ _. choose_both (Items d) (eqb (nth p 0) (code "\\")) (λ _. continuation_further p)
      (λ _. choose_both (Items d) (eqb (nth p 0) (code "!")) (λ _. refl)
      (λ _. choose_both (Items d) (is_emoji (nth p 0)) (λ _. ap (λ (q : Place). I.Tok N.Name q.at) (slid_further d p))
      (λ _. ap (λ (q : Place). I.Error (E.UnrecognizedToken (nth p 0)) q.at) (slid_further d p))))))

  operator_further : (p : Place) (o : Option (ℕ × ℕ)) → operator_at (further d p) o ≡ moved_item d (operator_at p o)
  unfolding operator_at
  operator_further p (Some (k, n)) = ap (I.Tok (N.Operator k)) (add_assoc d p.at n)
  operator_further p None = other_further p

  normal_further : (p : Place) → normal_at (further d p) ≡ moved_item d (normal_at p)
  unfolding normal_at
  normal_further p =
      choose_both (Items d) (is_identifier_start (nth p 0)) (λ _. name_further d p)
      (λ _. choose_both (Items d) (starts_number (nth p 0) (nth p 1)) (λ _. number_further d p)
      (λ _. operator_further p (longest_operator (nth p 0) (nth p 1) (nth p 2))))

  open_further : (p : Place) (o : Option (StringKind × ℕ)) → open_at (further d p) o ≡ moved_item d (open_at p o)
  unfolding open_at
  open_further p (Some (k, n)) = ap (string_at k) (ahead_further d n p) ∙ string_further d k (ahead n p)
  open_further p None = normal_further p

  item_further : (p : Place) → item_at (further d p) ≡ moved_item d (item_at p)
  unfolding item_at
  item_further p =
      choose_both (Items d) (eqb (nth p 0) no_char) (λ _. refl)
      (λ _. choose_both (Items d) (is_blank (nth p 0)) (λ _. ap (λ (q : Place). I.Gap q.at) (skip_further d is_blank p))
      (λ _. open_further p (opening_of (nth p 0) (nth p 1) (nth p 2))))

  -- ---- steps
  abbrev pub moved_step : Step → Step
  moved_step (T.Gap e) = T.Gap (d + e)
  moved_step (T.Tok k e n) = T.Tok k (d + e) n
  moved_step (T.Newline e) = T.Newline (d + e)
  moved_step (T.Error w p) = T.Error w (d + p)
  moved_step T.End = T.End

  abbrev Steps : Step → Step → Type 0
  Steps x y = x ≡ moved_step y

  token_further : (nest k e : ℕ) → token_step nest k (d + e) ≡ moved_step (token_step nest k e)
  unfolding token_step
  token_further nest k e =
      choose_both Steps (eqb k K.newline) (λ _. choose_both Steps (eqb nest 0) (λ _. refl) (λ _. refl))
      (λ _. choose_both Steps (is_opener k) (λ _. refl)
      (λ _. choose_both Steps (is_closer k) (λ _. choose_both Steps (eqb nest 0) (λ _. refl) (λ _. refl)) (λ _. refl)))

  step_of_further : (at nest : ℕ) (i : Item) → step_of (d + at) nest (moved_item d i) ≡ moved_step (step_of at nest i)
  unfolding step_of
  step_of_further at nest (I.Tok k e) = token_further nest (kind_of k) e
  step_of_further at nest (I.Gap e) = refl
  step_of_further at nest I.End = choose_both Steps (eqb nest 0) (λ _. refl) (λ _. refl)
  step_of_further at nest (I.Error w e) = refl

  -- a step of two texts with the same bytes from here on
  pub step_further : (t t' : List ℕ) (at nest : ℕ) → drop (d + at) t' ≡ drop at t → step_at t' (d + at) nest ≡ moved_step (step_at t at nest)
  unfolding step_at
  step_further t t' at nest e =
      ap (λ (l : List ℕ). step_of (d + at) nest (item_at (record { at = d + at; rest = chars l }))) e
      ∙ ap (step_of (d + at) nest) (item_further (place_at t at))
      ∙ step_of_further at nest (item_at (place_at t at))
