-- Items and steps go forward within the text, and a step opens no more brackets than it has bytes.
-- Assumes nothing.
use Prim.Native.Nat.{ℕ, ◌+◌, ◌-◌, ◌<◌, ◌≤◌}
use Prim.Native.Char.{code}
use mathlib.Core.Path.{◌≡◌, refl, sym, ◌∙◌, ap, subst}
use mathlib.Core.List.{List}
use mathlib.Core.Bool.{Bool, true, false}
use mathlib.Core.Logic.{◌⊎◌, inl, inr, ⊎_elim}
use native.Mathlib.Omega.{arith}
use native.Mathlib.Decide.{dec_lt}
use borrow.Author.Tests.{eqb-true, eqb-false}
use lib.ListN.{length, get_or}
use lib.Dec.{eqb}
use Rattle.std.specs.Prelude.{Option, Some, None}
use Rattle.choice.specs.Choice.{choose}
use Rattle.choice.proofs.Laws.{choose_keeps, true_is_not_false}
use Rattle.lines.specs.Promises.{Part}
use Rattle.window.specs.Place.{Place, place_at, nth, slid, next_char}
use Rattle.window.proofs.Laws.{slid_le, step_le}
use Rattle.window.proofs.Within.{Within, within_at, within_slid, within_step, slid_lt}
use Rattle.utf8.proofs.Pass.{found}
use Rattle.classes.specs.Classes.{is_identifier_start, is_emoji}
use Rattle.token.specs.declared.StringKind.{StringKind}
use Rattle.token.specs.Kinds as K
use Rattle.token.specs.declared.Token.{Token}
use Rattle.token.specs.declared.Item.{Item}
use Rattle.token.specs.declared.Item.TheVariants.{Tok, Gap, End, Error}
use Rattle.token.specs.declared.Token.TheVariants.{Comment}
use Rattle.token.specs.Codes.{kind_of}
use Rattle.utf8.specs.Chars.{no_char}
use Rattle.names.specs.Runs.{skip_while, is_newline, not_newline, is_blank}
use Rattle.names.specs.Names.{name_at}
use Rattle.names.proofs.Bounds.{run_forward, skip_forward, name_forward}
use Rattle.strings.specs.Strings.{opening_of, ahead, string_at}
use Rattle.strings.proofs.Openings.{opened}
use Rattle.strings.proofs.Bounds as strings
use Rattle.numbers.specs.Numbers.{is_digit, number_at}
use Rattle.numbers.proofs.Bounds as numbers
use Rattle.operators.proofs.Bounds.{Reach, operator_reach}
use Rattle.lexer.specs.declared.Step.{Step}
use Rattle.lexer.specs.declared.Step.TheVariants as T
use Rattle.lexer.specs.declared.Seen.{Seen}
use Rattle.lexer.specs.declared.Seen.TheVariants as G
use Rattle.lexer.specs.Items.{starts_number, joined_line, continuation, other_at, operator_at, normal_at, open_at, item_at}
use Rattle.lexer.specs.Promises.{glanced_at, Glanced}
use Rattle.token.specs.Brackets.{is_opener, is_closer}
use Rattle.lexer.specs.Steps.{is_note, token_step, step_of, step_at}
use Rattle.lexer.proofs.Items.{spans_fit}
use Rattle.lexer.proofs.KindsOf.{Proper, Kind, numbered, name_kind, string_kind_lem, number_kind}

-- an item ends behind its place, within the text, and is a token that an item can be; the end is the text's end
abbrev pub Forward : List ℕ → ℕ → Item → Type 0
Forward t at (Tok k e) = (at < e) × (e ≤ length t) × ((kind_of k ≡ K.newline) ⊎ ((kind_of k ≡ K.comment) ⊎ Proper k))
Forward t at (Gap e) = (at < e) × (e ≤ length t)
Forward t at End = at ≡ length t
Forward t at (Error w e) = e ≤ length t

-- the parts of it, one by one
abbrev Moves : List ℕ → ℕ → Item → Type 0
Moves t at (Tok k e) = (at < e) × (e ≤ length t)
Moves t at (Gap e) = (at < e) × (e ≤ length t)
Moves t at End = at ≡ length t
Moves t at (Error w e) = e ≤ length t

joins : (t : List ℕ) (at : ℕ) (i : Item) → Moves t at i → Kind i → Forward t at i
joins t at (Tok k e) m p = (m.0, m.1, inr (inr p))
joins t at (Gap e) m p = m
joins t at End m p = m
joins t at (Error w e) m p = m

string_moves : (t : List ℕ) (at from : ℕ) (i : Item) → at ≤ from → strings.Within t from i → Moves t at i
unfolding strings.Within
string_moves t at from (Tok k e) h w = omega arith
string_moves t at from (Error x e) h w = w.1
string_moves t at from (Gap e) h w = absurd w
string_moves t at from End h w = absurd w

number_moves : (t : List ℕ) (at : ℕ) (i : Item) → numbers.Ends at (length t) i → Moves t at i
number_moves t at (Tok k e) w = w
number_moves t at (Error x e) w = w.1
number_moves t at (Gap e) w = absurd w
number_moves t at End w = absurd w

blank_none : is_blank no_char ≡ false
unfolding is_blank
blank_none = refl

module _ (t : List ℕ) (at : ℕ) (h : at ≤ length t) where
  abbrev p : Place
  p = place_at t at

  abbrev F : Item → Type 0
  F = Forward t at

  inside : Within t p
  inside = within_at t at h

  -- past the last character
  ends : nth p 0 ≡ no_char → at ≡ length t
  ends e = go (dec_lt at (length t))
    where
      go : Dec (at < length t) → at ≡ length t
      go (yes l) = let k = found t at l in absurd (k.some (sym (ap (λ l. get_or l 0 no_char) k.here.list) ∙ e))
      go (no l) = omega arith

  module _ (n : nth p 0 ≡ no_char → ⊥) where
    one_on : (at < (slid p).at) × ((slid p).at ≤ length t)
    one_on = (slid_lt t p inside n, (within_slid t p inside).fits)

    step_on : (at < (next_char p).at) × ((next_char p).at ≤ length t)
    unfolding next_char
    step_on =
        let f = within_slid t p inside in
        choose_keeps (λ (q : Place). (at < q.at) × (q.at ≤ length t)) (eqb (nth p 0) (code "\r"))
        (λ _. choose_keeps (λ (q : Place). (at < q.at) × (q.at ≤ length t)) (eqb (nth p 1) (code "\n"))
        (λ _. (omega (arith, one_on.0, slid_le (slid p)), (within_slid t (slid p) f).fits)) (λ _. one_on))
        (λ _. one_on)

    joined_forward : F (joined_line (next_char (slid p)))
    unfolding joined_line
    joined_forward =
        let s = within_step t (slid p) (within_slid t p inside) in
        choose_keeps F (eqb (nth (next_char (slid p)) 0) no_char) (λ _. s.fits) (λ _. (omega (arith, one_on.0, step_le (slid p)), s.fits))

    -- over the `#` and what follows it
    comment_forward : nth p 0 ≡ code "#" → F (Tok Comment (skip_while not_newline p).at)
    unfolding not_newline is_newline
    comment_forward e = let w = run_forward not_newline t at (λ z. omega arith) (ap not_newline e) in (w.0, w.1, inr (inl refl))

    other_forward : F (other_at p)
    unfolding other_at continuation
    other_forward =
        let c = nth p 0 in
        choose_keeps F (eqb c (code "#")) (λ e. comment_forward (eqb-true c (code "#") e))
        (λ _. choose_keeps F (is_newline c) (λ _. (step_on.0, step_on.1, inl refl))
        (λ _. choose_keeps F (eqb c (code "\\"))
        (λ _. choose_keeps F (is_newline (nth p 1)) (λ _. joined_forward) (λ _. one_on.1))
        (λ _. choose_keeps F (eqb c (code "!")) (λ _. h)
        (λ _. choose_keeps F (is_emoji c) (λ _. (one_on.0, one_on.1, inr (inr tt))) (λ _. one_on.1)))))

    operator_forward : (s : Option (ℕ × ℕ)) → Reach (nth p 0) (nth p 1) (nth p 2) s → F (operator_at p s)
    unfolding operator_at
    operator_forward (Some (k, m)) r = (omega (arith, r.some), spans_fit t at k m r, inr (inr (r.low, r.high)))
    operator_forward None r = other_forward

    starts_digit : starts_number (nth p 0) (nth p 1) ≡ true → (is_digit 10 (nth p 0) ≡ true) ⊎ (nth p 0 ≡ code ".")
    unfolding starts_number
    starts_digit =
        let Q : Bool → Type 0 = λ b. b ≡ true → (is_digit 10 (nth p 0) ≡ true) ⊎ (nth p 0 ≡ code ".") in
        let c = nth p 0 in
        choose_keeps Q (is_digit 10 c) (λ e _. inl e)
        (λ _. choose_keeps Q (eqb c (code ".")) (λ e _. inr (eqb-true c (code ".") e)) (λ _ e. absurd (true_is_not_false (sym e))))

    name_moves : is_identifier_start (nth p 0) ≡ true → Moves t at (name_at p)
    unfolding name_at
    name_moves e = name_forward t at _ _ e refl

    word_forward : F (normal_at p)
    unfolding normal_at
    word_forward =
        choose_keeps F (is_identifier_start (nth p 0))
        (λ e. joins t at (name_at p) (name_moves e) (name_kind p))
        (λ _. choose_keeps F (starts_number (nth p 0) (nth p 1))
        (λ e. joins t at (number_at p) (number_moves t at (number_at p) (numbers.number_ends t at (starts_digit e))) (number_kind p))
        (λ _. operator_forward _ (operator_reach (nth p 0) (nth p 1) (nth p 2))))

    open_forward : (o : Option (StringKind × ℕ)) → opening_of (nth p 0) (nth p 1) (nth p 2) ≡ o → F (open_at p o)
    unfolding open_at
    open_forward (Some (k, c)) e =
        let d = opened t at k c e in
        joins t at (string_at k (ahead c p))
        (subst (λ (q : Place). Moves t at (string_at k q)) d.place (string_moves t at (at + c) _ (omega arith) (strings.string_within t (at + c) k d.quote)))
        (string_kind_lem k (ahead c p))
    open_forward None e = word_forward

    blank_forward : is_blank (nth p 0) ≡ true → F (Gap (skip_while is_blank p).at)
    blank_forward e = skip_forward is_blank t at blank_none e

  pub item_forward : F (item_at p)
  unfolding item_at
  item_forward =
      choose_keeps F (eqb (nth p 0) no_char) (λ e. ends (eqb-true _ _ e))
      (λ e. let n = eqb-false (nth p 0) no_char e in
      choose_keeps F (is_blank (nth p 0)) (λ f. blank_forward n f) (λ _. open_forward n _ refl))

-- ---- steps
-- a step ends past its start and within the text, and opens no more brackets than it has bytes; a token in a line is no Newline, Indent or
-- Dedent, and only brackets change the count
abbrev pub Goes : ℕ → ℕ → ℕ → Step → Type 0
Goes at to nest (T.Gap e) = (at < e) × (e ≤ to)
Goes at to nest (T.Tok k e n) = (at < e) × (e ≤ to) × (n + at ≤ nest + e) × (K.dedent < k) × (K.first_soft ≤ k → n ≡ nest) × (is_note k ≡ true → n ≡ nest)
Goes at to nest (T.Newline e) = (at < e) × (e ≤ to) × (nest ≡ 0)
Goes at to nest (T.Error w p) = p ≤ to
Goes at to nest T.End = (at ≡ to) × (nest ≡ 0)

-- one of three numbers
among : (P : ℕ → Type 0) (a b c k : ℕ) → P a → P b → P c → choose (eqb k a) (λ _. true) (λ _. choose (eqb k b) (λ _. true) (λ _. eqb k c)) ≡ true → P k
among P a b c k x y z =
    let Q : Bool → Type 0 = λ v. v ≡ true → P k in
    choose_keeps Q (eqb k a) (λ e _. subst P (sym (eqb-true k a e)) x)
    (λ _. choose_keeps Q (eqb k b) (λ e _. subst P (sym (eqb-true k b e)) y) (λ _ e. subst P (sym (eqb-true k c e)) z))

-- a bracket is no note and no soft keyword
abbrev Between : ℕ → Type 0
Between k = (K.lpar ≤ k) × (k ≤ K.rbrace)

opener_is : (k : ℕ) → is_opener k ≡ true → Between k
unfolding is_opener
opener_is k = among Between K.lpar K.lsqb K.lbrace k (omega arith, omega arith) (omega arith, omega arith) (omega arith, omega arith)

closer_is : (k : ℕ) → is_closer k ≡ true → Between k
unfolding is_closer
closer_is k = among Between K.rpar K.rsqb K.rbrace k (omega arith, omega arith) (omega arith, omega arith) (omega arith, omega arith)

bracket_apart : (k : ℕ) → is_note k ≡ true → Between k → ⊥
unfolding is_note
bracket_apart k =
    choose_keeps (λ (b : Bool). b ≡ true → Between k → ⊥) (eqb k K.comment) (λ e _ h. omega (arith, eqb-true k K.comment e)) (λ _ e h. omega (arith, eqb-true k K.non_logical_newline e))

token_goes : (at to nest k e : ℕ) → at < e → e ≤ to → (k ≡ K.newline) ⊎ (K.dedent < k) → Goes at to nest (token_step nest k e)
unfolding token_step
token_goes at to nest k e a b s =
    let G = Goes at to nest in
    choose_keeps G (eqb k K.newline)
    (λ _. choose_keeps G (eqb nest 0) (λ z. (a, b, eqb-true nest 0 z)) (λ _. (a, b, omega arith, omega arith, (λ _. refl), λ _. refl)))
    (λ n. let high : K.dedent < k = some s (eqb-false k K.newline n) in
    choose_keeps G (is_opener k) (λ o. (a, b, omega arith, high, (λ l. absurd (omega (arith, opener_is k o))), λ l. absurd (bracket_apart k l (opener_is k o))))
    (λ _. choose_keeps G (is_closer k)
    (λ c. choose_keeps G (eqb nest 0) (λ _. b) (λ z. (a, b, omega arith, high, (λ l. absurd (omega (arith, closer_is k c))), λ l. absurd (bracket_apart k l (closer_is k c)))))
    (λ _. (a, b, omega arith, high, (λ _. refl), λ _. refl))))
  where
    some : (k ≡ K.newline) ⊎ (K.dedent < k) → (k ≡ K.newline → ⊥) → K.dedent < k
    some (inl e) n = absurd (n e)
    some (inr h) n = h

pub step_goes : (t : List ℕ) (at nest : ℕ) → at ≤ length t → Goes at (length t) nest (step_at t at nest)
unfolding step_at step_of
step_goes t at nest h = go (item_at (place_at t at)) (item_forward t at h)
  where
    go : (i : Item) → Forward t at i → Goes at (length t) nest (step_of at nest i)
    go (Tok k e) f = token_goes at (length t) nest (kind_of k) e f.0 f.1 (⊎_elim inl (⊎_elim (λ z. inr (omega arith)) (λ p. inr (numbered k p).high)) f.2)
    go (Gap e) f = f
    go End f = choose_keeps (Goes at (length t) nest) (eqb nest 0) (λ z. (f, eqb-true nest 0 z)) (λ _. omega arith)
    go (Error w e) f = f

-- the brackets that are open fit before a token's end
pub tok_room : (t : List ℕ) (at nest : ℕ) (i : Item) (k : Token) (e : ℕ) → i ≡ item_at (place_at t at) → (nest ≤ at) × (at ≤ length t) → i ≡ Tok k e → nest < e
tok_room t at nest i k e q h p = omega (arith, subst (Forward t at) (sym q ∙ p) (item_forward t at h.1))

-- a step that a call gives goes forward, so that less of the text is left behind it
module _ (t : List ℕ) (at nest : ℕ) (r : Step) (q : r ≡ step_at t at nest) (h : at ≤ length t) where
  pub goes : (x : Step) → r ≡ x → Goes at (length t) nest x
  goes x z = subst (Goes at (length t) nest) (sym q ∙ z) (step_goes t at nest h)

  pub gap_less : (e : ℕ) → r ≡ T.Gap e → length t - e < length t - at
  gap_less e z = omega (arith, goes (T.Gap e) z)

  pub tok_less : (k e n : ℕ) → r ≡ T.Tok k e n → length t - e < length t - at
  tok_less k e n z = omega (arith, goes (T.Tok k e n) z)

  -- the part that it takes, in which line ends are counted
  pub gap_part : (e : ℕ) → r ≡ T.Gap e → Part t at e
  gap_part e z = omega (arith, goes (T.Gap e) z)

  pub tok_part : (k e n : ℕ) → r ≡ T.Tok k e n → Part t at e
  tok_part k e n z = omega (arith, goes (T.Tok k e n) z)

  pub line_part : (e : ℕ) → r ≡ T.Newline e → Part t at e
  line_part e z = omega (arith, goes (T.Newline e) z)

-- and so does what a glance tells
module _ (t : List ℕ) (at nest : ℕ) (q : Seen) (g : Glanced t at nest q) (h : at ≤ length t) where
  pub blank_less : (e : ℕ) → place_at t e ≡ skip_while is_blank (place_at t at) → q ≡ G.Blank → length t - e < length t - at
  blank_less e w z = gap_less t at nest _ refl h e (subst (Glanced t at nest) z g e w)

  pub token_less : (k e : ℕ) → e ≡ (glanced_at t at k).end → q ≡ G.Token k → length t - e < length t - at
  token_less k e u z = let m = subst (Glanced t at nest) z g in rw u (tok_less t at nest _ refl h _ _ _ m.token)
