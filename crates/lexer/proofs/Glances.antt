-- What a glance at one or two bytes says of a step: a blank, a name and an operator of one byte are told by their first byte, where
-- the second makes no string's prefix of it and no longer operator.
-- Assumes nothing.
use Prim.Native.Nat.{ℕ, ◌+◌, ◌-◌, ◌<◌, ◌≤◌}
use Prim.Native.Char.{code}
use mathlib.Core.Path.{◌≡◌, refl, sym, ◌∙◌, ap, subst}
use mathlib.Core.List.{List}
use mathlib.Core.Bool.{Bool, true, false}
use mathlib.Core.Logic.{inl, inr}
use native.Mathlib.Omega.{arith}
use borrow.Author.Tests.{eqb-true, eqb-false, ltb-true, leb-true, ne_eqb, eq-eqb}
use lib.ListN.{length, get_or}
use lib.Dec.{eqb, leb}
use Rattle.std.specs.Prelude.{Option, Some, None, IfSome}
use Rattle.choice.proofs.Laws.{choose_keeps, true_is_not_false}
use Rattle.utf8.specs.Chars.{no_char}
use Rattle.window.specs.Place.{Place, place_at, nth}
use Rattle.window.proofs.Laws.{this_nth, next_nth, next_place, step_other}
use Rattle.classes.specs.Classes.{is_identifier_start, is_identifier_continuation}
use Rattle.classes.specs.Promises.{is_ascii_start}
use Rattle.classes.proofs.Laws.{ascii_start}
use Rattle.lines.specs.Lines.{line_at}
use Rattle.lines.proofs.Chars.{line_lf, line_inside}
use Rattle.names.proofs.Lines.{name_line}
use Rattle.names.specs.declared.Lexed.{Lexed}
use Rattle.names.specs.Runs.{skip_while, taken, is_newline, is_blank}
use Rattle.names.specs.Names.{kind_of_name, name_token, name_at}
use Rattle.names.specs.Promises.{lexed_name}
use Rattle.strings.specs.Strings.{is_quote, lower, one_letter, beside_r, two_letters, opening_of}
use Rattle.numbers.specs.Numbers.{digit_value, is_digit}
use Rattle.numbers.proofs.Bounds.{no_digit}
use Rattle.operators.specs.Operators.{longest_operator, single}
use Rattle.lexer.specs.declared.Step.TheVariants as T
use Rattle.lexer.specs.declared.Seen.TheVariants as G
use Rattle.token.specs.declared.StringKind.{StringKind}
use Rattle.token.specs.Kinds as K
use Rattle.token.specs.declared.Item.TheVariants.{Tok, Gap}
use Rattle.token.specs.declared.Token.TheVariants as N
use Rattle.token.specs.Codes.{kind_of}
use Rattle.lexer.specs.Items.{starts_number, other_at, operator_at, normal_at, open_at, item_at}
use Rattle.token.specs.Brackets.{is_opener, is_closer}
use Rattle.lexer.specs.Steps.{is_note, token_step, step_of, step_at, nest_after}
use Rattle.lexer.proofs.KindsOf.{kind_high}
use Rattle.lexer.specs.Promises.{starts_name, may_open, is_apart, Mark, Single, Alone, glanced_at, Told, Glanced}
use Rattle.lexer.proofs.Firsts.{Plain, lower_is, start_range, no_quote, plain_opens, first_name, first_blank}
use Rattle.lexer.proofs.Steps.{token_open, token_close, token_plain, step_gap}

-- ---- the brackets after a token
module _ (nest k : ℕ) (x : Bool) (q : is_opener k ≡ x) where
  pub nest_open : x ≡ true → nest + 1 ≡ nest_after nest k
  unfolding nest_after
  nest_open f = rw (q ∙ f)

  module _ (g : x ≡ false) (y : Bool) (m : is_closer k ≡ y) where
    pub nest_none : y ≡ true → nest ≡ 0 → 0 ≡ nest_after nest k
    unfolding nest_after
    nest_none f z = rw (q ∙ g, m ∙ f, z)

    pub nest_close : y ≡ true → nest - 1 ≡ nest_after nest k
    unfolding nest_after
    nest_close f = rw (q ∙ g, m ∙ f)

    pub nest_same : y ≡ false → nest ≡ nest_after nest k
    unfolding nest_after
    nest_same f = rw (q ∙ g, m ∙ f)

-- ---- the token that a glance means
module _ (t : List ℕ) (at q : ℕ) where
  pub glanced_word : (w : Lexed) → w ≡ lexed_name (place_at t at) → q ≡ K.name → w ≡ glanced_at t at q
  unfolding glanced_at
  glanced_word w e z = e ∙ rw (eq-eqb q K.name z)

  pub glanced_sign : (q ≡ K.name → ⊥) → ◌≡◌ {A = Lexed} (record { kind = q; end = at + 1 }) (glanced_at t at q)
  unfolding glanced_at
  glanced_sign z = rw (ne_eqb q K.name z)

-- ---- bytes that are operators
pub mark_is : (n : ℕ) → code " " < n → n < 128 → is_ascii_start n ≡ false → is_digit 10 n ≡ false → is_quote n ≡ false → Mark n
mark_is n a b s d q = record { above = a; below = b; start = s; digit = d; quote = q }

pub single_is : (b n r : ℕ) → b ≡ n → Mark n → eqb n (code ".") ≡ false → ((c d : ℕ) → longest_operator n c d ≡ Some (r, 1)) → K.equal ≤ r → Single b r
single_is b n r e m d s h = subst (λ x. Single x r) (sym e) (record { mark = m; high = h; dot = d; same = s })

-- a character that stands apart is none of those that make an operator longer
pub record Apart (c : ℕ) : Type 0 where
  pub equal : eqb c (code "=") ≡ false
  pub star : eqb c (code "*") ≡ false
  pub slash : eqb c (code "/") ≡ false
  pub less : eqb c (code "<") ≡ false
  pub more : eqb c (code ">") ≡ false
  pub dot : eqb c (code ".") ≡ false
  pub digit : is_digit 10 c ≡ false

pub apart : (c : ℕ) → is_apart c ≡ true → Apart c
unfolding is_apart
apart c =
    choose_keeps (λ b. b ≡ true → Apart c) (leb c (code " "))
    (λ a _. let h = leb-true c (code " ") a in
    record {
      equal = ne_eqb c (code "=") (λ e. omega arith);
      star = ne_eqb c (code "*") (λ e. omega arith);
      slash = ne_eqb c (code "/") (λ e. omega arith);
      less = ne_eqb c (code "<") (λ e. omega arith);
      more = ne_eqb c (code ">") (λ e. omega arith);
      dot = ne_eqb c (code ".") (λ e. omega arith);
      digit = no_digit c (inl (omega arith));
    })
    (λ _ b. let h = ltb-true (code "@") c b in
    record {
      equal = ne_eqb c (code "=") (λ e. omega arith);
      star = ne_eqb c (code "*") (λ e. omega arith);
      slash = ne_eqb c (code "/") (λ e. omega arith);
      less = ne_eqb c (code "<") (λ e. omega arith);
      more = ne_eqb c (code ">") (λ e. omega arith);
      dot = ne_eqb c (code ".") (λ e. omega arith);
      digit = no_digit c (inr (omega arith));
    })

no_number : (b c : ℕ) → is_digit 10 b ≡ false → Apart c → starts_number b c ≡ false
unfolding starts_number
no_number b c d k = rw d (choose_keeps (λ y. y ≡ false) (eqb b (code ".")) (λ _. k.digit) (λ _. refl))

pub alone_is : (b n r : ℕ) → b ≡ n → Mark n → K.equal ≤ r → is_opener r ≡ false → is_closer r ≡ false → ((c d : ℕ) → Apart c → longest_operator n c d ≡ Some (r, 1)) → Alone b r
alone_is b n r e m h o k s =
    subst (λ x. Alone x r) (sym e) (record { mark = m; high = h; bracket = (o, k); same = λ c d a. s c d (apart c a) })

-- ---- ends that a glance means
module _ (t : List ℕ) (at q : ℕ) where
  pub end_name : (e : ℕ) → place_at t e ≡ skip_while is_identifier_continuation (place_at t at) → q ≡ K.name → e ≡ (glanced_at t at q).end
  unfolding glanced_at lexed_name
  end_name e w z = ap (λ (p : Place). p.at) w ∙ rw (eq-eqb q K.name z)

  pub end_sign : (q ≡ K.name → ⊥) → at + 1 ≡ (glanced_at t at q).end
  unfolding glanced_at
  end_sign z = rw (ne_eqb q K.name z)

-- ---- what opens no string
-- a mark
mark_plain : (b : ℕ) → Mark b → Plain b
unfolding is_ascii_start
mark_plain b m =
    record {
      quote = m.quote;
      other = λ z. lower_is b (code "b") (omega arith) z (λ e. not_start (code "b") refl e) (λ e. not_start (code "B") refl (omega arith));
      other_f = λ z. lower_is b (code "f") (omega arith) z (λ e. not_start (code "f") refl e) (λ e. not_start (code "F") refl (omega arith));
      other_r = λ z. lower_is b (code "r") (omega arith) z (λ e. not_start (code "r") refl e) (λ e. not_start (code "R") refl (omega arith));
      other_u = λ z. lower_is b (code "u") (omega arith) z (λ e. not_start (code "u") refl e) (λ e. not_start (code "U") refl (omega arith));
    }
  where
    not_start : (n : ℕ) → is_ascii_start n ≡ true → b ≡ n → ⊥
    not_start n s e = true_is_not_false (sym s ∙ ap is_ascii_start (sym e) ∙ m.start)

-- a letter of a prefix before a character that is neither a quote nor another such letter
prefix_plain : (a b c : ℕ) → is_quote a ≡ false → may_open b ≡ false → opening_of a b c ≡ None
unfolding opening_of one_letter two_letters beside_r may_open is_quote
prefix_plain a b c q =
    let Q : Bool → Type 0 = λ x. x ≡ false → opening_of a b c ≡ None in
    let no : Q true = λ e. absurd (true_is_not_false e) in
    choose_keeps Q (eqb b (code "\"")) (λ _. no)
    (λ no-double. choose_keeps Q (eqb b (code "'")) (λ _. no)
    (λ no-single. choose_keeps Q (eqb b (code "B")) (λ _. no)
    (λ no-B. choose_keeps Q (eqb b (code "F")) (λ _. no)
    (λ no-F. choose_keeps Q (eqb b (code "R")) (λ _. no)
    (λ no-R. choose_keeps Q (eqb b (code "b")) (λ _. no)
    (λ no-b. choose_keeps Q (eqb b (code "f")) (λ _. no)
    (λ no-f no-r.
    let x = ne_eqb (lower b) (code "b") (λ z. lower_is b (code "b") (omega arith) z (eqb-false b (code "b") no-b) (λ y. eqb-false b (code "B") no-B (omega arith))) in
    let f = ne_eqb (lower b) (code "f") (λ z. lower_is b (code "f") (omega arith) z (eqb-false b (code "f") no-f) (λ y. eqb-false b (code "F") no-F (omega arith))) in
    let r = ne_eqb (lower b) (code "r") (λ z. lower_is b (code "r") (omega arith) z (eqb-false b (code "r") no-r) (λ y. eqb-false b (code "R") no-R (omega arith))) in
    let P : Option (StringKind × ℕ) → Type 0 = λ o. o ≡ None in
    simp (q, no-double, no-single, x, f, r)
    (choose_keeps P (is_quote c) (λ _. choose_keeps P (eqb (lower a) (code "r")) (λ _. refl) (λ _. refl)) (λ _. refl)))))))))

-- ---- steps
-- a token that closes no bracket too many
token_after : (nest k e : ℕ) → (k ≡ K.newline → ⊥) → (is_closer k ≡ true → nest ≡ 0 → ⊥) → token_step nest k e ≡ T.Tok k e (nest_after nest k)
token_after nest k e n z = go (is_opener k) refl (is_closer k) refl
  where
    go : (x : Bool) → is_opener k ≡ x → (y : Bool) → is_closer k ≡ y → token_step nest k e ≡ T.Tok k e (nest_after nest k)
    go true o y c = sym (token_open nest k e n true o refl) ∙ ap (T.Tok k e) (nest_open nest k true o refl)
    go false o true c = sym (token_close nest k e n false o refl true c refl (z c)) ∙ ap (T.Tok k e) (nest_close nest k false o refl true c refl)
    go false o false c = sym (token_plain nest k e n false o refl false c refl) ∙ ap (T.Tok k e) (nest_same nest k false o refl false c refl)

no_note : (k : ℕ) → (k ≡ K.comment → ⊥) → (k ≡ K.non_logical_newline → ⊥) → is_note k ≡ false
unfolding is_note
no_note k a b = simp (ne_eqb k K.comment a, ne_eqb k K.non_logical_newline b)

-- the kind of a name is no Newline, no bracket and no note
module _ (w : List ℕ) where
  no_other : (m : ℕ) → (m ≡ K.name → ⊥) → m < K.first_keyword → kind_of_name w ≡ m → ⊥
  no_other m n h e = omega (arith, kind_high w (λ z. n (sym e ∙ z)))

  not_one : (m : ℕ) → (m ≡ K.name → ⊥) → m < K.first_keyword → eqb (kind_of_name w) m ≡ false
  not_one m n h = ne_eqb (kind_of_name w) m (no_other m n h)

  name_opens : is_opener (kind_of_name w) ≡ false
  unfolding is_opener
  name_opens = simp (not_one K.lpar (λ z. omega arith) (omega arith), not_one K.lsqb (λ z. omega arith) (omega arith), not_one K.lbrace (λ z. omega arith) (omega arith))

  name_closes : is_closer (kind_of_name w) ≡ false
  unfolding is_closer
  name_closes = simp (not_one K.rpar (λ z. omega arith) (omega arith), not_one K.rsqb (λ z. omega arith) (omega arith), not_one K.rbrace (λ z. omega arith) (omega arith))

  name_apart : is_note (kind_of_name w) ≡ false
  name_apart = no_note (kind_of_name w) (no_other K.comment (λ z. omega arith) (omega arith)) (no_other K.non_logical_newline (λ z. omega arith) (omega arith))

name_number : (w : List ℕ) → kind_of (name_token w) ≡ kind_of_name w
unfolding name_token
name_number w = go (eqb (kind_of_name w) K.name) refl
  where
    go : (b : Bool) → eqb (kind_of_name w) K.name ≡ b → kind_of (name_token w) ≡ kind_of_name w
    go true e = rw e (sym (eqb-true _ K.name e))
    go false e = rw e

module _ (t : List ℕ) (at nest : ℕ) where
  glance_name : item_at (place_at t at) ≡ name_at (place_at t at) → Told t at nest K.name
  unfolding step_at step_of name_at glanced_at lexed_name nest_after is_opener is_closer
  glance_name e =
      let w = taken is_identifier_continuation (place_at t at).rest in
      let k = kind_of_name w in
      record {
        apart = name_apart w;
        inside = name_line t at;
        token =
            rw (e, name_number w)
            (token_after nest k _ (no_other w K.newline (λ z. omega arith) (omega arith)) (λ c. absurd (true_is_not_false (sym c ∙ name_closes w)))
            ∙ ap (T.Tok k _) (sym (nest_same nest k false (name_opens w) refl false (name_closes w) refl)));
      }

  module _ (g : at + 1 < length t) where
    h : at < length t
    h = omega arith

    pub glance_blank : get_or t at 0 ≡ code " " → Glanced t at nest G.Blank
    unfolding step_at step_of
    glance_blank z = λ e w. sym (step_gap t at nest (Gap e) (first_blank t at h e w z) e refl)

    pub glance_letter : (x : Bool) → starts_name (get_or t at 0) ≡ x → x ≡ true → Glanced t at nest (G.Token K.name)
    glance_letter x q f = glance_name (sym (first_name t at h x q f (name_at (place_at t at)) refl))

    -- an operator of one byte
    module _ (m : Mark (get_or t at 0)) where
      mark_here : nth (place_at t at) 0 ≡ get_or t at 0
      mark_here = this_nth t at h (omega (arith, m.below))

      mark_line : line_at t (at + 1) ≡ line_at t at
      mark_line = line_inside t at (λ e. omega (arith, m.above)) (λ e. omega (arith, m.above))

      mark_item : (r : ℕ) → starts_number (get_or t at 0) (nth (place_at t at) 1) ≡ false → longest_operator (get_or t at 0) (nth (place_at t at) 1) (nth (place_at t at) 2) ≡ Some (r, 1)
          → item_at (place_at t at) ≡ Tok (N.Operator r) (at + 1)
      unfolding item_at open_at normal_at operator_at is_blank
      mark_item r =
          let p = place_at t at in
          let c = nth p 0 in
          subst (λ b. starts_number b (nth p 1) ≡ false → longest_operator b (nth p 1) (nth p 2) ≡ Some (r, 1) → item_at p ≡ Tok (N.Operator r) (at + 1)) mark_here
          (λ s o.
          let k = subst Mark (sym mark_here) m in
          let a = k.above in
          let g = k.below in
          rw (ne_eqb c no_char (λ e. omega arith), ne_eqb c (code " ") (λ e. omega arith), ne_eqb c (code "\t") (λ e. omega arith), ne_eqb c (code "\u{c}") (λ e. omega arith), plain_opens c (nth p 1) (nth p 2) (mark_plain c k), ascii_start c g ∙ k.start, s, o))

      mark_step : (r : ℕ) → K.equal ≤ r → (is_closer r ≡ true → nest ≡ 0 → ⊥) → starts_number (get_or t at 0) (nth (place_at t at) 1) ≡ false
          → longest_operator (get_or t at 0) (nth (place_at t at) 1) (nth (place_at t at) 2) ≡ Some (r, 1) → Told t at nest r
      unfolding step_at step_of glanced_at
      mark_step r k c s o =
          let n = ne_eqb r K.name (λ e. omega arith) in
          record {
            apart = rw n (no_note r (λ e. omega arith) (λ e. omega arith));
            inside = rw n mark_line;
            token = rw (mark_item r s o, n) (token_after nest r (at + 1) (λ z. omega arith) c);
          }

    -- brackets and the comma
    module _ (o : Option ℕ) (s : IfSome o (Single (get_or t at 0))) (r : ℕ) (z : o ≡ Some r) where
      single_step : (is_closer r ≡ true → nest ≡ 0 → ⊥) → Told t at nest r
      unfolding starts_number
      single_step c = let m = subst (λ x. IfSome x (Single (get_or t at 0))) z s in mark_step m.mark r m.high c (rw (m.mark.digit, m.dot)) (m.same _ _)

      pub glance_single : (x : Bool) → is_closer r ≡ x → x ≡ false → Glanced t at nest (G.Token r)
      glance_single x q f = single_step (λ c. absurd (true_is_not_false (sym c ∙ q ∙ f)))

      pub glance_closer : (nest ≡ 0 → ⊥) → Glanced t at nest (G.Token r)
      glance_closer z = single_step (λ _. z)

    not_start : is_identifier_start (code "\n") ≡ false
    unfolding is_ascii_start
    not_start = ascii_start (code "\n") (omega arith)

    line_item : get_or t at 0 ≡ code "\n" → item_at (place_at t at) ≡ Tok N.Newline (at + 1)
    unfolding item_at open_at normal_at operator_at longest_operator single other_at is_blank is_newline is_digit digit_value starts_number is_quote lower
    line_item z =
        let p = place_at t at in
        let k : get_or t at 0 < 128 = omega arith in
        let c : nth p 0 ≡ code "\n" = this_nth t at h k ∙ z in
        let l : Plain (code "\n") = record { quote = refl; other = λ e. omega arith; other_f = λ e. omega arith; other_r = λ e. omega arith; other_u = λ e. omega arith } in
        let e = ap (λ (x : Place). x.at) (next_place t at h k ∙ step_other p (λ e. omega arith)) in
        rw (c, plain_opens (code "\n") (nth p 1) (nth p 2) l, c, not_start, c) (ap (Tok N.Newline) (sym e))

    pub glance_line : get_or t at 0 ≡ code "\n" → nest ≡ 0 → Glanced t at nest G.Newline
    unfolding step_at step_of token_step
    glance_line z n = (rw (line_item z, n), line_lf t at z)

    -- a second byte of ASCII
    module _ (l : get_or t (at + 1) 0 ≤ 127) where
      second : get_or t at 0 < 128 → nth (place_at t at) 1 ≡ get_or t (at + 1) 0
      second k = next_nth t at h k 0 ∙ this_nth t (at + 1) g (omega arith)

      pub glance_prefix : (x : Bool) → is_ascii_start (get_or t at 0) ≡ x → x ≡ true → (y : Bool) → may_open (get_or t (at + 1) 0) ≡ y → y ≡ false → Glanced t at nest (G.Token K.name)
      unfolding item_at open_at normal_at is_blank
      glance_prefix x q f y o e =
          let p = place_at t at in
          let c = nth p 0 in
          let r = start_range (get_or t at 0) (q ∙ f) in
          let low = r.0 in
          let high = r.1 in
          let z : c ≡ get_or t at 0 = this_nth t at h (omega arith) in
          let m = ap may_open (second (omega arith)) ∙ o ∙ e in
          glance_name
          (rw (ne_eqb c no_char (λ e. omega arith), ne_eqb c (code " ") (λ e. omega arith), ne_eqb c (code "\t") (λ e. omega arith), ne_eqb c (code "\u{c}") (λ e. omega arith), prefix_plain c (nth p 1) (nth p 2) (no_quote c (omega arith)) m, ascii_start c (omega arith) ∙ ap is_ascii_start z ∙ q ∙ f))

      pub glance_alone : (x : Bool) → is_apart (get_or t (at + 1) 0) ≡ x → x ≡ true → (o : Option ℕ) → IfSome o (Alone (get_or t at 0)) → (r : ℕ) → o ≡ Some r → Glanced t at nest (G.Token r)
      glance_alone x q f o i r z =
          let a = subst (λ x. IfSome x (Alone (get_or t at 0))) z i in
          let k : is_apart (nth (place_at t at) 1) ≡ true = ap is_apart (second a.mark.below) ∙ q ∙ f in
          mark_step a.mark r a.high (λ c. absurd (true_is_not_false (sym c ∙ a.bracket.1)))
          (no_number _ _ a.mark.digit (apart _ k)) (a.same _ _ k)
