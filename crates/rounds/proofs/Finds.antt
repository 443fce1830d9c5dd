-- What comes next in a line: a gap, and a note that is not listed, hands out no record, so the reading from `i` is that from `at`. Line ends
-- are counted in what a glance does not tell.
-- Assumes nothing.
use Prim.Native.Nat.{ℕ, ◌+◌, ◌^◌, ◌<◌, ◌≤◌}
use mathlib.Core.Path.{◌≡◌, refl, sym, ◌∙◌, ap, ap₂, subst}
use mathlib.Core.List.{List, [], ◌∷◌, ◌++◌}
use mathlib.Core.Bool.{Bool, true, false}
use native.Mathlib.Omega.{arith}
use borrow.Author.Tests.{eq-eqb, ne_eqb}
use lib.Dec.{eqb}
use lib.ListN.{length}
use Rattle.choice.specs.Choice.{choose, both}
use Rattle.choice.proofs.Laws.{both_none}
use Rattle.lines.specs.Lines.{line_at}
use Rattle.lines.specs.Promises.{Ends}
use Rattle.window.specs.Place.{Place, place_at}
use Rattle.names.specs.declared.Lexed.{Lexed}
use Rattle.names.specs.Runs.{skip_while, is_blank}
use Rattle.names.proofs.Lines.{blank_line}
use Rattle.token.specs.declared.Ending.{Ending}
use Rattle.indentation.specs.declared.Level.{Level}
use Rattle.lexer.specs.declared.Step.{Step}
use Rattle.lexer.specs.declared.Step.TheVariants as T
use Rattle.lexer.specs.declared.Seen.{Seen}
use Rattle.lexer.specs.declared.Seen.TheVariants as G
use Rattle.lexer.specs.Steps.{is_note, is_listed, step_at, nest_after}
use Rattle.lexer.specs.Promises.{glanced_at, Told, Glanced}
use Rattle.lexer.proofs.Goes as steps
use Rattle.lexer.proofs.Goes.{Goes}
use Rattle.rounds.specs.declared.NextToken.TheVariants.{Tok, Newline, End, Error}
use Rattle.rounds.specs.Rounds.{state, dedents, ended, prefixed, listed_records, view}
use Rattle.records.specs.Records.{spanned}
use Rattle.rounds.specs.Promises.{Inside, from_item, NextTokenFrom, FoundFrom}
use Rattle.rounds.proofs.Listed.{unlisted, listed_other}
use Rattle.rounds.proofs.Rests.{rest_from_item, from_item_gap, from_item_tok, from_item_note, from_item_newline, from_item_error, from_item_end, rest_over, prefixed_none}
use Rattle.token.specs.Kinds as K

-- the loop past the gaps, at i
pub record FindInv (full : Bool) (t : List ℕ) (at nest i : ℕ) : Type 0 where
  pub inside : Inside t i nest
  pub on : at ≤ i
  pub same : (first : Bool) (ls : List Level) → from_item full t [] (both first (eqb i at)) i nest ls ≡ from_item full t [] first at nest ls

-- at the first byte nothing is passed
both_here : (first : Bool) (at : ℕ) → both first (eqb at at) ≡ first
both_here true at = eq-eqb at at refl
both_here false at = refl

pub find_begin : (full : Bool) (t : List ℕ) (at nest : ℕ) → Inside t at nest → FindInv full t at nest at
find_begin full t at nest ok = record { inside = ok; on = omega arith; same = λ first ls. ap (λ b. from_item full t [] b at nest ls) (both_here first at) }

-- behind it something is
both_past : (first : Bool) (at e : ℕ) → at < e → both first (eqb e at) ≡ false
both_past first at e h = rw (ne_eqb e at (λ q. omega arith)) (both_none first)

module _ (full : Bool) (t : List ℕ) (at nest i : ℕ) (inv : FindInv full t at nest i) (r : Step) (q : r ≡ step_at t i nest) where
  goes : (x : Step) → r ≡ x → Goes i (length t) nest x
  goes = steps.goes t i nest r q inv.inside.to

  -- what is passed leaves the reading as it is
  passed : (e : ℕ) → i < e → e ≤ length t → ((b : Bool) (ls : List Level) → from_item full t [] b i nest ls ≡ view full t (state e false nest ls)) → FindInv full t at nest e
  passed e h k f = record {
    inside = omega (arith, inv.inside);
    on = omega (arith, inv.on);
    same = λ first ls.
        ap (λ b. from_item full t [] b e nest ls) (both_past first at e (omega (arith, inv.on)))
        ∙ sym (rest_from_item full t e nest ls k) ∙ sym (f (both first (eqb i at)) ls) ∙ inv.same first ls;
  }

  pub find_skip : (e : ℕ) → r ≡ T.Gap e → FindInv full t at nest e
  unfolding listed_records
  find_skip e z = let g = goes (T.Gap e) z in passed e g.0 g.1 (λ b ls. from_item_gap full t i nest ls [] b e (sym q ∙ z) ∙ prefixed_none _)

  -- a token that is not listed is a note, and leaves the brackets as they are
  pub find_note : (k e m : ℕ) → r ≡ T.Tok k e m → (b : Bool) → is_listed full k ≡ b → b ≡ false → FindInv full t at nest e
  unfolding listed_records
  find_note k e m z b l f =
      let g = goes (T.Tok k e m) z in
      passed e g.0 g.1 (λ c ls. from_item_note full t i nest ls [] c k e m (sym q ∙ z) (l ∙ f) ∙ prefixed_none _ ∙ ap (λ d. view full t (state e false d ls)) (g.5 (unlisted full k (l ∙ f))))

  find_tok : (k e m : ℕ) → r ≡ T.Tok k e m → (b : Bool) → is_listed full k ≡ b → b ≡ true → NextTokenFrom full t at nest (Tok k i e m)
  unfolding listed_records
  find_tok k e m z b l f =
      let g = goes (T.Tok k e m) z in
      record {
        same = λ first ls. sym (inv.same first ls) ∙ from_item_tok full t i nest ls [] _ k e m (sym q ∙ z) (l ∙ f);
        reaches = (inv.on, g.0, g.1, omega (arith, inv.inside), g.3, g.4, g.5);
      }

  find_line : (e : ℕ) → r ≡ T.Newline e → NextTokenFrom full t at nest (Newline i e)
  unfolding listed_records
  find_line e z =
      let g = goes (T.Newline e) z in
      record {
        same = λ first ls. sym (inv.same first ls) ∙ from_item_newline full t i nest ls [] _ e (sym q ∙ z) ∙ ap (λ d. prefixed (spanned K.newline i e ∷ []) (view full t (state e true d ls))) g.2;
        reaches = (inv.on, g.0, g.1);
      }

  find_stop : (w : Ending) (p : ℕ) → r ≡ T.Error w p → NextTokenFrom full t at nest (Error w p)
  find_stop w p z = record { same = λ first ls. sym (inv.same first ls) ∙ from_item_error full t i nest ls [] _ w p (sym q ∙ z); reaches = goes (T.Error w p) z }

  -- the text's end
  over : (z : r ≡ T.End) (b : Bool) (ls : List Level) → from_item full t [] b i nest ls ≡ ended (choose b (λ _. []) (λ _. spanned K.newline i i ∷ []) ++ dedents (length ls) i) 0 i 0
  unfolding listed_records
  over z true ls = from_item_end full t i nest ls [] (sym q ∙ z)
  over z false ls = rest_over full t i nest ls (sym q ∙ z)

  find_last : r ≡ T.End → NextTokenFrom full t at nest (End i)
  find_last z = record {
    same = λ first ls. sym (inv.same first ls) ∙ over z (both first (eqb i at)) ls;
    reaches = (inv.inside.to, subst (λ d. step_at t i d ≡ T.End) (goes T.End z).1 (sym q ∙ z));
  }

  -- with the line ends, n of them up to i
  module _ (n : ℕ) (c : Ends t at i n) where
    pub found_tok : (k e m : ℕ) → r ≡ T.Tok k e m → (b : Bool) → is_listed full k ≡ b → b ≡ true → (w : ℕ) → Ends t i e w → FoundFrom full t at nest (record { token = Tok k i e m; before = n; within = w })
    found_tok k e m z b l f w d = record { next = find_tok k e m z b l f; lines = (c, d) }

    pub found_line : (e : ℕ) → r ≡ T.Newline e → (w : ℕ) → Ends t i e w → FoundFrom full t at nest (record { token = Newline i e; before = n; within = w })
    found_line e z w d = record { next = find_line e z; lines = (c, d) }

    pub found_stop : (w : Ending) (p : ℕ) → r ≡ T.Error w p → FoundFrom full t at nest (record { token = Error w p; before = n; within = 0 })
    found_stop w p z = record { next = find_stop w p z; lines = tt }

    pub found_last : r ≡ T.End → FoundFrom full t at nest (record { token = End i; before = n; within = 0 })
    found_last z = record { next = find_last z; lines = c }

-- a turn that a glance tells
module _ (full : Bool) (t : List ℕ) (at nest i : ℕ) (inv : FindInv full t at nest i) (q : Seen) (g : Glanced t i nest q) where
  pub glance_skip : (e : ℕ) → place_at t e ≡ skip_while is_blank (place_at t i) → q ≡ G.Blank → FindInv full t at nest e
  glance_skip e w z = find_skip full t at nest i inv _ refl e (subst (Glanced t i nest) z g e w)

  told : (k : ℕ) → q ≡ G.Token k → Told t i nest k
  told k z = subst (Glanced t i nest) z g

  -- what a glance tells lies within the text, whose length is a number of 64 bits
  pub nest_fits : (k : ℕ) → q ≡ G.Token k → length t < 2 ^ 64 → nest + 1 < 2 ^ 64
  nest_fits k z h = omega (arith, inv.inside, goes full t at nest i inv _ refl (T.Tok _ _ _) (told k z).token)

  glance_tok : (k : ℕ) (w : Lexed) (m : ℕ) → w ≡ glanced_at t i k → m ≡ nest_after nest k → q ≡ G.Token k → NextTokenFrom full t at nest (Tok w.kind i w.end m)
  glance_tok k w m u v h =
      find_tok full t at nest i inv _ refl w.kind w.end m ((told k h).token ∙ ap₂ (λ (x : Lexed) (d : ℕ). T.Tok x.kind x.end d) (sym u) (sym v)) _ refl (listed_other full _ (ap (λ (x : Lexed). is_note x.kind) u ∙ (told k h).apart))

  module _ (n : ℕ) (c : Ends t at i n) where
    -- blanks are in one line
    pub blank_ends : (e : ℕ) → place_at t e ≡ skip_while is_blank (place_at t i) → q ≡ G.Blank → Ends t at e n
    blank_ends e w z =
        let s = goes full t at nest i inv _ refl (T.Gap e) (subst (Glanced t i nest) z g e w) in
        let l : line_at t e ≡ line_at t i = ap (λ (x : Place). line_at t x.at) w ∙ blank_line t i in
        record { count = omega (arith, c.count); most = omega (arith, c.most) }

    pub glanced_line : q ≡ G.Newline → FoundFrom full t at nest (record { token = Newline i (i + 1); before = n; within = 1 })
    glanced_line z =
        let m = subst (Glanced t i nest) z g in
        record {
          next = find_line full t at nest i inv _ refl (i + 1) m.0;
          lines = (c, record { count = sym m.1; most = omega arith });
        }

    pub glanced_tok : (k : ℕ) (w : Lexed) (m : ℕ) → w ≡ glanced_at t i k → m ≡ nest_after nest k → q ≡ G.Token k
        → FoundFrom full t at nest (record { token = Tok w.kind i w.end m; before = n; within = 0 })
    glanced_tok k w m u v h =
        let f = glance_tok k w m u v h in
        let l : line_at t w.end ≡ line_at t i = ap (λ (x : Lexed). line_at t x.end) u ∙ (told k h).inside in
        record { next = f; lines = (c, record { count = omega arith; most = omega (arith, f.reaches) }) }
