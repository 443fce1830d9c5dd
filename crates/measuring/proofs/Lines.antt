-- A line's steps counted: what is left to count from a place is what was left from the line's start.
-- Assumes nothing.
use Prim.Native.Nat.{ℕ, ◌+◌, ◌^◌, ◌<◌, ◌≤◌}
use mathlib.Core.Path.{◌≡◌, refl, sym, ◌∙◌, ap, ap₂, subst}
use mathlib.Core.List.{List, [], ◌∷◌, ◌++◌}
use mathlib.Core.Bool.{Bool, true, false}
use native.Mathlib.Omega.{arith}
use native.Mathlib.Nat.{add-zero}
use lib.ListN.{length, length-append}
use Rattle.window.specs.Place.{place_at}
use Rattle.names.specs.Runs.{skip_while, is_blank}
use Rattle.token.specs.declared.Ending.{Ending}
use Rattle.token.specs.Codes.{code_of, detail_of}
use Rattle.indentation.specs.declared.Level.{Level}
use Rattle.lexer.specs.declared.Step.{Step}
use Rattle.lexer.specs.declared.Step.TheVariants as T
use Rattle.lexer.specs.declared.Seen.{Seen}
use Rattle.lexer.specs.declared.Seen.TheVariants as G
use Rattle.lexer.specs.Steps.{is_note, is_listed, step_at, nest_after}
use Rattle.lexer.specs.Promises.{glanced_at, Glanced}
use Rattle.lexer.proofs.Goes as steps
use Rattle.lexer.proofs.Goes.{Goes, step_goes}
use Rattle.rounds.specs.Rounds.{state, dedents, Reading, ended, prefixed, listed_records, view}
use Rattle.records.specs.Records.{Spanned, spanned}
use Rattle.rounds.specs.Promises.{from_item}
use Rattle.rounds.proofs.Rests.{rest_from_item, from_item_gap, from_item_tok, from_item_note, from_item_newline, from_item_error, from_item_end, rest_over, prefixed_none, On, from_item_on}
use Rattle.rounds.proofs.Listed.{listed_other}
use Rattle.rounds.proofs.Paid.{length_dedents}
use Rattle.measuring.specs.declared.LineEnd.{LineEnd}
use Rattle.measuring.specs.declared.LineEnd.TheVariants.{Newline, Error, End}
use Rattle.measuring.specs.Promises.{made, tally, InLine, LineEndFits, Rested, LineOk, Lined}
use Rattle.token.specs.Kinds as K

-- records handed out count before what follows them
pub tally_prefixed : (n m : ℕ) (rs : List Spanned) (r : Reading) → n + length rs ≡ m → tally n (prefixed rs r) ≡ tally m r
unfolding prefixed
tally_prefixed n m rs r e =
    let k : n + length (rs ++ r.recs) ≡ m + length r.recs = rw length-append (omega arith) in
    rw k

pub tally_none : (n c p d : ℕ) → tally n (ended [] c p d) ≡ made c n p d
tally_none n c p d = rw add-zero

-- the loop over a line's rest: at i, within `deep` brackets, with k records counted
pub record RestInv (full : Bool) (t : List ℕ) (at nest n i deep k : ℕ) : Type 0 where
  pub ok : InLine t i deep k
  pub on : at ≤ i
  pub same : (ls : List Level) → tally k (view full t (state i false deep ls)) ≡ tally n (view full t (state at false nest ls))

pub rest_begin : (full : Bool) (t : List ℕ) (at nest n : ℕ) → InLine t at nest n → RestInv full t at nest n at nest n
rest_begin full t at nest n ok = record { ok = ok; on = omega arith; same = λ ls. refl }

module _ (full : Bool) (t : List ℕ) (at nest n i deep k : ℕ) (inv : RestInv full t at nest n i deep k) (r : Step) (q : r ≡ step_at t i deep) where
  goes : (s : Step) → r ≡ s → Goes i (length t) deep s
  goes = steps.goes t i deep r q inv.ok.within

  on_rest : (ls : List Level) → tally k (from_item full t [] false i deep ls) ≡ tally n (view full t (state at false nest ls))
  on_rest ls = ap (tally k) (sym (rest_from_item full t i deep ls inv.ok.within)) ∙ inv.same ls

  pub rest_skip : (e : ℕ) → r ≡ T.Gap e → RestInv full t at nest n e deep k
  unfolding listed_records
  rest_skip e z =
      let g = goes (T.Gap e) z in
      record {
        ok = omega (arith, inv.ok);
        on = omega (arith, inv.on);
        same = λ ls. ap (tally k) (sym (from_item_gap full t i deep ls [] false e (sym q ∙ z) ∙ prefixed_none _)) ∙ on_rest ls;
      }

  pub rest_tok : (m e d : ℕ) → r ≡ T.Tok m e d → (b : Bool) → is_listed full m ≡ b → b ≡ true → RestInv full t at nest n e d (k + 1)
  unfolding listed_records
  rest_tok m e d z b l f =
      let g = goes (T.Tok m e d) z in
      record {
        ok = omega (arith, inv.ok);
        on = omega (arith, inv.on);
        same = λ ls. sym (ap (tally k) (from_item_tok full t i deep ls [] false m e d (sym q ∙ z) (l ∙ f)) ∙ tally_prefixed k (k + 1) _ _ refl) ∙ on_rest ls;
      }

  pub rest_note : (m e d : ℕ) → r ≡ T.Tok m e d → (b : Bool) → is_listed full m ≡ b → b ≡ false → RestInv full t at nest n e d k
  unfolding listed_records
  rest_note m e d z b l f =
      let g = goes (T.Tok m e d) z in
      record {
        ok = omega (arith, inv.ok);
        on = omega (arith, inv.on);
        same = λ ls. ap (tally k) (sym (from_item_note full t i deep ls [] false m e d (sym q ∙ z) (l ∙ f) ∙ prefixed_none _)) ∙ on_rest ls;
      }

  pub rest_line : (e : ℕ) → r ≡ T.Newline e → Rested full t at nest n (Newline e (k + 1))
  unfolding listed_records
  rest_line e z =
      let g = goes (T.Newline e) z in
      record {
        same = λ ls. sym (on_rest ls) ∙ ap (tally k) (from_item_newline full t i deep ls [] false e (sym q ∙ z)) ∙ tally_prefixed k (k + 1) _ _ refl
            ∙ ap (λ d. tally (k + 1) (view full t (state e true d ls))) g.2;
        fits = omega (arith, inv.ok, inv.on);
      }

  pub rest_stop : (w : Ending) (p : ℕ) → r ≡ T.Error w p → Rested full t at nest n (Error w p k)
  rest_stop w p z =
      let g = goes (T.Error w p) z in
      record {
        same = λ ls. sym (on_rest ls) ∙ ap (tally k) (from_item_error full t i deep ls [] false w p (sym q ∙ z)) ∙ tally_none k (code_of w) p (detail_of w);
        fits = omega (arith, inv.ok);
      }

  pub rest_end : r ≡ T.End → Rested full t at nest n (End i (k + 1))
  rest_end z =
      let g = goes T.End z in
      record {
        same = λ ls.
            let l : k + length (spanned K.newline i i ∷ dedents (length ls) i) ≡ k + 1 + length ls = rw length_dedents (omega arith) in
            sym (on_rest ls) ∙ ap (tally k) (rest_over full t i deep ls (sym q ∙ z)) ∙ rw l;
        fits = omega (arith, inv.ok);
      }

  pub one_more : k + 1 < 2 ^ 64
  one_more = omega (arith, inv.ok)

-- a turn that a glance tells
module _ (full : Bool) (t : List ℕ) (at nest n i deep k : ℕ) (inv : RestInv full t at nest n i deep k) (q : Seen) (g : Glanced t i deep q) where
  pub glance_skip : (e : ℕ) → place_at t e ≡ skip_while is_blank (place_at t i) → q ≡ G.Blank → RestInv full t at nest n e deep k
  glance_skip e w z = rest_skip full t at nest n i deep k inv _ refl e (subst (Glanced t i deep) z g e w)

  pub deep_fits : deep + 1 < 2 ^ 64
  deep_fits = omega (arith, inv.ok)

  pub on_fits : i + 1 < 2 ^ 64
  on_fits = omega (arith, inv.ok)

  pub glance_line : q ≡ G.Newline → Rested full t at nest n (Newline (i + 1) (k + 1))
  glance_line z = let m = subst (Glanced t i deep) z g in rest_line full t at nest n i deep k inv _ refl (i + 1) m.0

  pub glance_tok : (c e d : ℕ) → e ≡ (glanced_at t i c).end → d ≡ nest_after deep c → q ≡ G.Token c → RestInv full t at nest n e d (k + 1)
  glance_tok c e d u v h =
      let m = subst (Glanced t i deep) h g in
      rest_tok full t at nest n i deep k inv _ refl _ e d (m.token ∙ ap₂ (T.Tok (glanced_at t i c).kind) (sym u) (sym v)) _ refl (listed_other full _ m.apart)

-- a gap, a token and a Newline go on
module _ (t : List ℕ) (at nest : ℕ) (r : Step) (q : r ≡ step_at t at nest) where
  pub skip_on : (e : ℕ) → r ≡ T.Gap e → On (step_at t at nest)
  skip_on e z = subst On (sym (sym q ∙ z)) tt

  pub tok_on : (m e d : ℕ) → r ≡ T.Tok m e d → On (step_at t at nest)
  tok_on m e d z = subst On (sym (sym q ∙ z)) tt

  pub line_on : (e : ℕ) → r ≡ T.Newline e → On (step_at t at nest)
  line_on e z = subst On (sym (sym q ∙ z)) tt

-- a line after its start whose first step goes on: what is pending comes before its rest
module _ (full : Bool) (t : List ℕ) (from k n : ℕ) (ok : LineOk t from k n) (o : On (step_at t from 0)) where
  pub on_ok : InLine t from 0 (n + k)
  on_ok = omega (arith, ok)

  pub on_lined : (x : LineEnd) → Rested full t from 0 (n + k) x → Lined full t from k n x
  on_lined x s = record {
    same = λ ls rs l.
        ap (tally n) (from_item_on full t from 0 ls rs true o) ∙ tally_prefixed n (n + k) (listed_records full rs) _ (omega arith)
        ∙ ap (tally (n + k)) (sym (rest_from_item full t from 0 ls ok.within)) ∙ s.same ls;
    fits = s.fits;
  }

-- a line after its start
module _ (full : Bool) (t : List ℕ) (from k n : ℕ) (ok : LineOk t from k n) (r : Step) (q : r ≡ step_at t from 0) where
  pub first_goes : (s : Step) → r ≡ s → Goes from (length t) 0 s
  first_goes s e = subst (Goes from (length t) 0) (sym q ∙ e) (step_goes t from 0 ok.within)

  pub tok_ok : (m e d : ℕ) → r ≡ T.Tok m e d → InLine t e d (n + k + 1)
  tok_ok m e d z = let g = first_goes (T.Tok m e d) z in omega (arith, ok)

  on_further : (e : ℕ) (x : LineEnd) → from ≤ e → LineEndFits t e x → LineEndFits t from x
  on_further e (Newline b m) h f = omega arith
  on_further e (Error w p m) h f = f
  on_further e (End p m) h f = f

  -- a token after what is pending
  one_after : (rs : List Spanned) (x : Spanned) → length (listed_records full rs) ≡ k → n + length (listed_records full rs ++ x ∷ []) ≡ n + k + 1
  one_after rs x l = rw length-append (omega arith)

  pub line_tok : (m e d : ℕ) (x : LineEnd) → Rested full t e d (n + k + 1) x → r ≡ T.Tok m e d → (b : Bool) → is_note m ≡ b → b ≡ false → Lined full t from k n x
  line_tok m e d x s z b y f =
      let g = first_goes (T.Tok m e d) z in
      record {
        same = λ ls rs l. ap (tally n) (from_item_tok full t from 0 ls rs true m e d (sym q ∙ z) (listed_other full m (y ∙ f))) ∙ tally_prefixed n (n + k + 1) _ _ (one_after rs _ l) ∙ s.same ls;
        fits = on_further e x (omega arith) s.fits;
      }

  pub line_stop : (w : Ending) (p : ℕ) → r ≡ T.Error w p → Lined full t from k n (Error w p n)
  line_stop w p z =
      let g = first_goes (T.Error w p) z in
      record {
        same = λ ls rs l. ap (tally n) (from_item_error full t from 0 ls rs true w p (sym q ∙ z)) ∙ tally_none n (code_of w) p (detail_of w);
        fits = omega (arith, ok);
      }

  pub line_over : r ≡ T.End → Lined full t from k n (End from (n + k))
  line_over z =
      let g = first_goes T.End z in
      record {
        same = λ ls rs l.
            let c : n + length (listed_records full rs ++ dedents (length ls) from) ≡ n + k + length ls = rw (length-append, length_dedents) (omega arith) in
            ap (tally n) (from_item_end full t from 0 ls rs (sym q ∙ z)) ∙ rw c;
        fits = omega (arith, ok);
      }
