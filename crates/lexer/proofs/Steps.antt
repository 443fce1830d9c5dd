-- Each way through a step, from the tests that lead there.
-- Assumes nothing.
use Prim.Native.Nat.{ℕ, ◌+◌, ◌-◌}
use mathlib.Core.Path.{◌≡◌, ◌∙◌, ap}
use mathlib.Core.List.{List}
use mathlib.Core.Bool.{Bool, true, false}
use borrow.Author.Tests.{eq-eqb, ne_eqb}
use Rattle.window.specs.Place.{place_at}
use Rattle.token.specs.Kinds as K
use Rattle.token.specs.declared.Token.{Token}
use Rattle.token.specs.declared.Item.{Item}
use Rattle.token.specs.declared.Item.TheVariants as I
use Rattle.token.specs.declared.Ending.{Ending}
use Rattle.token.specs.declared.Ending.TheVariants as E
use Rattle.token.specs.Codes.{kind_of}
use Rattle.token.specs.declared.Token.TheVariants as N
use Rattle.lexer.specs.declared.Step.{Step}
use Rattle.lexer.specs.declared.Step.TheVariants as T
use Rattle.lexer.specs.Items.{item_at}
use Rattle.token.specs.Brackets.{is_opener, is_closer}
use Rattle.lexer.specs.Steps.{token_step, step_of, step_at}

-- ---- a token within so many brackets
module _ (nest k e : ℕ) where
  pub token_line : k ≡ K.newline → nest ≡ 0 → T.Newline e ≡ token_step nest k e
  unfolding token_step
  token_line p q = rw (eq-eqb k K.newline p, eq-eqb nest 0 q)

  pub token_fold : (n : ℕ) → n ≡ kind_of N.NonLogicalNewline → k ≡ K.newline → (nest ≡ 0 → ⊥) → T.Tok n e nest ≡ token_step nest k e
  unfolding token_step
  token_fold n w p q = rw (eq-eqb k K.newline p, ne_eqb nest 0 q, w)

  module _ (n : k ≡ K.newline → ⊥) (x : Bool) (q : is_opener k ≡ x) where
    pub token_open : x ≡ true → T.Tok k e (nest + 1) ≡ token_step nest k e
    unfolding token_step
    token_open f = rw (ne_eqb k K.newline n, q ∙ f)

    module _ (g : x ≡ false) (y : Bool) (m : is_closer k ≡ y) where
      pub token_over : y ≡ true → nest ≡ 0 → T.Error E.NestingError e ≡ token_step nest k e
      unfolding token_step
      token_over f z = rw (ne_eqb k K.newline n, q ∙ g, m ∙ f, eq-eqb nest 0 z)

      pub token_close : y ≡ true → (nest ≡ 0 → ⊥) → T.Tok k e (nest - 1) ≡ token_step nest k e
      unfolding token_step
      token_close f z = rw (ne_eqb k K.newline n, q ∙ g, m ∙ f, ne_eqb nest 0 z)

      pub token_plain : y ≡ false → T.Tok k e nest ≡ token_step nest k e
      unfolding token_step
      token_plain f = rw (ne_eqb k K.newline n, q ∙ g, m ∙ f)

-- ---- an item within so many brackets
module _ (t : List ℕ) (at nest : ℕ) (i : Item) (q : i ≡ item_at (place_at t at)) where
  pub step_tok : (r : Step) (n e : ℕ) (k : Token) → r ≡ token_step nest n e → n ≡ kind_of k → i ≡ I.Tok k e → r ≡ step_at t at nest
  unfolding step_at step_of
  step_tok r n e k z m p = z ∙ ap (λ x. token_step nest x e) m ∙ rw (← q, p)

  pub step_gap : (e : ℕ) → i ≡ I.Gap e → T.Gap e ≡ step_at t at nest
  unfolding step_at step_of
  step_gap e p = rw (← q, p)

  pub step_over : i ≡ I.End → nest ≡ 0 → T.End ≡ step_at t at nest
  unfolding step_at step_of
  step_over p z = rw (← q, p, eq-eqb nest 0 z)

  pub step_eof : i ≡ I.End → (nest ≡ 0 → ⊥) → T.Error E.Eof at ≡ step_at t at nest
  unfolding step_at step_of
  step_eof p z = rw (← q, p, ne_eqb nest 0 z)

  pub step_wrong : (w : Ending) (e : ℕ) → i ≡ I.Error w e → T.Error w e ≡ step_at t at nest
  unfolding step_at step_of
  step_wrong w e p = rw (← q, p)
