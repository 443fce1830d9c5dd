-- What a kept record does to the levels.
-- Assumes nothing.
use Prim.Native.Nat.{ℕ, suc, ◌+◌, ◌-◌, ◌<◌, ◌≤◌}
use Prim.Native.Char.{code}
use mathlib.Core.Path.{◌≡◌}
use mathlib.Core.List.{List}
use native.Mathlib.Omega.{arith}
use borrow.Author.Tests.{eq-eqb, ne_eqb, lt-ltb, le-ltb, ltb-true, eqb-false}
use lib.Dec.{ltb, eqb}
use Rattle.std.specs.Prelude.{Option, None, Some}
use lib.ListN.{get_or}
use Rattle.choice.proofs.Laws.{choose_keeps}
use Rattle.token.specs.Kinds as K
use Rattle.token.specs.declared.Record.{Record}
use Rattle.indentation.specs.Levels.{level, most_levels}
use Rattle.rereading.specs.declared.Effect.{Effect}
use Rattle.rereading.specs.declared.Effect.TheVariants.{Opens, Closes, Stays}
use Rattle.rereading.specs.Rereads.{run_length, indent_of, indent_in, effect_of}

-- one byte of a run: what is left to skip from j is what was left at first
module _ (t : List ℕ) (b j to Z : ℕ) (inv : j + run_length t b j (to - j) ≡ Z) where
  -- the byte at j is in the run
  pub run_more : j < to → get_or t j 0 ≡ b → j + 1 + run_length t b (j + 1) (to - (j + 1)) ≡ Z
  unfolding run_length
  run_more h e = let n : to - j ≡ suc (to - (j + 1)) = omega arith in omega (arith, rw (n, eq-eqb _ _ e) at inv)

  -- another byte ends it
  pub run_stop : j < to → (get_or t j 0 ≡ b → ⊥) → j ≡ Z
  unfolding run_length
  run_stop h e = let n : to - j ≡ suc (to - (j + 1)) = omega arith in omega (arith, rw (n, ne_eqb _ _ e) at inv)

  -- the bytes are used up
  pub run_over : to ≤ j → j ≡ Z
  unfolding run_length
  run_over h = let n : to - j ≡ 0 = omega arith in omega (arith, rw n at inv)

-- a kept Indent, whose tabs end at x and whose spaces then end at y
module _ (t : List ℕ) (depth s e x y : ℕ) (p : x ≡ s + run_length t (code "\t") s (e - s)) (q : y ≡ x + run_length t (code " ") x (e - x)) where
  -- the two runs are the tabs and the spaces
  counted : indent_of depth s e (x - s) (y - x) ≡ indent_in t depth s e
  unfolding indent_in
  counted = let a : x - s ≡ run_length t (code "\t") s (e - s) = omega arith in let b : y - x ≡ run_length t (code " ") x (e - x) = omega arith in rw (← p, a, b)

  -- they end where the spaces end
  sum : s + (x - s) + (y - x) ≡ y
  sum = omega arith

  -- a byte or more, all blanks, and a level more may open
  pub indent_opens : (s ≡ e → ⊥) → y ≡ e → depth < most_levels → Some (Opens (level (x - s) (y - x))) ≡ indent_in t depth s e
  unfolding indent_of
  indent_opens n h d = rw (ne_eqb s e n, sum, eq-eqb _ _ h, lt-ltb _ _ d) at counted

  -- no byte is covered
  pub indent_empty : s ≡ e → None ≡ indent_in t depth s e
  unfolding indent_in indent_of
  indent_empty h = rw (eq-eqb s e h)

  -- a byte is no blank, or a tab after a space
  pub indent_other : (s ≡ e → ⊥) → (y ≡ e → ⊥) → None ≡ indent_in t depth s e
  unfolding indent_of
  indent_other n h = rw (ne_eqb s e n, sum, ne_eqb _ _ h) at counted

  -- a 101st level would open
  pub indent_deep : (s ≡ e → ⊥) → y ≡ e → most_levels ≤ depth → None ≡ indent_in t depth s e
  unfolding indent_of
  indent_deep n h d = rw (ne_eqb s e n, sum, eq-eqb _ _ h, le-ltb _ _ d) at counted

-- what an effect tells of the depth
abbrev pub Tells : ℕ → Option Effect → Type 0
Tells d None = Unit
Tells d (Some (Opens l)) = d < most_levels
Tells d (Some Closes) = 0 < d
Tells d (Some Stays) = Unit

-- a level is opened only with fewer than 100, and closed only with one
pub tells : (t : List ℕ) (e d : ℕ) (r : Record) → Tells d (effect_of t e d r)
unfolding effect_of indent_in indent_of
tells t e d r =
    choose_keeps (Tells d) (ltb r.end r.start) (λ _. tt)
    (λ _. choose_keeps (Tells d) (ltb e r.end) (λ _. tt)
    (λ _. choose_keeps (Tells d) (eqb r.kind K.indent)
    (λ _. choose_keeps (Tells d) (eqb r.start r.end) (λ _. tt)
    (λ _. choose_keeps (Tells d) (eqb _ r.end) (λ _. choose_keeps (Tells d) (ltb d most_levels) (λ z. ltb-true d most_levels z) (λ _. tt)) (λ _. tt)))
    (λ _. choose_keeps (Tells d) (eqb r.kind K.dedent)
    (λ _. choose_keeps (Tells d) (eqb d 0) (λ _. tt) (λ z. let n = eqb-false d 0 z in omega arith)) (λ _. tt))))
