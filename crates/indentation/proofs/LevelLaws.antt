-- Laws of the levels: what popping and comparing answer.
-- Assumes nothing.
use Prim.Native.Nat.{ℕ, ◌+◌, ◌-◌, ◌<◌, ◌≤◌}
use mathlib.Core.Path.{◌≡◌, refl, sym, ◌∙◌, ap, subst}
use mathlib.Core.List.{List, [], ◌∷◌}
use mathlib.Core.Bool.{Bool, true, false}
use mathlib.Core.Logic.{◌⊎◌, inl, inr}
use native.Mathlib.Omega.{arith}
use borrow.Author.Tests.{eq-eqb, ne_eqb}
use lib.Dec.{eqb}
use Rattle.std.specs.Prelude.{Option, Some, None, Result, Ok, Err}
use Rattle.std.specs.declared.cmp.Ordering.{Ordering}
use Rattle.std.specs.declared.cmp.Ordering.TheVariants.{Less, Equal, Greater}
use lib.ListN.{length, get_or}
use Rattle.stacks.specs.Promises.{stack_in}
use Rattle.stacks.proofs.Laws.{stack_length, stack_off}
use Rattle.token.specs.declared.Ending.{Ending}
use Rattle.token.specs.declared.Ending.TheVariants.{IndentationError, TabError, TooDeep}
use Rattle.indentation.specs.declared.Level.{Level}
use Rattle.indentation.specs.declared.LevelChange.{LevelChange}
use Rattle.indentation.specs.declared.LevelChange.TheVariants.{Same, Indent, DedentTo}
use Rattle.indentation.specs.Levels.{most_levels, level, compare_strict, top_of, pop_by, pop_from, change_by, change_of}
use Rattle.indentation.specs.Promises.{stack, change_at_top}

-- ---- top
pub top_none : (a : List Level) (d : ℕ) → d ≡ 0 → level 0 0 ≡ top_of (stack a d)
unfolding top_of stack_in
top_none a d e = rw e

pub top_some : (a : List Level) (d : ℕ) → (d ≡ 0 → ⊥) → get_or a (d - 1) (level 0 0) ≡ top_of (stack a d)
unfolding top_of
top_some a d h = rw (stack_off (level 0 0) a d (omega arith))

-- ---- change_at_top: one law for each order
module _ (top : Level) (depth tabs spaces : ℕ) (o : Option Ordering) (e : o ≡ compare_strict tabs spaces top) where
  pub top_less : (f : Ordering) → o ≡ Some f → f ≡ Less → Ok (DedentTo depth) ≡ change_at_top top depth tabs spaces
  unfolding change_at_top change_by
  top_less f u v = simp (sym e ∙ u ∙ ap Some v)

  pub top_equal : (f : Ordering) → o ≡ Some f → f ≡ Equal → Ok Same ≡ change_at_top top depth tabs spaces
  unfolding change_at_top change_by
  top_equal f u v = simp (sym e ∙ u ∙ ap Some v)

  pub top_deep : (f : Ordering) → o ≡ Some f → f ≡ Greater → depth ≡ most_levels → Err TooDeep ≡ change_at_top top depth tabs spaces
  unfolding change_at_top change_by
  top_deep f u v z = simp (sym e ∙ u ∙ ap Some v, eq-eqb depth most_levels z)

  pub top_greater : (f : Ordering) → o ≡ Some f → f ≡ Greater → (depth ≡ most_levels → ⊥) → Ok Indent ≡ change_at_top top depth tabs spaces
  unfolding change_at_top change_by
  top_greater f u v z = simp (sym e ∙ u ∙ ap Some v, ne_eqb depth most_levels z)

  pub top_unclear : o ≡ None → Err TabError ≡ change_at_top top depth tabs spaces
  unfolding change_at_top change_by
  top_unclear u = simp (sym e ∙ u)

pub ruleset tops = (top_less, top_equal, top_deep, top_greater, top_unclear)

-- ---- popped: the turns of its loop
module _ (a : List Level) (d tabs spaces : ℕ) (q : Result LevelChange Ending) (w : pop_from (stack a d) tabs spaces ≡ q) where
  module _ (h : 0 < d) (o : Option Ordering) (e : o ≡ compare_strict tabs spaces (get_or a (d - 1) (level 0 0))) where
    one_off : pop_from (get_or a (d - 1) (level 0 0) ∷ stack a (d - 1)) tabs spaces ≡ q
    one_off = ap (λ ls. pop_from ls tabs spaces) (sym (stack_off (level 0 0) a d h)) ∙ w

    pub pop_less : (f : Ordering) → o ≡ Some f → f ≡ Less → pop_from (stack a (d - 1)) tabs spaces ≡ q
    unfolding pop_from pop_by
    pop_less f u v = simp (sym e ∙ u ∙ ap Some v) at one_off

    pub pop_equal : (f : Ordering) → o ≡ Some f → f ≡ Equal → Ok (DedentTo (d - 1 + 1)) ≡ q
    unfolding pop_from pop_by
    pop_equal f u v = ap (λ k. Ok (DedentTo k)) (let n = stack_length (level 0 0) a (d - 1) in omega arith) ∙ (simp (sym e ∙ u ∙ ap Some v) at one_off)

    pub pop_greater : (f : Ordering) → o ≡ Some f → f ≡ Greater → Err IndentationError ≡ q
    unfolding pop_from pop_by
    pop_greater f u v = simp (sym e ∙ u ∙ ap Some v) at one_off

    pub pop_unclear : o ≡ None → Err TabError ≡ q
    unfolding pop_from pop_by
    pop_unclear u = simp (sym e ∙ u) at one_off

  module _ (h : d ≤ 0) where
    all_off : pop_from [] tabs spaces ≡ q
    unfolding stack_in
    all_off = let z : d ≡ 0 = omega arith in rw z at w

    pub pop_base : tabs ≡ 0 → spaces ≡ 0 → Ok (DedentTo 0) ≡ q
    unfolding pop_from
    pop_base t s = simp (eq-eqb tabs 0 t, eq-eqb spaces 0 s) at all_off

    pop_spaces : tabs ≡ 0 → (spaces ≡ 0 → ⊥) → Err IndentationError ≡ q
    unfolding pop_from
    pop_spaces t s = simp (eq-eqb tabs 0 t, ne_eqb spaces 0 s) at all_off

    pop_tabs : (tabs ≡ 0 → ⊥) → Err IndentationError ≡ q
    unfolding pop_from
    pop_tabs t = simp (ne_eqb tabs 0 t) at all_off

    pub pop_blank : ((tabs ≡ 0) × (spaces ≡ 0 → ⊥)) ⊎ (tabs ≡ 0 → ⊥) → Err IndentationError ≡ q
    pop_blank (inl h) = pop_spaces h.0 h.1
    pop_blank (inr h) = pop_tabs h

-- ---- what the innermost level tells of all: everything, but how many levels are popped
abbrev pub Tells : List Level → ℕ → ℕ → Result LevelChange Ending → Type 0
Tells ls tabs spaces (Ok Same) = Ok Same ≡ change_of ls tabs spaces
Tells ls tabs spaces (Ok Indent) = Ok Indent ≡ change_of ls tabs spaces
Tells ls tabs spaces (Ok (DedentTo d)) = pop_from ls tabs spaces ≡ change_of ls tabs spaces
Tells ls tabs spaces (Err w) = Err w ≡ change_of ls tabs spaces

pub top_tells : (ls : List Level) (tabs spaces : ℕ) → Tells ls tabs spaces (change_at_top (top_of ls) (length ls) tabs spaces)
unfolding change_at_top change_of change_by
top_tells ls tabs spaces = go (compare_strict tabs spaces (top_of ls)) refl
  where
    deep : (b : Bool) → eqb (length ls) most_levels ≡ b → compare_strict tabs spaces (top_of ls) ≡ Some Greater → Tells ls tabs spaces (change_by (compare_strict tabs spaces (top_of ls)) (length ls) (Ok (DedentTo (length ls))))
    deep true f e = simp (e, f)
    deep false f e = simp (e, f)

    go : (o : Option Ordering) → compare_strict tabs spaces (top_of ls) ≡ o → Tells ls tabs spaces (change_by (compare_strict tabs spaces (top_of ls)) (length ls) (Ok (DedentTo (length ls))))
    go (Some Less) e = simp e
    go (Some Equal) e = simp e
    go (Some Greater) e = deep (eqb (length ls) most_levels) refl e
    go None e = simp e

pub tells : (ls : List Level) (top : Level) (depth tabs spaces : ℕ) (r : Result LevelChange Ending) → top ≡ top_of ls → length ls ≡ depth → r ≡ change_at_top top depth tabs spaces → Tells ls tabs spaces r
tells ls top depth tabs spaces r t n e =
    subst (Tells ls tabs spaces) (ap (λ k. change_at_top (top_of ls) k tabs spaces) n ∙ ap (λ l. change_at_top l depth tabs spaces) (sym t) ∙ sym e) (top_tells ls tabs spaces)

-- ---- handle_indentations
module _ (a : List Level) (depth tabs spaces : ℕ) (top : Level) (t : top ≡ top_of (stack a depth)) (r : Result LevelChange Ending) (e : r ≡ change_at_top top depth tabs spaces) where
  told : (x : Result LevelChange Ending) → r ≡ x → Tells (stack a depth) tabs spaces x
  told x u = tells (stack a depth) top depth tabs spaces x t (stack_length (level 0 0) a depth) (sym u ∙ e)

  pub handle_pop : (z : LevelChange) (d : ℕ) → r ≡ Ok z → z ≡ DedentTo d → (q : Result LevelChange Ending) → q ≡ pop_from (stack a depth) tabs spaces → q ≡ change_of (stack a depth) tabs spaces
  handle_pop z d u v q p = p ∙ told (Ok (DedentTo d)) (u ∙ ap Ok v)

  pub handle_kept : (z : LevelChange) → r ≡ Ok z → ((d : ℕ) → z ≡ DedentTo d → ⊥) → Ok z ≡ change_of (stack a depth) tabs spaces
  handle_kept Same u n = told (Ok Same) u
  handle_kept Indent u n = told (Ok Indent) u
  handle_kept (DedentTo d) u n = absurd (n d refl)

  pub handle_wrong : (w : Ending) → r ≡ Err w → Err w ≡ change_of (stack a depth) tabs spaces
  handle_wrong w u = told (Err w) u
