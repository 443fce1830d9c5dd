-- Where a line's blanks end, what stands before and after their end, and what a change of the levels says.
-- Assumes nothing.
use Prim.Native.Nat.{ℕ, zero, suc, ◌+◌, ◌-◌, ◌<◌, ◌≤◌}
use Prim.Native.Char.{code}
use mathlib.Core.Path.{◌≡◌, refl, sym, ◌∙◌, ap, ap₂, subst}
use mathlib.Core.List.{List, [], ◌∷◌, ◌++◌}
use mathlib.Core.Bool.{Bool, true, false}
use native.Mathlib.Omega.{arith}
use native.Mathlib.Numerals.{add-one}
use borrow.Author.Tests.{eqb-true, eqb-false, ltb-true, ltb-false}
use lib.Dec.{eqb, ltb, leb}
use Rattle.std.specs.Prelude.{Option, Some, None, Result, Ok, Err}
use Rattle.std.specs.declared.cmp.Ordering.{Ordering}
use Rattle.std.specs.declared.cmp.Ordering.TheVariants.{Less, Equal, Greater}
use Rattle.token.specs.declared.Ending.{Ending}
use lib.ListN.{length, get_or, drop, replicate}
use lib.Seq.{drop-cons}
use Rattle.choice.proofs.Laws.{choose_keeps}
use Rattle.lines.specs.Lines.{line_at}
use Rattle.lines.proofs.Laws.{line_start_lem, line_adds, line_behind}
use Rattle.utf8.specs.Chars.{chars, width, no_char}
use Rattle.utf8.proofs.Laws.{width_ascii}
use Rattle.window.specs.Place.{place_at, nth}
use Rattle.window.proofs.Laws.{byte_is}
use Rattle.window.proofs.Within.{Within, within_at, within_on}
use Rattle.indentation.specs.declared.Margin.{Margin}
use Rattle.indentation.specs.declared.Level.{Level}
use Rattle.indentation.specs.declared.LevelChange.{LevelChange}
use Rattle.indentation.specs.declared.LevelChange.TheVariants.{Same, Indent, DedentTo}
use Rattle.names.specs.Runs.{not_newline}
use Rattle.names.proofs.Laws.{no_break}
use Rattle.indentation.specs.Blanks.{blanks_from, blanks}
use Rattle.indentation.specs.Levels.{most_levels, level, compare_strict, top_of, pop_by, pop_from, change_by, change_of}

-- what follows a line's blanks: no blank, no form feed, no newline, no comment
pub record Other (c : ℕ) : Type 0 where
  pub no_space : c ≡ code " " → ⊥
  pub no_tab : c ≡ code "\t" → ⊥
  pub no_comment : c ≡ code "#" → ⊥
  pub no_feed : c ≡ code "\u{c}" → ⊥
  pub no_lf : c ≡ code "\n" → ⊥
  pub no_cr : c ≡ code "\r" → ⊥

-- blanks counted from the byte `low` on: tabs and then spaces lie right before the byte `at`
pub record Lined (t : List ℕ) (low at tabs spaces : ℕ) : Type 0 where
  pub room : low + tabs + spaces ≤ at
  pub bytes : drop (at - (tabs + spaces)) t ≡ replicate tabs (code "\t") ++ (replicate spaces (code " ") ++ drop at t)

pub record CountedTo (t : List ℕ) (low : ℕ) (m : Margin) : Type 0 where
  pub fits : m.at ≤ length t
  pub lined : Lined t low m.at m.blanks.tabs m.blanks.spaces
  pub after : Other (nth (place_at t m.at) 0)

-- so too where a tab after a space stops the count
pub record StoppedAt (t : List ℕ) (low : ℕ) (m : Margin) : Type 0 where
  pub fits : m.at ≤ length t
  pub lined : Lined t low m.at m.blanks.tabs m.blanks.spaces

abbrev pub Counted : List ℕ → ℕ → Result Margin Margin → Type 0
Counted t low (Ok m) = CountedTo t low m
Counted t low (Err m) = StoppedAt t low m

one_more : (x n : ℕ) (l : List ℕ) → replicate n x ++ (x ∷ l) ≡ replicate (n + 1) x ++ l
one_more x n l = go n ∙ ap (λ k. replicate k x ++ l) (sym (add-one n))
  where
    go : (n : ℕ) → replicate n x ++ (x ∷ l) ≡ replicate (suc n) x ++ l
    go zero = refl
    go (suc n) = ap (λ (r : List ℕ). x ∷ r) (go n)

module _ (t : List ℕ) (low at : ℕ) where
  lined_none : low ≤ at → Lined t low at 0 0
  lined_none h = let z : at - (0 + 0) ≡ at = omega arith in record { room = omega arith; bytes = rw z }

  -- one blank more, which is the byte b
  module _ (b : ℕ) (h : at < length t) (e : get_or t at 0 ≡ b) where
    here_on : drop at t ≡ b ∷ drop (at + 1) t
    here_on = drop-cons t at 0 h ∙ cc (e, add-one at)

    lined_space : (tabs spaces : ℕ) → b ≡ code " " → Lined t low at tabs spaces → Lined t low (at + 1) tabs (spaces + 1)
    lined_space tabs spaces z l = let start : at + 1 - (tabs + (spaces + 1)) ≡ at - (tabs + spaces) = omega arith in record {
      room = let r = l.room in omega arith;
      bytes = ap (λ n. drop n t) start ∙ l.bytes ∙ ap (λ r. replicate tabs (code "\t") ++ r) (ap (λ r. replicate spaces (code " ") ++ r) (here_on ∙ ap (λ x. x ∷ drop (at + 1) t) z) ∙ one_more (code " ") spaces _);
    }

    lined_tab : (tabs spaces : ℕ) → b ≡ code "\t" → spaces ≡ 0 → Lined t low at tabs spaces → Lined t low (at + 1) (tabs + 1) spaces
    lined_tab tabs spaces z s l = let start : at + 1 - (tabs + 1 + spaces) ≡ at - (tabs + spaces) = omega arith in record {
      room = let r = l.room in omega arith;
      bytes = ap (λ n. drop n t) start ∙ l.bytes ∙ rw s (ap (λ r. replicate tabs (code "\t") ++ r) (here_on ∙ ap (λ x. x ∷ drop (at + 1) t) z) ∙ one_more (code "\t") tabs _);
    }

module _ (t : List ℕ) (low : ℕ) where
  from : (comment : Bool) (at tabs spaces : ℕ) (l : List ℕ) → Within t (record { at = at; rest = l }) → Lined t low at tabs spaces → Counted t low (blanks_from comment at tabs spaces l)
  unfolding blanks_from
  from comment at tabs spaces [] w h =
      let none = ap (λ l. get_or l 0 no_char) w.rest in
      record {
        fits = w.fits;
        lined = lined_none t low at (let r = h.room in omega arith);
        after = record { no_space = λ e. omega arith; no_tab = λ e. omega arith; no_comment = λ e. omega arith; no_feed = λ e. omega arith; no_lf = λ e. omega arith; no_cr = λ e. omega arith };
      }
  from true at tabs spaces (c ∷ r) w h =
      let n = (within_on t at c r w).0 in
      let anew = lined_none t low (at + width c) (let m = h.room in omega arith) in
      choose_keeps (Counted t low) (not_newline c) (λ e. from true (at + width c) 0 0 r n anew) (λ e. from false (at + width c) 0 0 r n anew)
  from false at tabs spaces (c ∷ r) w h =
      let n = (within_on t at c r w).0 in
      let anew = lined_none t low (at + width c) (let m = h.room in omega arith) in
      let first = ap (λ l. get_or l 0 no_char) w.rest in
      choose_keeps (Counted t low) (eqb c (code " "))
      (λ e. let z = eqb-true c (code " ") e in
      let b = byte_is t at c (omega arith) first in
      let one = width_ascii c (omega arith) in
      from false (at + width c) tabs (spaces + 1) r n (subst (λ k. Lined t low (at + k) tabs (spaces + 1)) (sym one) (lined_space t low at c b.0 b.1 tabs spaces z h)))
      (λ not-space. choose_keeps (Counted t low) (eqb c (code "\t"))
      (λ e. choose_keeps (Counted t low) (eqb spaces 0)
      (λ f. let z = eqb-true c (code "\t") e in
      let b = byte_is t at c (omega arith) first in
      let one = width_ascii c (omega arith) in
      from false (at + width c) (tabs + 1) spaces r n (subst (λ k. Lined t low (at + k) (tabs + 1) spaces) (sym one) (lined_tab t low at c b.0 b.1 tabs spaces z (eqb-true spaces 0 f) h)))
      (λ f. record { fits = w.fits; lined = h }))
      (λ not-tab. choose_keeps (Counted t low) (eqb c (code "#")) (λ e. from true (at + width c) 0 0 r n anew)
      (λ not-hash. choose_keeps (Counted t low) (eqb c (code "\u{c}")) (λ e. from false (at + width c) 0 0 r n anew)
      (λ not-feed. choose_keeps (Counted t low) (not_newline c)
      (λ e. record {
        fits = w.fits;
        lined = h;
        after = subst Other (sym first) (record { no_space = eqb-false c (code " ") not-space; no_tab = eqb-false c (code "\t") not-tab; no_comment = eqb-false c (code "#") not-hash; no_feed = eqb-false c (code "\u{c}") not-feed; no_lf = (no_break c e).0; no_cr = (no_break c e).1 });
      })
      (λ e. from false (at + width c) 0 0 r n anew)))))

pub blanks_counted : (t : List ℕ) (at : ℕ) → at ≤ length t → Counted t at (blanks (place_at t at))
unfolding blanks
blanks_counted t at h = from t at false at 0 0 (chars (drop at t)) (within_at t at h) (lined_none t at at (omega arith))

-- the blanks that are counted lie in one line
one_line : (b : ℕ) → (b ≡ code "\n" → ⊥) → (b ≡ code "\r" → ⊥) → (n k : ℕ) (l : List ℕ) → line_at (replicate n b ++ l) (n + k) ≡ line_at l k
one_line b x y zero k l = let e : 0 + k ≡ k = omega arith in ap (line_at l) e
one_line b x y (suc n) k l =
    let e : suc n + k ≡ suc (n + k) = omega arith in
    ap (line_at (b ∷ (replicate n b ++ l))) e ∙ line_behind b (replicate n b ++ l) (n + k) x y ∙ one_line b x y n k l

pub margin_line : (t : List ℕ) (low at tabs spaces : ℕ) → Lined t low at tabs spaces → line_at t (at - (tabs + spaces)) ≡ line_at t at
margin_line t low at tabs spaces h =
    let p = at - (tabs + spaces) in
    let d : at - p ≡ tabs + (spaces + 0) = omega (arith, h.room) in
    let a = one_line (code "\t") (λ e. omega arith) (λ e. omega arith) tabs (spaces + 0) (replicate spaces (code " ") ++ drop at t) in
    let b = one_line (code " ") (λ e. omega arith) (λ e. omega arith) spaces 0 (drop at t) in
    let c : line_at (drop p t) (at - p) ≡ 0 = ap (line_at (drop p t)) d ∙ ap (λ l. line_at l (tabs + (spaces + 0))) h.bytes ∙ a ∙ b ∙ line_start_lem (drop at t) in
    omega (arith, line_adds t p at (omega arith))

-- ---- levels
-- what an order says of the blanks and of the level
abbrev pub Ordered : ℕ → ℕ → Level → Option Ordering → Type 0
Ordered tabs spaces l (Some Less) = 0 < l.tabs + l.spaces
Ordered tabs spaces l (Some Equal) = (tabs ≡ l.tabs) × (spaces ≡ l.spaces)
Ordered tabs spaces l (Some Greater) = 0 < tabs + spaces
Ordered tabs spaces l None = Unit {0}

pub ordered : (tabs spaces : ℕ) (l : Level) → Ordered tabs spaces l (compare_strict tabs spaces l)
unfolding compare_strict
ordered tabs spaces l =
    choose_keeps (Ordered tabs spaces l) (ltb tabs l.tabs) (λ e. choose_keeps (Ordered tabs spaces l) (leb spaces l.spaces) (λ _. omega (arith, ltb-true tabs l.tabs e)) (λ _. tt))
    (λ e. choose_keeps (Ordered tabs spaces l) (ltb l.tabs tabs) (λ f. choose_keeps (Ordered tabs spaces l) (leb l.spaces spaces) (λ _. omega (arith, ltb-true l.tabs tabs f)) (λ _. tt))
    (λ f. choose_keeps (Ordered tabs spaces l) (ltb spaces l.spaces) (λ g. omega (arith, ltb-true spaces l.spaces g))
    (λ g. choose_keeps (Ordered tabs spaces l) (ltb l.spaces spaces) (λ k. omega (arith, ltb-true l.spaces spaces k))
    (λ k. (omega (arith, ltb-false tabs l.tabs e, ltb-false l.tabs tabs f), omega (arith, ltb-false spaces l.spaces g, ltb-false l.spaces spaces k))))))

-- popping leaves at most n levels, or is an error
abbrev pub Popped : ℕ → Result LevelChange Ending → Type 0
Popped n (Ok Same) = ⊥
Popped n (Ok Indent) = ⊥
Popped n (Ok (DedentTo d)) = d ≤ n
Popped n (Err w) = Unit {0}

popped_by : (n : ℕ) (o : Option Ordering) (on : Result LevelChange Ending) → Popped (suc n) on → Popped (suc n) (pop_by o (suc n) on)
unfolding pop_by
popped_by n (Some Less) on p = p
popped_by n (Some Equal) on p = omega arith
popped_by n (Some Greater) on p = tt
popped_by n None on p = tt

weaker : (n : ℕ) (x : Result LevelChange Ending) → Popped n x → Popped (suc n) x
weaker n (Ok Same) p = p
weaker n (Ok Indent) p = p
weaker n (Ok (DedentTo d)) p = omega arith
weaker n (Err w) p = tt

pub pop_bounds : (ls : List Level) (tabs spaces : ℕ) → Popped (length ls) (pop_from ls tabs spaces)
unfolding pop_from
pop_bounds [] tabs spaces =
    choose_keeps (Popped 0) (eqb tabs 0) (λ _. choose_keeps (Popped 0) (eqb spaces 0) (λ _. omega arith) (λ _. tt)) (λ _. tt)
pop_bounds (l ∷ ls) tabs spaces =
    let on = pop_from ls tabs spaces in
    popped_by (length ls) (compare_strict tabs spaces l) on (weaker (length ls) on (pop_bounds ls tabs spaces))

-- what a change says: the blanks are the innermost level's; there is room for one more level, with a blank; fewer levels stay
abbrev pub Settled : List Level → ℕ → ℕ → Result LevelChange Ending → Type 0
Settled ls tabs spaces (Ok Same) = (tabs ≡ (top_of ls).tabs) × (spaces ≡ (top_of ls).spaces)
Settled ls tabs spaces (Ok Indent) = (length ls < most_levels) × (0 < tabs + spaces)
Settled ls tabs spaces (Ok (DedentTo d)) = d < length ls
Settled ls tabs spaces (Err w) = Unit {0}

fewer : (ls : List Level) (tabs spaces n : ℕ) (x : Result LevelChange Ending) → Popped n x → n < length ls → Settled ls tabs spaces x
fewer ls tabs spaces n (Ok Same) p h = absurd p
fewer ls tabs spaces n (Ok Indent) p h = absurd p
fewer ls tabs spaces n (Ok (DedentTo d)) p h = omega arith
fewer ls tabs spaces n (Err w) p h = tt

less_pops : (ls : List Level) (tabs spaces : ℕ) → compare_strict tabs spaces (top_of ls) ≡ Some Less → Settled ls tabs spaces (pop_from ls tabs spaces)
unfolding top_of pop_from pop_by
less_pops [] tabs spaces e = let h = subst (Ordered tabs spaces (level 0 0)) e (ordered tabs spaces (level 0 0)) in absurd (omega arith)
less_pops (l ∷ ls) tabs spaces e = fewer (l ∷ ls) tabs spaces (length ls) (pop_from (l ∷ ls) tabs spaces) (simp e (pop_bounds ls tabs spaces)) (omega arith)

pub change_bounds : (ls : List Level) (tabs spaces : ℕ) → length ls ≤ most_levels → Settled ls tabs spaces (change_of ls tabs spaces)
unfolding change_of change_by
change_bounds ls tabs spaces h = go (compare_strict tabs spaces (top_of ls)) refl
  where
    go : (o : Option Ordering) → compare_strict tabs spaces (top_of ls) ≡ o → Settled ls tabs spaces (change_of ls tabs spaces)
    go (Some Less) e = simp e (less_pops ls tabs spaces e)
    go (Some Equal) e = simp e (subst (Ordered tabs spaces (top_of ls)) e (ordered tabs spaces (top_of ls)))
    go (Some Greater) e =
        let some = subst (Ordered tabs spaces (top_of ls)) e (ordered tabs spaces (top_of ls)) in
        simp e (choose_keeps (Settled ls tabs spaces) (eqb (length ls) most_levels) (λ _. tt) (λ f. (omega (arith, eqb-false (length ls) most_levels f), some)))
    go None e = simp e tt

-- the innermost of the levels that stay is what the blanks are
abbrev pub Stays : List Level → ℕ → ℕ → Result LevelChange Ending → Type 0
Stays ls tabs spaces (Ok Same) = top_of ls ≡ level tabs spaces
Stays ls tabs spaces (Ok Indent) = Unit {0}
Stays ls tabs spaces (Ok (DedentTo d)) = top_of (drop (length ls - d) ls) ≡ level tabs spaces
Stays ls tabs spaces (Err w) = Unit {0}

equal_top : (tabs spaces : ℕ) (o : Level) → compare_strict tabs spaces o ≡ Some Equal → o ≡ level tabs spaces
equal_top tabs spaces o e =
    let h = subst (Ordered tabs spaces o) e (ordered tabs spaces o) in
    ap₂ level (sym h.0) (sym h.1)

pop_stays : (ls : List Level) (tabs spaces : ℕ) → Stays ls tabs spaces (pop_from ls tabs spaces)
unfolding pop_from pop_by top_of
pop_stays [] tabs spaces =
    choose_keeps (Stays [] tabs spaces) (eqb tabs 0)
    (λ e. choose_keeps (Stays [] tabs spaces) (eqb spaces 0) (λ f. ap₂ level (sym (eqb-true tabs 0 e)) (sym (eqb-true spaces 0 f))) (λ _. tt)) (λ _. tt)
pop_stays (l ∷ ls) tabs spaces = go (compare_strict tabs spaces l) refl (pop_stays ls tabs spaces)
  where
    one_more : (x : Result LevelChange Ending) → Popped (length ls) x → Stays ls tabs spaces x → Stays (l ∷ ls) tabs spaces x
    one_more (Ok Same) p h = absurd p
    one_more (Ok Indent) p h = absurd p
    one_more (Ok (DedentTo d)) p h = let z : suc (length ls) - d ≡ suc (length ls - d) = omega arith in rw z h
    one_more (Err w) p h = tt

    go : (o : Option Ordering) → compare_strict tabs spaces l ≡ o → Stays ls tabs spaces (pop_from ls tabs spaces) → Stays (l ∷ ls) tabs spaces (pop_from (l ∷ ls) tabs spaces)
    go (Some Less) e h = simp e (one_more (pop_from ls tabs spaces) (pop_bounds ls tabs spaces) h)
    go (Some Equal) e h = let z : suc (length ls) - suc (length ls) ≡ 0 = omega arith in simp e (rw z (equal_top tabs spaces l e))
    go (Some Greater) e h = simp e tt
    go None e h = simp e tt

pub change_stays : (ls : List Level) (tabs spaces : ℕ) → Stays ls tabs spaces (change_of ls tabs spaces)
unfolding change_of change_by
change_stays ls tabs spaces = go (compare_strict tabs spaces (top_of ls)) refl
  where
    go : (o : Option Ordering) → compare_strict tabs spaces (top_of ls) ≡ o → Stays ls tabs spaces (change_of ls tabs spaces)
    go (Some Less) e = simp e (pop_stays ls tabs spaces)
    go (Some Equal) e = simp e (equal_top tabs spaces (top_of ls) e)
    go (Some Greater) e = simp e (choose_keeps (Stays ls tabs spaces) (eqb (length ls) most_levels) (λ _. tt) (λ _. tt))
    go None e = simp e tt
