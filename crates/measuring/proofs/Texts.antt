-- A text's lines counted: what is left to count from a line's start is what was left from the first.
-- Assumes nothing.
use Prim.Native.Nat.{ℕ, zero, suc, ◌+◌, ◌-◌, ◌*◌, ◌^◌, ◌<◌, ◌≤◌}
use mathlib.Core.Path.{◌≡◌, refl, sym, ◌∙◌, ap, subst}
use mathlib.Core.List.{List, [], ◌++◌}
use mathlib.Core.Bool.{Bool, true}
use native.Mathlib.Omega.{arith}
use lib.ListN.{length, set, length-append, length-set}
use Rattle.stacks.proofs.Laws.{stack_length}
use Rattle.records.specs.Records.{Spanned}
use Rattle.token.specs.declared.Ending.{Ending}
use Rattle.token.specs.Codes.{code_of, detail_of}
use Rattle.indentation.specs.declared.Level.{Level}
use Rattle.indentation.specs.Levels.{level, top_of, most_levels}
use Rattle.indentation.specs.Promises.{stack}
use Rattle.rounds.specs.Rounds.{state, follow, ended, raw_reading, listed_records, listed_reading, view}
use Rattle.rounds.proofs.Listed.{listed_append, listed_pending, listed_short, listed_reading_none}
use Rattle.window.specs.Place.{place_at}
use Rattle.indentation.specs.Notes.{notes}
use Rattle.rounds.specs.declared.Pending.{Pending}
use Rattle.std.specs.Prelude.{Result, Ok, Err, Some, None}
use Rattle.rounds.specs.Promises.{opt, pending_records, pushed, levels_after, Started, Below, TopAfter, StartedBelow, from_item}
use Rattle.rounds.proofs.Fuel.{reading_round}
use Rattle.rounds.proofs.Paid.{length_dedents}
use Rattle.measuring.specs.declared.LineEnd.{LineEnd}
use Rattle.measuring.specs.declared.LineEnd.TheVariants.{Newline, Error, End}
use Rattle.measuring.specs.Promises.{made, tally, line_end_tally, LineEndFits, LineOk, Lined, TextOk, Measured}
use Rattle.measuring.proofs.Lines.{tally_none}

length_opt : (n : ℕ) (r : Spanned) → n ≤ 1 → length (opt n r) ≡ n
length_opt zero r h = refl
length_opt (suc zero) r h = refl
length_opt (suc (suc n)) r h = absurd (omega arith)

pub length_pending : (l : Pending) → l.indents ≤ 1 → length (pending_records l) ≡ l.indents + l.dedents
length_pending l h = rw (length-append, length_opt l.indents _ h, length_dedents)

-- the places of the levels after a line's start: no new level is stored, or one
pub record Stored (l : Pending) (a b : List Level) : Type 0 where
  pub same : levels_after l a ≡ stack b l.depth
  pub all : length b ≡ length a

pub stored_none : (l : Pending) (a : List Level) → l.indents ≡ 0 → Stored l a a
stored_none l a e = record { same = rw e; all = refl }

pub stored_one : (l : Pending) (a : List Level) → (l.indents ≡ 0 → ⊥) → Stored l a (set a (l.depth - 1) l.blanks)
stored_one l a e = record { same = go l.indents e; all = length-set a _ _ }
  where
    go : (n : ℕ) → (n ≡ 0 → ⊥) → stack (pushed n l.depth l.blanks a) l.depth ≡ stack (set a (l.depth - 1) l.blanks) l.depth
    go zero h = absurd (h refl)
    go (suc n) h = refl

pub length_after : (l : Pending) (a : List Level) → length (levels_after l a) ≡ l.depth
length_after l a = stack_length (level 0 0) (pushed l.indents l.depth l.blanks a) l.depth

-- what a text's line leads to: an ending, or its first item
module _ (full : Bool) (t : List ℕ) (a : List Level) (d at : ℕ) (h : at ≤ length t) (s : Result Pending (Ending × ℕ)) (sd : Started t a d at s) where
  pub view_stop : (w : Ending) (p : ℕ) → s ≡ Err (w, p) → view full t (state at true 0 (stack a d)) ≡ ended [] (code_of w) p (detail_of w)
  unfolding follow view
  view_stop w p e =
      let g : Started t a d at (Err (w, p)) = subst (Started t a d at) e sd in
      ap (listed_reading full) (reading_round t _ h ∙ ap (λ o. follow o (raw_reading t)) g.1) ∙ listed_reading_none full (code_of w) p (detail_of w)

  pub view_go : (l : Pending) → s ≡ Ok l → view full t (state at true 0 (stack a d)) ≡ from_item full t (notes (place_at t at) ++ pending_records l) true l.from 0 (levels_after l a)
  unfolding view
  view_go l e =
      let g : Started t a d at (Ok l) = subst (Started t a d at) e sd in
      ap (listed_reading full) (reading_round t _ h ∙ ap (λ o. follow o (raw_reading t)) g.1)

-- the rest of a text after a line's start, by how the line ends
pub record Tailed (full : Bool) (t : List ℕ) (at : ℕ) (l : Pending) (n : ℕ) (x : LineEnd) : Type 0 where
  pub same : (ls : List Level) → tally n (from_item full t (notes (place_at t at) ++ pending_records l) true l.from 0 ls) ≡ line_end_tally full t ls x
  pub fits : LineEndFits t l.from x

-- the loop over a text's lines, the innermost level beside the places of the levels
pub record TextInv (full : Bool) (t : List ℕ) (a₀ : List Level) (d₀ at₀ n₀ : ℕ) (a : List Level) (inner : Level) (d at n : ℕ) : Type 0 where
  pub ok : TextOk t a d at n
  pub top : inner ≡ top_of (stack a d)
  pub same : tally n (view full t (state at true 0 (stack a d))) ≡ tally n₀ (view full t (state at₀ true 0 (stack a₀ d₀)))

pub text_begin : (full : Bool) (t : List ℕ) (a : List Level) (inner : Level) (d at n : ℕ) → TextOk t a d at n → inner ≡ top_of (stack a d) → TextInv full t a d at n a inner d at n
text_begin full t a inner d at n ok e = record { ok = ok; top = e; same = refl }

module _ (full : Bool) (t : List ℕ) (a₀ : List Level) (d₀ at₀ n₀ : ℕ) (a : List Level) (inner : Level) (d at n : ℕ) (inv : TextInv full t a₀ d₀ at₀ n₀ a inner d at n) where
  pub below : Below t a inner d at
  below = record { line = record { within = inv.ok.within; few = inv.ok.open'; levels = inv.ok.levels }; top = inv.top }

  module _ (s : Result Pending (Ending × ℕ)) (sd : StartedBelow t a d at s) where
    pub text_stop : (w : Ending) (p : ℕ) → s ≡ Err (w, p) → Measured full t a₀ d₀ at₀ n₀ (record { ending = Some w; count = n; place = p })
    text_stop w p e =
        let g : Started t a d at (Err (w, p)) = subst (Started t a d at) e sd.start in
        let f = view_stop full t a d at inv.ok.within s sd.start w p e in
        record { same = sym (tally_none n (code_of w) p (detail_of w)) ∙ ap (tally n) (sym f) ∙ inv.same; to = g.0 }

    module _ (l : Pending) (e : s ≡ Ok l) where
      went : Started t a d at (Ok l)
      went = subst (Started t a d at) e sd.start

      -- so many notes are listed
      module _ (z : ℕ) (v : z ≡ length (listed_records full (notes (place_at t at)))) where
        pub line_ok : LineOk t l.from (z + (l.indents + l.dedents)) n
        line_ok = let f = went.0 in omega (arith, inv.ok, listed_short full (notes (place_at t at)))

        pub line_due : z + (l.indents + l.dedents) < 2 ^ 64
        line_due = let f = went.0 in omega (arith, inv.ok, listed_short full (notes (place_at t at)))

        due_length : length (listed_records full (notes (place_at t at) ++ pending_records l)) ≡ z + (l.indents + l.dedents)
        due_length = ap (λ (x : List Spanned). length x) (listed_append full (notes (place_at t at)) (pending_records l) ∙ ap (λ (x : List Spanned). listed_records full (notes (place_at t at)) ++ x) (listed_pending full l)) ∙ omega (arith, length-append (listed_records full (notes (place_at t at))) (pending_records l), length_pending l went.0.indents)

        pub lined_tailed : (x : LineEnd) → Lined full t l.from (z + (l.indents + l.dedents)) n x → Tailed full t at l n x
        lined_tailed x ln = record { same = λ ls. ln.same ls (notes (place_at t at) ++ pending_records l) due_length; fits = ln.fits }

      pub line_sum : l.indents + l.dedents < 2 ^ 64
      line_sum = let f = went.0 in omega (arith, inv.ok)

      pub slot_ok : (l.indents ≡ 0 → ⊥) → l.depth - 1 < most_levels
      slot_ok h = omega (arith, went.0)

      -- a level is two numbers of eight bytes
      pub slot_bytes : (l.indents ≡ 0 → ⊥) → (l.depth - 1) * 16 < 2 ^ 64
      slot_bytes h = omega (arith, went.0)

      pub slot_some : (l.indents ≡ 0 → ⊥) → 1 ≤ l.depth
      slot_some h = omega (arith, went.0)

      module _ (x : LineEnd) (ln : Tailed full t at l n x) where
        tailed : line_end_tally full t (levels_after l a) x ≡ tally n₀ (view full t (state at₀ true 0 (stack a₀ d₀)))
        tailed = sym (ln.same (levels_after l a)) ∙ ap (tally n) (sym (view_go full t a d at inv.ok.within s sd.start l e)) ∙ inv.same

        told : (y : LineEnd) → x ≡ y → LineEndFits t l.from y
        told y z = subst (LineEndFits t l.from) z ln.fits

        told_tally : (y : LineEnd) → x ≡ y → line_end_tally full t (levels_after l a) y ≡ tally n₀ (view full t (state at₀ true 0 (stack a₀ d₀)))
        told_tally y z = subst (λ y. line_end_tally full t (levels_after l a) y ≡ tally n₀ (view full t (state at₀ true 0 (stack a₀ d₀)))) z tailed

        pub tail_stop : (w : Ending) (p k : ℕ) → x ≡ Error w p k → Measured full t a₀ d₀ at₀ n₀ (record { ending = Some w; count = k; place = p })
        tail_stop w p k z = record { same = told_tally (Error w p k) z; to = (told (Error w p k) z).0 }

        pub over_fits : (p k : ℕ) → x ≡ End p k → k + l.depth < 2 ^ 64
        over_fits p k z = omega (arith, told (End p k) z, went.0, inv.ok)

        pub tail_over : (p k : ℕ) → x ≡ End p k → Measured full t a₀ d₀ at₀ n₀ (record { ending = None; count = k + l.depth; place = p })
        tail_over p k z = record { same = ap (λ m. made 0 (k + m) p 0) (sym (length_after l a)) ∙ told_tally (End p k) z; to = omega (arith, told (End p k) z) }

        pub next_less : (b k : ℕ) → x ≡ Newline b k → length t - b < length t - at
        next_less b k z = omega (arith, told (Newline b k) z, went.0, inv.ok)

        pub text_next : (c : List Level) (b k : ℕ) → Stored l a c → x ≡ Newline b k → TextInv full t a₀ d₀ at₀ n₀ c l.blanks l.depth b k
        text_next c b k v z = record {
          ok = let f = told (Newline b k) z in record { within = f.1; small = inv.ok.small; open' = went.0.depth; levels = v.all ∙ inv.ok.levels; few = f.2 };
          top = subst (TopAfter a) e sd.top ∙ ap top_of v.same;
          same = rw v.same at (told_tally (Newline b k) z);
        }
