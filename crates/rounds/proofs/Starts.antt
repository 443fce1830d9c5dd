-- Each way through a line's start, from what its callees say.
-- Assumes nothing.
use Prim.Native.Nat.{ℕ, ◌+◌, ◌-◌, ◌≤◌}
use mathlib.Core.Path.{◌≡◌, sym, ◌∙◌, ap, subst}
use mathlib.Core.List.{List, append-nil}
use Rattle.std.specs.Prelude.{Result, Ok, Err}
use native.Mathlib.Omega.{arith}
use lib.ListN.{length, drop}
use Rattle.stacks.proofs.Laws.{stack_length, stack_push, stack_left}
use Rattle.lines.specs.Lines.{line_at}
use Rattle.window.specs.Place.{place_at}
use Rattle.token.specs.declared.Ending.{Ending}
use Rattle.token.specs.declared.Ending.TheVariants as E
use Rattle.indentation.specs.declared.Level.{Level}
use Rattle.indentation.specs.declared.Margin.{Margin}
use Rattle.indentation.specs.declared.LevelChange.{LevelChange}
use Rattle.indentation.specs.declared.LevelChange.TheVariants as S
use Rattle.indentation.specs.Blanks.{blanks}
use Rattle.indentation.specs.Notes.{notes}
use Rattle.indentation.proofs.NoteLaws.{notes_few}
use Rattle.indentation.specs.Levels.{level, top_of, change_of, most_levels}
use Rattle.indentation.specs.Promises.{stack}
use Rattle.rounds.proofs.Margins.{Within, blanks_within, ChangeOk, change_ok}
use Rattle.rounds.specs.Rounds.{dedents, at_level, line_start, round}
use Rattle.rounds.specs.Promises.{AtLine, StartedBelow}
use Rattle.indentation.proofs.Local.{margin_of}
use Rattle.indentation.proofs.Bounds.{Counted, blanks_counted, margin_line, Stays, change_stays}

module _ (t : List ℕ) (a : List Level) (depth at : ℕ) (ok : AtLine t a depth at) (r : Result Margin Margin) (q : r ≡ blanks (place_at t at)) where
  counted : (x : Result Margin Margin) → r ≡ x → Counted t at x
  counted x e = subst (Counted t at) (sym q ∙ e) (blanks_counted t at ok.within)

  within : (x : Result Margin Margin) → r ≡ x → let m = margin_of x in Within t at m.at (m.blanks.tabs + m.blanks.spaces)
  within x e = subst (λ y. let m = margin_of y in Within t at m.at (m.blanks.tabs + m.blanks.spaces)) (sym q ∙ e) (blanks_within t at ok.within)

  pub start_bad : (m : Margin) → r ≡ Err m → StartedBelow t a depth at (Err (E.TabsAfterSpaces, m.at))
  unfolding round line_start
  start_bad m e = record { start = ((within (Err m) e).to, rw (← q, e)); top = tt; line = tt }

  module _ (m : Margin) (u : r ≡ Ok m) (z : Result LevelChange Ending) (p : z ≡ change_of (stack a depth) m.blanks.tabs m.blanks.spaces) where
    margin_in : Within t at m.at (m.blanks.tabs + m.blanks.spaces)
    margin_in = within (Ok m) u

    blanks_in_line : line_at t (m.at - (m.blanks.tabs + m.blanks.spaces)) ≡ line_at t m.at
    blanks_in_line = margin_line t at m.at m.blanks.tabs m.blanks.spaces (counted (Ok m) u).lined

    depth_told : (y : Result LevelChange Ending) → z ≡ y → ChangeOk depth (m.blanks.tabs + m.blanks.spaces) y
    depth_told y e =
        let h : length (stack a depth) ≤ most_levels = rw stack_length ok.few in
        subst (ChangeOk depth (m.blanks.tabs + m.blanks.spaces)) (sym p ∙ e) (rw stack_length at (change_ok (stack a depth) m.blanks.tabs m.blanks.spaces h))

    few_in : length (notes (place_at t at)) + at + (m.blanks.tabs + m.blanks.spaces) ≤ m.at
    few_in = notes_few (place_at t at) m (sym q ∙ u)

    -- the innermost level that stays
    stays : (y : Result LevelChange Ending) → z ≡ y → Stays (stack a depth) m.blanks.tabs m.blanks.spaces y
    stays y e = subst (Stays (stack a depth) m.blanks.tabs m.blanks.spaces) (sym p ∙ e) (change_stays (stack a depth) m.blanks.tabs m.blanks.spaces)

    pub start_wrong : (w : Ending) → z ≡ Err w → StartedBelow t a depth at (Err (w, m.at))
    unfolding round line_start at_level
    start_wrong w e = record { start = (margin_in.to, rw (← q, u, ← p, e)); top = tt; line = tt }

    module _ (c : LevelChange) (v : z ≡ Ok c) where
      pub start_same : c ≡ S.Same → StartedBelow t a depth at (Ok (record { indents = 0; dedents = 0; from = m.at; blanks = m.blanks; depth = depth }))
      unfolding round line_start at_level dedents
      start_same w =
          let e : z ≡ Ok S.Same = v ∙ ap Ok w in
          record { start = (omega (arith, ok, margin_in, few_in), rw (← q, u, ← p, e, append-nil)); top = sym (stays (Ok S.Same) e); line = blanks_in_line }

      pub start_in : c ≡ S.Indent → StartedBelow t a depth at (Ok (record { indents = 1; dedents = 0; from = m.at; blanks = m.blanks; depth = depth + 1 }))
      unfolding round line_start at_level dedents top_of
      start_in w =
          let e : z ≡ Ok S.Indent = v ∙ ap Ok w in
          let f = depth_told (Ok S.Indent) e in
          let n : depth + 1 - 1 ≡ depth = omega arith in
          let push = stack_push (level 0 0) a depth m.blanks (omega (arith, ok)) in
          record { start = (omega (arith, ok, margin_in, few_in, f), rw (← q, u, ← p, e, n, push)); top = rw (n, push); line = blanks_in_line }

      pub out_room : (d : ℕ) → c ≡ S.DedentTo d → d ≤ depth
      out_room d w = depth_told (Ok (S.DedentTo d)) (v ∙ ap Ok w)

      pub start_out : (d : ℕ) → c ≡ S.DedentTo d → StartedBelow t a depth at (Ok (record { indents = 0; dedents = depth - d; from = m.at; blanks = m.blanks; depth = d }))
      unfolding round line_start at_level
      start_out d w =
          let e : z ≡ Ok (S.DedentTo d) = v ∙ ap Ok w in
          let f = out_room d w in
          let k : drop (depth - d) (stack a depth) ≡ stack a d = stack_left (level 0 0) a depth d f in
          record {
            start = (omega (arith, ok, margin_in, few_in, f), rw (← q, u, ← p, e, stack_length, k));
            top = sym (rw (stack_length, k) at (stays (Ok (S.DedentTo d)) e));
            line = blanks_in_line;
          }
