-- A text's lines written: what is left to write from a line's start is what was left from the first.
-- Assumes nothing.
use Prim.Native.Nat.{ℕ, ◌+◌, ◌-◌, ◌^◌, ◌<◌, ◌≤◌}
use mathlib.Core.Path.{◌≡◌, refl, sym, ◌∙◌, ap, subst}
use mathlib.Core.List.{List, ◌++◌}
use mathlib.Core.Bool.{Bool, true}
use native.Mathlib.Omega.{arith}
use lib.ListN.{length}
use Rattle.records.specs.Limits.{places}
use Rattle.token.specs.declared.Ending.{Ending}
use Rattle.indentation.specs.declared.Level.{Level}
use Rattle.indentation.specs.Levels.{top_of}
use Rattle.indentation.specs.Promises.{stack}
use Rattle.rounds.specs.Rounds.{state, dedents, Reading, view}
use Rattle.lines.specs.Lines.{line_at}
use Rattle.lines.proofs.Laws.{line_most}
use Rattle.window.specs.Place.{place_at}
use Rattle.indentation.specs.Notes.{notes}
use Rattle.rounds.specs.declared.Pending.{Pending}
use Rattle.std.specs.Prelude.{Result, Ok, Err, Some, None}
use Rattle.rounds.specs.Promises.{pending_records, levels_after, Started, BlanksInLine, StartedBelow, from_item}
use Rattle.measuring.specs.declared.LineEnd.{LineEnd}
use Rattle.measuring.specs.declared.LineEnd.TheVariants.{Newline, Error, End}
use Rattle.measuring.specs.declared.Numbers.{Numbers}
use Rattle.measuring.specs.Promises.{tally, line_end_tally, LineEndFits}
use Rattle.measuring.proofs.Texts as counts
use Rattle.measuring.proofs.Texts.{TextInv, Tailed, Stored, length_after}
use Rattle.soft_keywords.specs.SoftKeywords.{soften}
use Rattle.records.specs.Records.{puts, room}
use Rattle.filling.specs.declared.Written.{Written}
use Rattle.filling.specs.Promises.{DedentsOk, LinesAbove, line_end_puts, LineFill, LineFilled, TextFill, Filled}

pub record FillText (full : Bool) (t row₀ : List ℕ) (start : ℕ) (a₀ : List Level) (d₀ at₀ n₀ : ℕ) (line : Bool) (row : List ℕ) (a : List Level) (inner : Level) (d at up n : ℕ) (fresh : Bool) : Type 0 where
  pub counts : TextInv full t a₀ d₀ at₀ n₀ a inner d at n
  pub lined : up ≡ line_at t at
  pub fits : start + length t < places
  pub room : n + length (view full t (state at true 0 (stack a d))).recs ≤ room row
  pub same : length row ≡ length row₀
  pub left : puts t start row n (soften fresh (view full t (state at true 0 (stack a d))).recs) ≡ puts t start row₀ n₀ (soften line (view full t (state at₀ true 0 (stack a₀ d₀))).recs)

pub fill_begin : (full : Bool) (t row : List ℕ) (start : ℕ) (a : List Level) (inner : Level) (d at above n : ℕ) (line : Bool) → TextFill full t row start a d at above n → inner ≡ top_of (stack a d)
    → FillText full t row start a d at n line row a inner d at above n line
fill_begin full t row start a inner d at above n line ok e = record { lined = ok.up; counts = counts.text_begin full t a inner d at n ok.ok e; fits = ok.fits; room = ok.room; same = refl; left = refl }

module _ (full : Bool) (t row₀ : List ℕ) (start : ℕ) (a₀ : List Level) (d₀ at₀ n₀ : ℕ) (line : Bool) (row : List ℕ) (a : List Level) (inner : Level) (d at up n : ℕ) (fresh : Bool)
    (inv : FillText full t row₀ start a₀ d₀ at₀ n₀ line row a inner d at up n fresh) (s : Result Pending (Ending × ℕ)) (sd : StartedBelow t a d at s) where
  pub text_stop : (w : Ending) (p : ℕ) → s ≡ Err (w, p) → Filled full t row₀ row start a₀ d₀ at₀ n₀ line (record { ending = Some w; count = n; place = p })
  unfolding soften puts
  text_stop w p e = record {
    counted = counts.text_stop full t a₀ d₀ at₀ n₀ a inner d at n inv.counts s sd w p e;
    records = sym (ap (λ (r : Reading). puts t start row n (soften fresh r.recs)) (counts.view_stop full t a d at inv.counts.ok.within s sd.start w p e)) ∙ inv.left;
  }

  module _ (l : Pending) (e : s ≡ Ok l) where
    went : Started t a d at (Ok l)
    went = subst (Started t a d at) e sd.start

    begun : view full t (state at true 0 (stack a d)) ≡ from_item full t (notes (place_at t at) ++ pending_records l) true l.from 0 (levels_after l a)
    begun = counts.view_go full t a d at inv.counts.ok.within s sd.start l e

    in_line : BlanksInLine t (Ok l)
    in_line = subst (BlanksInLine t) e sd.line

    pub line_fill : LineFill full t row start n at up l
    line_fill = record {
      item = record { line = inv.lined; blanks = in_line; on = omega (arith, went.0.from); to = went.0.to };
      ok = counts.line_ok full t a₀ d₀ at₀ n₀ a inner d at n inv.counts s sd l e _ refl;
      begins = inv.counts.ok.within;
      one = went.0.indents;
      wide = omega (arith, went.0.from);
      fits = inv.fits;
      levels = levels_after l a;
      room = subst (λ (r : Reading). n + length r.recs ≤ room row) begun inv.room;
    }

    module _ (y : List ℕ) (wr : Written) (ln : LineFilled full t row y start n at l fresh wr) where
      abbrev x : LineEnd
      x = wr.end

      pub filled_tailed : Tailed full t at l n x
      filled_tailed = record { same = ln.counted; fits = ln.bounds }

      same_row : length y ≡ length row₀
      same_row = ln.same ∙ inv.same

      -- the row that the line's end leads to
      tailed : line_end_puts full start t (levels_after l a) y x ≡ puts t start row₀ n₀ (soften line (view full t (state at₀ true 0 (stack a₀ d₀))).recs)
      tailed = ln.left (levels_after l a) ∙ sym (ap (λ (r : Reading). puts t start row n (soften fresh r.recs)) begun) ∙ inv.left

      told_row : (v : LineEnd) → x ≡ v → line_end_puts full start t (levels_after l a) y v ≡ puts t start row₀ n₀ (soften line (view full t (state at₀ true 0 (stack a₀ d₀))).recs)
      told_row v z = subst (λ v. line_end_puts full start t (levels_after l a) y v ≡ puts t start row₀ n₀ (soften line (view full t (state at₀ true 0 (stack a₀ d₀))).recs)) z tailed

      told_tally : (v : LineEnd) → x ≡ v → tally n (view full t (state at true 0 (stack a d))) ≡ line_end_tally full t (levels_after l a) v
      told_tally v z = subst (λ v. tally n (view full t (state at true 0 (stack a d))) ≡ line_end_tally full t (levels_after l a) v) z (ap (tally n) begun ∙ ln.counted (levels_after l a))

      pub tail_stop : (w : Ending) (p k : ℕ) → x ≡ Error w p k → Filled full t row₀ y start a₀ d₀ at₀ n₀ line (record { ending = Some w; count = k; place = p })
      tail_stop w p k z = record {
        counted = counts.tail_stop full t a₀ d₀ at₀ n₀ a inner d at n inv.counts s sd l e x filled_tailed w p k z;
        records = told_row (Error w p k) z;
      }

      module _ (p k : ℕ) (z : x ≡ End p k) where
        pub over_fits : k + l.depth < 2 ^ 64
        over_fits = counts.over_fits full t a₀ d₀ at₀ n₀ a inner d at n inv.counts s sd l e x filled_tailed p k z

        over_up : wr.above ≡ line_at t p
        over_up = subst (λ w. LinesAbove t w wr.above) z ln.up

        pub over_room : DedentsOk (room y) start k l.depth p wr.above
        over_room =
            let c = ap (λ (u : Numbers). u.count) (told_tally (End p k) z) in
            let f : p ≡ length t = (subst (LineEndFits t l.from) z ln.bounds).0 in
            omega (arith, inv.room, c, length_after l a, ln.same, inv.fits, over_up, line_most t p)

        pub tail_over : (u : List ℕ) → ((t : List ℕ) → wr.above ≡ line_at t p → u ≡ puts t start y k (dedents l.depth p)) → Filled full t row₀ u start a₀ d₀ at₀ n₀ line (record { ending = None; count = k + l.depth; place = p })
        tail_over u q = record {
          counted = counts.tail_over full t a₀ d₀ at₀ n₀ a inner d at n inv.counts s sd l e x filled_tailed p k z;
          records = q t over_up ∙ ap (λ m. puts t start y k (dedents m p)) (sym (length_after l a)) ∙ told_row (End p k) z;
        }

      module _ (b k : ℕ) (z : x ≡ Newline b k) where
        pub next_less : length t - b < length t - at
        next_less = counts.next_less full t a₀ d₀ at₀ n₀ a inner d at n inv.counts s sd l e x filled_tailed b k z

        next_room : k + length (view full t (state b true 0 (levels_after l a))).recs ≤ room y
        next_room = omega (arith, inv.room, ap (λ (u : Numbers). u.count) (told_tally (Newline b k) z), ln.same)

        pub text_next : (c : List Level) → Stored l a c → FillText full t row₀ start a₀ d₀ at₀ n₀ line y c l.blanks l.depth b wr.above k true
        text_next c v = record {
          lined = subst (λ w. LinesAbove t w wr.above) z ln.up;
          counts = counts.text_next full t a₀ d₀ at₀ n₀ a inner d at n inv.counts s sd l e x filled_tailed c b k v z;
          fits = inv.fits;
          room = rw v.same at next_room;
          same = same_row;
          left = rw v.same at (told_row (Newline b k) z);
        }
