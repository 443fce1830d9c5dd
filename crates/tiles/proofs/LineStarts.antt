-- A line's start: its notes are laid out up to the blanks that are counted. Byte by byte the notes and the blanks go on alike, over a blank,
-- a comment or a newline, and stop alike.
-- Assumes nothing.
use Prim.Native.Nat.{ℕ, zero, suc, ◌+◌, ◌-◌, ◌<◌, ◌≤◌}
use Prim.Native.Char.{code}
use mathlib.Core.Path.{◌≡◌, refl, sym, ◌∙◌, subst}
use mathlib.Core.List.{List, ◌∷◌}
use mathlib.Core.Bool.{false}
use native.Mathlib.Omega.{arith}
use native.Mathlib.Decide.{dec_lt, ℕ_discrete}
use lib.ListN.{length, get_or, drop}
use Rattle.utf8.specs.Chars.{chars}
use Rattle.utf8.proofs.Bytes.{get_or_any}
use Rattle.window.specs.Place.{Place, place_at}
use Rattle.records.specs.Records.{Spanned, spanned}
use Rattle.std.specs.Prelude.{Result, Ok, Err}
use Rattle.indentation.specs.declared.Margin.{Margin}
use Rattle.indentation.specs.Blanks.{blanks_from, blanks}
use Rattle.indentation.specs.Notes.{notes}
use Rattle.indentation.proofs.BlankLaws.{blanks_end, blanks_space, blanks_tab, blanks_bad, blanks_feed, blanks_other}
use Rattle.indentation.proofs.NoteSteps.{note_space, note_tab, note_feed, note_other, note_end}
use Rattle.tiles.specs.Tiles.{Blank}
use Rattle.tiles.specs.Tiles.Blank.{none, space, tab, feed}
use Rattle.tiles.proofs.Bytes.{NotedAt, lf_at, cr_at, comment_at}
use Rattle.tiles.proofs.Laid.{blank_then, Laid}

-- a byte is one of those on which a line's start goes on, or none of them
by_byte : (P : Type 0) (b : ℕ) → (b ≡ code " " → P) → (b ≡ code "\t" → P) → (b ≡ code "#" → P) → (b ≡ code "\u{c}" → P) → (b ≡ code "\n" → P) → (b ≡ code "\r" → P)
    → ((b ≡ code " " → ⊥) → (b ≡ code "\t" → ⊥) → (b ≡ code "#" → ⊥) → (b ≡ code "\u{c}" → ⊥) → (b ≡ code "\n" → ⊥) → (b ≡ code "\r" → ⊥) → P) → P
by_byte P b s t c f l r o =
    by (ℕ_discrete b (code " ")) s (λ n1. by (ℕ_discrete b (code "\t")) t (λ n2. by (ℕ_discrete b (code "#")) c (λ n3. by (ℕ_discrete b (code "\u{c}")) f (λ n4.
    by (ℕ_discrete b (code "\n")) l (λ n5. by (ℕ_discrete b (code "\r")) r (λ n6. o n1 n2 n3 n4 n5 n6))))))
  where
    by : {A : Type 0} → Dec A → (A → P) → ((A → ⊥) → P) → P
    by (yes x) f g = f x
    by (no x) f g = g x

module _ (t : List ℕ) where
  -- notes from `low` on, and blanks behind them of which some are counted
  abbrev pub Begins : ℕ → Result Margin Margin → List Spanned → Type 0
  Begins low (Ok m) ns = Laid t low ns (m.at - (m.blanks.tabs + m.blanks.spaces)) × Blank t (m.at - (m.blanks.tabs + m.blanks.spaces)) m.at
  Begins low (Err m) ns = Unit {0}

  same : (low : ℕ) {m m' : Result Margin Margin} {ns ns' : List Spanned} → m ≡ m' → ns' ≡ ns → Begins low m ns → Begins low m' ns'
  same low {ns' = ns'} p q b = subst (λ (x : Result Margin Margin). Begins low x ns') p (subst (Begins low _) (sym q) b)

  -- blanks up to the byte i, the last of them counted
  record Before (low i tabs spaces : ℕ) : Type 0 where
    room : tabs + spaces ≤ i
    gap : Blank t low (i - (tabs + spaces))
    count : Blank t (i - (tabs + spaces)) i

  all_before : (low i tabs spaces : ℕ) → Before low i tabs spaces → Blank t low i
  all_before low i tabs spaces b = blank_then b.gap b.count

  anew : (low i : ℕ) → Blank t low i → Before low i 0 0
  anew low i b = let z : i - (0 + 0) ≡ i = omega arith in record { room = omega arith; gap = rw z b; count = rw z none }

  -- one more is counted
  more : (low i tabs spaces tabs' spaces' : ℕ) → tabs' + spaces' ≡ tabs + spaces + 1 → Blank t i (i + 1) → Before low i tabs spaces → Before low (i + 1) tabs' spaces'
  more low i tabs spaces tabs' spaces' e x b =
      let z : i + 1 - (tabs' + spaces') ≡ i - (tabs + spaces) = omega (arith, b.room) in
      record { room = omega (arith, b.room); gap = rw z b.gap; count = rw z (blank_then b.count x) }

  -- a line's start from the byte i on, with so many blanks counted; and wherever few bytes are left
  abbrev From : ℕ → ℕ → ℕ → ℕ → Type 0
  From low i tabs spaces = Begins low (blanks_from false i tabs spaces (chars (drop i t))) (notes (place_at t i))

  abbrev Rest : ℕ → Type 0
  Rest n = (low i tabs spaces : ℕ) → length t - i < n → i ≤ length t → Before low i tabs spaces → From low i tabs spaces

  -- over a blank or a note, or at what stops both
  module _ (n low i tabs spaces : ℕ) (h : i < length t) (l : length t - i ≤ n) (b : Before low i tabs spaces) (ih : Rest n) where
    byte : (k : ℕ) → get_or t i 0 ≡ k → get_or t i 256 ≡ k
    byte k e = get_or_any t i 256 0 h ∙ e

    on_space : get_or t i 0 ≡ code " " → From low i tabs spaces
    on_space e =
        same low (blanks_space t i tabs spaces _ refl h e) (sym (note_space t i h i refl (omega arith) e))
        (ih low (i + 1) tabs (spaces + 1) (omega arith) (omega arith) (more low i tabs spaces tabs (spaces + 1) (omega arith) (space (byte (code " ") e) none) b))

    on_tab : get_or t i 0 ≡ code "\t" → From low i tabs spaces
    on_tab e = go (ℕ_discrete spaces 0)
      where
        go : Dec (spaces ≡ 0) → From low i tabs spaces
        go (yes z) =
            same low (blanks_tab t i tabs spaces _ refl h e z) (sym (note_tab t i h i refl (omega arith) e))
            (ih low (i + 1) (tabs + 1) spaces (omega arith) (omega arith) (more low i tabs spaces (tabs + 1) spaces (omega arith) (tab (byte (code "\t") e) none) b))
        go (no z) = same low {ns = notes (place_at t i)} (blanks_bad t i tabs spaces _ refl h e z) refl tt

    on_feed : get_or t i 0 ≡ code "\u{c}" → From low i tabs spaces
    on_feed e =
        same low (blanks_feed t i tabs spaces _ refl h e) (sym (note_feed t i h i refl (omega arith) e))
        (ih low (i + 1) 0 0 (omega arith) (omega arith) (anew low (i + 1) (blank_then (all_before low i tabs spaces b) (feed (byte (code "\u{c}") e) none))))

    on_note : (k : ℕ) (q : Place) → NotedAt t i k q → From low i tabs spaces
    unfolding blanks
    on_note k q r =
        let on = ih r.end r.end 0 0 (omega (arith, r.next)) r.next.to (anew r.end r.end none) in
        same low (r.margin tabs spaces) r.next.reads (first (blanks (place_at t r.end)) on)
      where
        first : (m : Result Margin Margin) → Begins r.end m (notes (place_at t r.end)) → Begins low m (spanned k i r.end ∷ notes (place_at t r.end))
        first (Ok m) l = ((all_before low i tabs spaces b, omega (arith, r.next.some), r.stands, l.0), l.1)
        first (Err m) l = tt

    on_byte : From low i tabs spaces
    on_byte =
        by_byte (From low i tabs spaces) (get_or t i 0) on_space on_tab
        (λ e. on_note 7 _ (comment_at t i (byte (code "#") e))) on_feed (λ e. on_note 8 _ (lf_at t i (byte (code "\n") e))) (λ e. on_note 8 _ (cr_at t i (byte (code "\r") e)))
        (λ n1 n2 n3 n4 n5 n6. same low (blanks_other t i tabs spaces _ refl h n1 n2 n3 n4 n5 n6) (note_other t i h i refl (omega arith) n1 n2 n4 n3 n5 n6) (b.gap, b.count))

  walk : (n : ℕ) → Rest n
  walk zero low i tabs spaces l h b = absurd (omega arith)
  walk (suc n) low i tabs spaces l h b = go (dec_lt i (length t)) (walk n)
    where
      go : Dec (i < length t) → Rest n → From low i tabs spaces
      go (yes k) ih = on_byte n low i tabs spaces k (omega arith) b ih
      go (no k) ih =
          same low (blanks_end t i tabs spaces _ refl (omega arith)) (note_end t i i refl (omega arith))
          (let a = anew low i (all_before low i tabs spaces b) in (a.gap, a.count))

  -- THE LAW: a line's notes from its start on, and its blanks
  pub line_start_lem : (at : ℕ) → at ≤ length t → Begins at (blanks (place_at t at)) (notes (place_at t at))
  unfolding blanks
  line_start_lem at h = walk (suc (length t)) at at 0 0 (omega arith) h (anew at at none)
