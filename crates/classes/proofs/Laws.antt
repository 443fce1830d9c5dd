-- Laws of the classes, for the layers above: how they lie to each other, where they end, and their ASCII part.
-- Assumes nothing.
use Prim.Native.Char.{code}
use mathlib.Core.Bool.{Bool, true, false}
use mathlib.Core.Path.{◌≡◌, refl, ◌∙◌}
use Prim.Native.Nat.{ℕ, ◌≤◌, ◌<◌, zero-le}
use native.Mathlib.Omega.{arith}
use lib.Dec.{eqb}
use borrow.Author.Tests.{eqb-true, ne_eqb}
use Rattle.choice.specs.Choice.{choose}
use Rattle.choice.proofs.Laws.{choose_keeps}
use Rattle.utf8.specs.Chars.{no_char, letters}
use Rattle.classes.specs.Ranges.{in_ranges}
use Rattle.classes.specs.Tables.{xid_start, xid_continue, emoji_presentation}
use Rattle.classes.specs.Classes.{is_identifier_start, is_identifier_continuation, is_emoji}
use Rattle.classes.specs.Promises.{is_ascii_start, is_ascii_continuation}
use Rattle.classes.proofs.Parts.{keep, meets, between, same_between, none_from}
use Rattle.classes.proofs.Sweep.{agree_below}
use Rattle.classes.proofs.Subsets.{is_empty, trim, covered, covers}

-- ---- how they lie to each other

underscore : in_ranges xid_continue (code "_") ≡ true
unfolding in_ranges xid_continue
underscore = refl

starts_within : covered xid_start xid_continue ≡ true
unfolding covered trim is_empty xid_start xid_continue
starts_within = refl

-- every start is a continuation
pub start_continues : (c : ℕ) → is_identifier_start c ≡ true → is_identifier_continuation c ≡ true
unfolding is_identifier_start is_identifier_continuation
start_continues c e =
    choose_keeps (λ (s : Bool). s ≡ true → in_ranges xid_continue c ≡ true) (eqb c (code "_"))
    (λ u _. rw (eqb-true c (code "_") u) underscore)
    (λ _ i. covers xid_start xid_continue c starts_within i)
    e

-- ---- where they end

-- no class goes beyond the last character
pub no_continue_beyond : (c : ℕ) → no_char ≤ c → is_identifier_continuation c ≡ false
unfolding is_identifier_continuation keep xid_continue
no_continue_beyond = none_from no_char xid_continue refl

-- ---- ASCII

ascii_words : between 0 0x80 xid_continue ≡ letters "09AZ__az"
unfolding keep meets xid_continue
ascii_words = refl

-- in ASCII, continuations are letters, digits and the underscore
pub ascii_continue : (c : ℕ) → c < 0x80 → is_identifier_continuation c ≡ is_ascii_continuation c
unfolding is_identifier_continuation in_ranges is_ascii_continuation
ascii_continue c h =
    same_between 0 0x80 xid_continue c zero-le h
    ∙ rw ascii_words (agree_below 0x80 (λ c. in_ranges (letters "09AZ__az") c) is_ascii_continuation refl c h)

ascii_letters : between 0 0x80 xid_start ≡ letters "AZaz"
unfolding keep meets xid_start
ascii_letters = refl

-- in ASCII, starts are letters and the underscore
pub ascii_start : (c : ℕ) → c < 0x80 → is_identifier_start c ≡ is_ascii_start c
unfolding is_identifier_start in_ranges is_ascii_start
ascii_start c h =
    rw (same_between 0 0x80 xid_start c zero-le h, ascii_letters)
    (agree_below 0x80 (λ c. choose (eqb c (code "_")) (λ _. true) (λ _. in_ranges (letters "AZaz") c)) is_ascii_start refl c h)

-- beyond ASCII only the table counts
pub beyond_ascii : {c : ℕ} {r : Bool} → in_ranges xid_start c ≡ r → 0x80 ≤ c → is_identifier_start c ≡ r
unfolding is_identifier_start
beyond_ascii {c} {r} e h = rw (ne_eqb c (code "_") (omega arith)) e

-- the first emoji is 0x231a
pub no_emoji_below : (c : ℕ) → c < 0x2300 → is_emoji c ≡ false
unfolding is_emoji in_ranges keep meets emoji_presentation
no_emoji_below c h = same_between 0 0x2300 emoji_presentation c zero-le h
