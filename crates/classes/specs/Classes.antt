-- Reference 2.3, UAX #31, document 01 "Classes": the characters that start and that continue an identifier. The Reference takes those of
-- Unicode 14.0, the original those of 10.0, and so do we (tables/README.md). That an emoji is a name is the original's rule alone.
use Prim.Native.Char.{code}
use Rattle.std.specs.Prelude.{Bool, true, ℕ, eqb}
use Rattle.choice.specs.Choice.{choose}
use Rattle.classes.specs.Ranges.{in_ranges}
use Rattle.classes.specs.Tables.{xid_start, xid_continue, emoji_presentation}

-- Reference 2.3, the original's `is_identifier_start`: XID_Start and the underscore
unfoldable pub is_identifier_start : ℕ → Bool
is_identifier_start c = choose (eqb c (code "_")) (λ _. true) (λ _. in_ranges xid_start c)

-- Reference 2.3, the original's `is_identifier_continuation`: XID_Continue, which has the underscore
unfoldable pub is_identifier_continuation : ℕ → Bool
is_identifier_continuation c = in_ranges xid_continue c

-- UTS #51, document 01 "Classes": Emoji_Presentation, by Emoji 5.0; the original's `consume_character` asks for it
unfoldable pub is_emoji : ℕ → Bool
is_emoji c = in_ranges emoji_presentation c
