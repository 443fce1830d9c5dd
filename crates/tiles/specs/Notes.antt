-- Document 02 item 1, "nothing else is added": what a comment and a newline are in a text's bytes, and that each note of a list is one.
use Rattle.std.specs.Prelude.{ℕ, ◌+◌, ◌<◌, ◌≤◌, ◌≡◌, List, [], ◌∷◌, true, false, length, get_or}
use Prim.Native.Char.{code}
use Rattle.token.specs.Kinds as K
use Rattle.utf8.specs.Utf8.{no_byte}
use Rattle.records.specs.Records.{Spanned}
use Rattle.names.specs.Runs.{not_newline}

-- Reference 2.1.3: from a `#` over no newline, up to one or to the text's end
pub record CommentIn (t : List ℕ) (s e : ℕ) : Type 0 where
  pub some : s < e
  pub to : e ≤ length t
  pub hash : get_or t s no_byte ≡ code "#"
  pub line : (i : ℕ) → s ≤ i → i < e → not_newline (get_or t i no_byte) ≡ true
  pub ends : e < length t → not_newline (get_or t e no_byte) ≡ false

-- Reference 2.1.2: LF, CR with no LF behind it, or CR LF as one
pub data NewlineIn (t : List ℕ) (s : ℕ) : ℕ → Type 0 where
  lf : get_or t s no_byte ≡ code "\n" → NewlineIn t s (s + 1)
  cr : get_or t s no_byte ≡ code "\r" → (get_or t (s + 1) no_byte ≡ code "\n" → ⊥) → NewlineIn t s (s + 1)
  crlf : get_or t s no_byte ≡ code "\r" → get_or t (s + 1) no_byte ≡ code "\n" → NewlineIn t s (s + 2)

-- a record of kind 7 is a comment of the text, one of kind 8 a newline
pub record Stands (t : List ℕ) (r : Spanned) : Type 0 where
  pub comment : r.kind ≡ K.comment → CommentIn t r.start r.end
  pub newline : r.kind ≡ K.non_logical_newline → NewlineIn t r.start r.end

-- each record of a list does
abbrev pub AllStand : List ℕ → List Spanned → Type 0
AllStand t [] = Unit
AllStand t (r ∷ rs) = Stands t r × AllStand t rs
