-- Document 01 "Letting a margin comment close a block", Reference 2.1.7: the bytes of blank and comment lines. A tab after a space is code 25,
-- so tabs come first; behind a form feed they may come again.
use Rattle.std.specs.Prelude.{ℕ, ◌≡◌, List, [], ◌∷◌, ◌++◌, true, replicate}
use Prim.Native.Char.{code}
use Rattle.names.specs.Runs.{not_newline}

-- Reference 2.1.2: the bytes of one newline
pub data NewlineBytes : List ℕ → Type 0 where
  lf : NewlineBytes (code "\n" ∷ [])
  cr : NewlineBytes (code "\r" ∷ [])
  crlf : NewlineBytes (code "\r" ∷ code "\n" ∷ [])

-- none of these bytes is a CR or an LF
abbrev pub InLine : List ℕ → Type 0
InLine [] = Unit
InLine (b ∷ bs) = (not_newline b ≡ true) × InLine bs

-- bytes behind tabs and then spaces
abbrev pub indented : ℕ → ℕ → List ℕ → List ℕ
indented tabs spaces bytes = replicate tabs (code "\t") ++ (replicate spaces (code " ") ++ bytes)

-- Reference 2.1.3: a line with a comment alone, at the margin or behind any tabs and spaces; its bytes may be ill-formed UTF-8
pub data CommentLine : List ℕ → Type 0 where
  hash : (tabs spaces : ℕ) (text : List ℕ) {newline : List ℕ} → InLine text → NewlineBytes newline → CommentLine (indented tabs spaces (code "#" ∷ (text ++ newline)))

-- a comment line before the rest of a text; where nothing follows, its newline may be left out
pub data CommentBefore : (bytes rest : List ℕ) → Type 0 where
  line : {bytes : List ℕ} (rest : List ℕ) → CommentLine bytes → CommentBefore bytes rest
  last : (tabs spaces : ℕ) (text : List ℕ) → InLine text → CommentBefore (indented tabs spaces (code "#" ∷ text)) []

-- blank and comment lines, one after another; a form feed is passed with the blanks before it, as a blank line is (document 01 "Line start")
pub data Lines : List ℕ → Type 0 where
  none : Lines []
  feed : (tabs spaces : ℕ) {rest : List ℕ} → Lines rest → Lines (indented tabs spaces (code "\u{c}" ∷ []) ++ rest)
  blank : (tabs spaces : ℕ) {newline rest : List ℕ} → NewlineBytes newline → Lines rest → Lines (indented tabs spaces newline ++ rest)
  comment : {bytes rest : List ℕ} → CommentLine bytes → Lines rest → Lines (bytes ++ rest)
