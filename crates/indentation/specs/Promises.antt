-- What the code of a line's start promises: a stack in an array, the innermost level, the next note.
use Rattle.std.specs.Prelude.{ℕ, ◌<◌, ◌≤◌, List, [], ◌∷◌, length, ◌≡◌, Option, Some, None, Result, Ok}
use Rattle.stacks.specs.Promises.{stack_in}
use Rattle.token.specs.declared.Ending.{Ending}
use Rattle.indentation.specs.declared.Level.{Level}
use Rattle.indentation.specs.declared.LevelChange.{LevelChange}
use Rattle.indentation.specs.declared.LevelChange.TheVariants.{DedentTo}
use Rattle.window.specs.Place.{place_at}
use Rattle.records.specs.Records.{spanned}
use Rattle.indentation.specs.declared.Note.{Note}
use Rattle.indentation.specs.Levels.{level, compare_strict, change_by}
use Rattle.indentation.specs.Notes.{notes}

-- the open levels in the array: its first places, innermost first
abbrev pub stack : List Level → ℕ → List Level
stack a depth = stack_in (level 0 0) a depth

-- `change_of` as far as the innermost level tells it: DedentTo depth where levels are to be popped
unfoldable pub change_at_top : Level → ℕ → ℕ → ℕ → Result LevelChange Ending
change_at_top top depth tabs spaces = change_by (compare_strict tabs spaces top) depth (Ok (DedentTo depth))

-- the first note from a byte on, as the program has it: its kind, and the bytes where it starts and ends
pub record NextNote (t : List ℕ) (at k s e : ℕ) : Type 0 where
  pub from : at ≤ s
  pub some : s < e
  pub to : e ≤ length t
  pub reads : notes (place_at t at) ≡ spanned k s e ∷ notes (place_at t e)

-- what the program says of a byte: the first note from there on, or that there is none
abbrev pub NoteAt : List ℕ → ℕ → Option Note → Type 0
NoteAt t at (Some n) = NextNote t at n.kind n.from n.to
NoteAt t at None = notes (place_at t at) ≡ []
