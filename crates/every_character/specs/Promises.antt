-- What the program goes through: the classes, the characters in their order, the runs of a class.
use Rattle.std.specs.Prelude.{ℕ, zero, suc, ◌+◌, ◌-◌, Bool, ltb, eqb}
use Rattle.choice.specs.Choice.{choose}
use Rattle.utf8.specs.Chars.{no_char}
use Rattle.every_character.specs.declared.Class.{Class}
use Rattle.every_character.specs.declared.Class.TheVariants.{Starts, Continuations, Emoji}
use Rattle.classes.specs.Classes.{is_identifier_start, is_identifier_continuation, is_emoji}

-- a class has a character
abbrev pub is_in : Class → ℕ → Bool
is_in Starts = is_identifier_start
is_in Continuations = is_identifier_continuation
is_in Emoji = is_emoji

-- RFC 3629, section 3: the next character; D800 to DFFF, the surrogates, are none
unfoldable pub successor : ℕ → ℕ
successor c = choose (eqb c 0xd7ff) (λ _. 0xe000) (λ _. c + 1)

-- the first of the next `left` characters, from c on, that is past the last one or not of the class
unfoldable pub run_from : (ℕ → Bool) → ℕ → ℕ → ℕ
run_from f zero c = c
run_from f (suc left) c = choose (ltb c no_char) (λ _. choose (f c) (λ _. run_from f left (successor c)) (λ _. c)) (λ _. c)

-- the first character from c on that is not of the class, or no_char
unfoldable pub run_end : (ℕ → Bool) → ℕ → ℕ
run_end f c = run_from f (no_char - c) c
