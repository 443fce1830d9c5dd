-- What a glance at one or two bytes promises that say enough.
use Rattle.std.specs.Prelude.{ℕ, ◌+◌, ◌<◌, ◌≤◌, ◌≡◌, List, Bool, true, false, eqb, ltb, leb, Some}
use Prim.Native.Char.{code}
use Rattle.lines.specs.Lines.{line_at}
use Rattle.choice.specs.Choice.{choose}
use Rattle.window.specs.Place.{place_at}
use Rattle.classes.specs.Promises.{is_ascii_start}
use Rattle.token.specs.Kinds as K
use Rattle.names.specs.declared.Lexed.{Lexed}
use Rattle.names.specs.Runs.{is_blank}
use Rattle.names.specs.Promises.{RunEnd, lexed_name}
use Rattle.strings.specs.Strings.{is_quote}
use Rattle.numbers.specs.Numbers.{is_digit}
use Rattle.operators.specs.Operators.{longest_operator}
use Rattle.lexer.specs.declared.Step.TheVariants as T
use Rattle.lexer.specs.declared.Seen.{Seen}
use Rattle.lexer.specs.declared.Seen.TheVariants as G
use Rattle.token.specs.Brackets.{is_opener, is_closer}
use Rattle.lexer.specs.Steps.{is_note, nest_after, step_at}

-- a letter of ASCII or the underscore, and none of b, f, r, u in either case
unfoldable pub starts_name : ℕ → Bool
starts_name c =
    choose (eqb c (code "B")) (λ _. false)
    (λ _. choose (eqb c (code "F")) (λ _. false)
    (λ _. choose (eqb c (code "R")) (λ _. false)
    (λ _. choose (eqb c (code "U")) (λ _. false)
    (λ _. choose (eqb c (code "b")) (λ _. false)
    (λ _. choose (eqb c (code "f")) (λ _. false)
    (λ _. choose (eqb c (code "r")) (λ _. false)
    (λ _. choose (eqb c (code "u")) (λ _. false)
    (λ _. is_ascii_start c))))))))

-- a character after which a letter of a prefix may open a string: a quote, or b, f, r in either case
unfoldable pub may_open : ℕ → Bool
may_open c =
    choose (eqb c (code "\"")) (λ _. true)
    (λ _. choose (eqb c (code "'")) (λ _. true)
    (λ _. choose (eqb c (code "B")) (λ _. true)
    (λ _. choose (eqb c (code "F")) (λ _. true)
    (λ _. choose (eqb c (code "R")) (λ _. true)
    (λ _. choose (eqb c (code "b")) (λ _. true)
    (λ _. choose (eqb c (code "f")) (λ _. true)
    (λ _. eqb c (code "r"))))))))

-- a character of ASCII that makes no operator longer and follows no number's dot
unfoldable pub is_apart : ℕ → Bool
is_apart c = choose (leb c (code " ")) (λ _. true) (λ _. ltb (code "@") c)

-- a character of ASCII that is no blank, no letter, no digit and no quote
pub record Mark (b : ℕ) : Type 0 where
  pub above : code " " < b
  pub below : b < 128
  pub start : is_ascii_start b ≡ false
  pub digit : is_digit 10 b ≡ false
  pub quote : is_quote b ≡ false

-- the number of the operator that a byte is, whatever follows
pub record Single (b r : ℕ) : Type 0 where
  pub mark : Mark b
  pub high : K.equal ≤ r
  pub dot : eqb b (code ".") ≡ false
  pub same : (c d : ℕ) → longest_operator b c d ≡ Some (r, 1)

-- or that it is before a character that stands apart
pub record Alone (b r : ℕ) : Type 0 where
  pub mark : Mark b
  pub high : K.equal ≤ r
  pub bracket : (is_opener r ≡ false) × (is_closer r ≡ false)
  pub same : (c d : ℕ) → is_apart c ≡ true → longest_operator b c d ≡ Some (r, 1)

-- the token that a glance means: a name, which may be a keyword, or else an operator of one byte
unfoldable pub glanced_at : List ℕ → ℕ → ℕ → Lexed
glanced_at t at q = choose (eqb q K.name) (λ _. lexed_name (place_at t at)) (λ _. record { kind = q; end = at + 1 })

-- whether a glance tells a token, or the end of a line
unfoldable pub goes_on : Seen → Bool
goes_on G.Nothing = false
goes_on G.Blank = false
goes_on G.Newline = true
goes_on (G.Token k) = true

-- a token that a glance tells, within so many brackets: no note, and in its line
pub record Told (t : List ℕ) (at nest k : ℕ) : Type 0 where
  pub apart : is_note (glanced_at t at k).kind ≡ false
  pub token : step_at t at nest ≡ T.Tok (glanced_at t at k).kind (glanced_at t at k).end (nest_after nest k)
  pub inside : line_at t (glanced_at t at k).end ≡ line_at t at

-- what a glance within so many brackets promises of the step
abbrev pub Glanced : List ℕ → ℕ → ℕ → Seen → Type 0
Glanced t at nest G.Nothing = Unit
Glanced t at nest G.Blank = (e : ℕ) → RunEnd is_blank t at e → step_at t at nest ≡ T.Gap e
Glanced t at nest G.Newline = (step_at t at nest ≡ T.Newline (at + 1)) × (line_at t (at + 1) ≡ line_at t at + 1)
Glanced t at nest (G.Token k) = Told t at nest k
