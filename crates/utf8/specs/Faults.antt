-- Document 02 item 2, said of a whole text: by what may follow its bytes, and not by how they are decoded. Where a fault shows, and each of
-- the seven in the request's words. `checked` tells the one that a text has (proofs/Shown).
use Rattle.std.specs.Prelude.{ℕ, suc, ◌<◌, ◌≤◌, ◌≡◌, List, ◌++◌, true, false, ltb, length, get_or, take}
use Rattle.choice.specs.Choice.{choose, either}
use Rattle.utf8.specs.declared.Fault.{Fault}
use Rattle.utf8.specs.declared.Fault.TheVariants.{Stray, Unused, CutByEnd, CutByByte, Overlong, Surrogate, TooLarge}
use Rattle.utf8.specs.Utf8.{no_byte, within, is_tail, three_bits, four_bits}
use Rattle.utf8.specs.Chars.{no_char, first_ill_formed, least_three, least_four}

-- the byte at a place
abbrev pub byte_at : List ℕ → ℕ → ℕ
byte_at t i = get_or t i no_byte

-- the numbers of a text are bytes; what a slice of them holds is
abbrev pub Bytes : List ℕ → Type 0
Bytes t = (i : ℕ) → i < length t → byte_at t i < no_byte

-- a text is well formed, and bytes begin one that is
abbrev pub IsWellFormed : List ℕ → Type 0
IsWellFormed t = first_ill_formed t ≡ length t

pub record Begins (u : List ℕ) : Type 0 where
  pub rest : List ℕ
  pub well : IsWellFormed (u ++ rest)

-- the first byte from the left that shows a fault stands at i: the bytes before it begin a well-formed text, and with it they begin none.
-- Where i is the end of the text, the end shows it
pub record Shows (t : List ℕ) (i : ℕ) : Type 0 where
  pub fits : i ≤ length t
  pub before : Begins (take i t)
  pub after : i < length t → Begins (take (suc i) t) → ⊥

-- the number that the bits of a sequence with the lead byte a make (RFC 3629, section 3), and the least that needs as many bytes
unfoldable pub bits : ℕ → ℕ → ℕ → ℕ → ℕ
bits a b c d = choose (ltb a 0xf0) (λ _. three_bits a b c) (λ _. four_bits a b c d)

unfoldable pub least_of : ℕ → ℕ
least_of a = choose (ltb a 0xf0) (λ _. least_three) (λ _. least_four)

-- the second byte of the sequence at p shows it: a continuation byte, and whatever others come behind it, P holds of the number
pub record Second (P : ℕ → Type 0) (t : List ℕ) (p i : ℕ) : Type 0 where
  pub second : i ≡ suc p
  pub tail : is_tail (byte_at t i) ≡ true
  pub number : (c d : ℕ) → is_tail c ≡ true → is_tail d ≡ true → P (bits (byte_at t p) (byte_at t i) c d)

-- each fault, of a text whose first ill-formed sequence stands at p, and which the byte at i shows
abbrev pub Has : Fault → (t : List ℕ) (p i : ℕ) → Type 0
-- a stray continuation byte
Has Stray t p i = (i ≡ p) × (is_tail (byte_at t p) ≡ true)
-- a byte C0, C1 or F5 to FF
Has Unused t p i = (i ≡ p) × (either (within 0xc0 0xc1 (byte_at t p)) (within 0xf5 0xff (byte_at t p)) ≡ true)
-- a sequence cut by the end of the text
Has CutByEnd t p i = i ≡ length t
-- a sequence cut by another byte
Has CutByByte t p i = (p < i) × (i < length t) × (is_tail (byte_at t i) ≡ false)
-- an overlong form
Has Overlong t p i = Second (λ n. n < least_of (byte_at t p)) t p i
-- a surrogate
Has Surrogate t p i = Second (λ n. (0xd800 ≤ n) × (n ≤ 0xdfff)) t p i
-- above 10FFFF
Has TooLarge t p i = Second (λ n. no_char ≤ n) t p i

-- the text has the fault f, at p
pub record FaultIn (t : List ℕ) (p : ℕ) (f : Fault) : Type 0 where
  pub first : first_ill_formed t ≡ p
  pub inside : p < length t
  pub shown : ℕ
  pub shows : Shows t shown
  pub has : Has f t p shown

-- it has one
pub record Faulty (t : List ℕ) : Type 0 where
  pub place : ℕ
  pub fault : Fault
  pub has : FaultIn t place fault
