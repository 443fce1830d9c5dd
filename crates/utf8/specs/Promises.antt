-- How the code passes 64 bytes at a time. A byte that stands where the three before it allow is checked without knowing where its character began.
use Rattle.std.specs.Prelude.{ℕ, zero, suc, ◌+◌, ◌-◌, ◌≤◌, ◌<◌, ◌≡◌, List, Bool, true, false, ◌&&◌, length, get_or, drop, ltb, leb}
use Rattle.choice.specs.Choice.{choose, either}
use Rattle.utf8.specs.declared.Fault.{Fault}
use Rattle.utf8.specs.declared.Fault.TheVariants.{CutByEnd}
use Rattle.utf8.specs.Utf8.{within, is_tail, least_second, greatest_second, cut_fault, second_fault}
use Rattle.utf8.specs.Chars.{ill_formed_from}

-- the fault of a sequence that lacks bytes at the end of the text, by the three that it may have
unfoldable pub short_fault : ℕ → ℕ → ℕ → Fault
short_fault a b c = choose (within (least_second a) (greatest_second a) b) (λ _. choose (is_tail c) (λ _. CutByEnd) (λ _. cut_fault c)) (λ _. second_fault a b)

-- between the places i and j stand whole characters only
pub record Passed (t : List ℕ) (i j : ℕ) : Type 0 where
  pub on : i ≤ j
  pub fits : j ≤ length t
  pub same : ill_formed_from j 0 (drop j t) ≡ ill_formed_from i 0 (drop i t)

-- the k bytes from the place i are all below 0x80
unfoldable pub low_run : List ℕ → ℕ → ℕ → Bool
low_run t i zero = true
low_run t i (suc k) = low_run t i k && ltb (get_or t (i + k) 0) 0x80

-- of three bytes, one asks for a continuation byte behind them
unfoldable pub is_owed : ℕ → ℕ → ℕ → Bool
is_owed a b c = either (leb 0xc0 c) (either (leb 0xe0 b) (leb 0xf0 a))

-- a byte that begins a character
unfoldable pub is_lead : ℕ → Bool
is_lead d = either (ltb d 0x80) (within 0xc2 0xf4 d)

-- the byte d may stand behind a, b and c
unfoldable pub may_follow : ℕ → ℕ → ℕ → ℕ → Bool
may_follow a b c d = choose (is_owed a b c) (λ _. within (least_second c) (greatest_second c) d) (λ _. is_lead d)

-- each of the k bytes from the place i + 3 may stand behind the three before it
unfoldable pub fine_run : List ℕ → ℕ → ℕ → Bool
fine_run t i zero = true
fine_run t i (suc k) = fine_run t i k && may_follow (get_or t (i + k) 0) (get_or t (i + k + 1) 0) (get_or t (i + k + 2) 0) (get_or t (i + k + 3) 0)

-- the k bytes from the place i + 3 are in the text and stand as they may
pub record InOrder (t : List ℕ) (i k : ℕ) : Type 0 where
  pub fits : i + 3 + k ≤ length t
  pub fine : fine_run t i k ≡ true

-- the three bytes before the place i ask for a continuation byte there
abbrev pub owed_at : List ℕ → ℕ → Bool
owed_at t i = is_owed (get_or t (i - 3) 0) (get_or t (i - 2) 0) (get_or t (i - 1) 0)

-- the place r is i, or after i and before e, and there stands no continuation byte
pub record LastLead (t : List ℕ) (i e r : ℕ) : Type 0 where
  pub on : i ≤ r
  pub lead : i < r → (r < e) × (is_tail (get_or t r 0) ≡ false)
