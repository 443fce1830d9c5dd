-- Reference 2.6: brackets, the delimiters that come in pairs, by their kinds.
use Rattle.std.specs.Prelude.{ℕ, Bool, true, eqb}
use Rattle.choice.specs.Choice.{choose}
use Rattle.token.specs.Kinds as K

-- `(`, `[` and `{`
unfoldable pub is_opener : ℕ → Bool
is_opener k = choose (eqb k K.lpar) (λ _. true) (λ _. choose (eqb k K.lsqb) (λ _. true) (λ _. eqb k K.lbrace))

-- `)`, `]` and `}`
unfoldable pub is_closer : ℕ → Bool
is_closer k = choose (eqb k K.rpar) (λ _. true) (λ _. choose (eqb k K.rsqb) (λ _. true) (λ _. eqb k K.rbrace))

-- the opener of a closer's own kind
unfoldable pub opener_of : ℕ → ℕ
opener_of k = choose (eqb k K.rpar) (λ _. K.lpar) (λ _. choose (eqb k K.rsqb) (λ _. K.lsqb) (λ _. K.lbrace))
