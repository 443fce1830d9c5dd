-- Reference 2.5 and 2.6, document 01 "What crosses over", the original's `consume_character`: the longest operator or delimiter that three
-- characters begin; that it is the longest says Reference 2.2.
use Rattle.std.specs.Prelude.{ℕ, eqb, Option, Some, None}
use Prim.Native.Char.{code}
use Rattle.choice.specs.Choice.{choose}
use Rattle.token.specs.Kinds as K

-- alone, or before `=`
unfoldable pub before_equal : ℕ → ℕ → ℕ → Option (ℕ × ℕ)
before_equal b alone equal = choose (eqb b (code "=")) (λ _. Some (equal, 2)) (λ _. Some (alone, 1))

-- alone, before `=`, twice, or twice before `=`
unfoldable pub doubled : ℕ → ℕ → ℕ → ℕ → ℕ → ℕ → ℕ → Option (ℕ × ℕ)
doubled a b c alone equal two twoEqual =
    choose (eqb b (code "=")) (λ _. Some (equal, 2))
    (λ _. choose (eqb b a) (λ _. choose (eqb c (code "=")) (λ _. Some (twoEqual, 3)) (λ _. Some (two, 2))) (λ _. Some (alone, 1)))

-- `-`, `-=`, `->`
unfoldable pub dash : ℕ → Option (ℕ × ℕ)
dash b = choose (eqb b (code ">")) (λ _. Some (K.rarrow, 2)) (λ _. before_equal b K.minus K.minus_equal)

-- `!=`; `!` alone is none
unfoldable pub exclamation : ℕ → Option (ℕ × ℕ)
exclamation b = choose (eqb b (code "=")) (λ _. Some (K.not_equal, 2)) (λ _. None)

-- `.`, `...`
unfoldable pub dots : ℕ → ℕ → Option (ℕ × ℕ)
dots b c = choose (eqb b (code ".")) (λ _. choose (eqb c (code ".")) (λ _. Some (K.ellipsis, 3)) (λ _. Some (K.dot, 1))) (λ _. Some (K.dot, 1))

-- brackets, and the other delimiters and operators of one character that begin no longer one
unfoldable pub single : ℕ → Option (ℕ × ℕ)
single a =
    choose (eqb a (code "~")) (λ _. Some (K.tilde, 1))
    (λ _. choose (eqb a (code "(")) (λ _. Some (K.lpar, 1))
    (λ _. choose (eqb a (code ")")) (λ _. Some (K.rpar, 1))
    (λ _. choose (eqb a (code "[")) (λ _. Some (K.lsqb, 1))
    (λ _. choose (eqb a (code "]")) (λ _. Some (K.rsqb, 1))
    (λ _. choose (eqb a (code "{")) (λ _. Some (K.lbrace, 1))
    (λ _. choose (eqb a (code "}")) (λ _. Some (K.rbrace, 1))
    (λ _. choose (eqb a (code ";")) (λ _. Some (K.semi, 1))
    (λ _. choose (eqb a (code ",")) (λ _. Some (K.comma, 1))
    (λ _. None)))))))))

-- the longest operator that a, b, c begin
unfoldable pub longest_operator : ℕ → ℕ → ℕ → Option (ℕ × ℕ)
longest_operator a b c =
    choose (eqb a (code "=")) (λ _. before_equal b K.equal K.eq_equal)
    (λ _. choose (eqb a (code "+")) (λ _. before_equal b K.plus K.plus_equal)
    (λ _. choose (eqb a (code "*")) (λ _. doubled (code "*") b c K.star K.star_equal K.double_star K.double_star_equal)
    (λ _. choose (eqb a (code "/")) (λ _. doubled (code "/") b c K.slash K.slash_equal K.double_slash K.double_slash_equal)
    (λ _. choose (eqb a (code "%")) (λ _. before_equal b K.percent K.percent_equal)
    (λ _. choose (eqb a (code "|")) (λ _. before_equal b K.vbar K.vbar_equal)
    (λ _. choose (eqb a (code "^")) (λ _. before_equal b K.circumflex K.circumflex_equal)
    (λ _. choose (eqb a (code "&")) (λ _. before_equal b K.amper K.amper_equal)
    (λ _. choose (eqb a (code "-")) (λ _. dash b)
    (λ _. choose (eqb a (code "@")) (λ _. before_equal b K.at K.at_equal)
    (λ _. choose (eqb a (code "!")) (λ _. exclamation b)
    (λ _. choose (eqb a (code ":")) (λ _. before_equal b K.colon K.colon_equal)
    (λ _. choose (eqb a (code "<")) (λ _. doubled (code "<") b c K.less K.less_equal K.left_shift K.left_shift_equal)
    (λ _. choose (eqb a (code ">")) (λ _. doubled (code ">") b c K.greater K.greater_equal K.right_shift K.right_shift_equal)
    (λ _. choose (eqb a (code ".")) (λ _. dots b c)
    (λ _. single a)))))))))))))))
