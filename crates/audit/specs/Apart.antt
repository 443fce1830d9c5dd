-- Document 01 "Bracket audit" as it was before document 02 item 3: each kind is counted apart. It is said here to be compared with.
use Rattle.std.specs.Prelude.{ℕ, suc, ◌-◌, min, List, [], ◌∷◌, eqb}
use Rattle.choice.specs.Choice.{choose}
use Rattle.token.specs.declared.Record.{Record}
use Rattle.token.specs.Kinds as K

-- of one kind, where n openers are open: the index of the first closer that none of them is open for, or the number of records
unfoldable pub first_lone : (opener closer n : ℕ) → List Record → ℕ
first_lone opener closer n [] = 0
first_lone opener closer n (r ∷ rs) =
    choose (eqb r.kind opener) (λ _. suc (first_lone opener closer (suc n) rs))
    (λ _. choose (eqb r.kind closer)
    (λ _. choose (eqb n 0) (λ _. 0) (λ _. suc (first_lone opener closer (n - 1) rs)))
    (λ _. suc (first_lone opener closer n rs)))

-- of all kinds; at first no bracket is open
unfoldable pub first_lone_of : List Record → ℕ
first_lone_of rs = min (first_lone K.lpar K.rpar 0 rs) (min (first_lone K.lsqb K.rsqb 0 rs) (first_lone K.lbrace K.rbrace 0 rs))
