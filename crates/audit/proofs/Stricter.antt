-- Document 02 item 3: the audit is stricter than counting each kind apart was. It goes by one kind at a time: the stack has as many openers
-- of that kind as are counted, so a closer that none is counted for is wrong by the stack too.
-- Assumes nothing.
use Prim.Native.Nat.{ℕ, suc, ◌+◌, ◌-◌, ◌≤◌}
use mathlib.Core.Path.{◌≡◌, refl, sym, ◌∙◌, ap}
use mathlib.Core.List.{List, [], ◌∷◌}
use mathlib.Core.Bool.{Bool, true, false}
use native.Mathlib.Omega.{arith}
use native.Mathlib.Numerals.{sub-one}
use borrow.Author.Tests.{eq-eqb, ne_eqb, eqb-true, eqb-false}
use lib.Dec.{eqb, ltb}
use lib.ListN.{length}
use Rattle.choice.specs.Choice.{choose}
use Rattle.choice.proofs.Laws.{choose_keeps, choose_both}
use Rattle.token.specs.declared.Record.{Record}
use Rattle.token.specs.Kinds as K
use Rattle.token.specs.Brackets.{is_opener, is_closer, opener_of}
use Rattle.records.specs.Records.{recs_in, room}
use Rattle.records.proofs.Recs.{length_recs}
use Rattle.answers.specs.declared.Answer.{Answer}
use Rattle.answers.specs.Answers.{is_above, found_at}
use Rattle.audit.specs.Audits.{most_open, closes_latest, audit_from, audit_of}
use Rattle.audit.specs.Apart.{first_lone, first_lone_of}

-- how many of the open openers are of one kind
unfoldable count_of : ℕ → List ℕ → ℕ
count_of o [] = 0
count_of o (x ∷ xs) = choose (eqb x o) (λ _. suc (count_of o xs)) (λ _. count_of o xs)

-- a closer's number is that behind its opener's, so no two closers have the same opener
closer_behind : (k : ℕ) → is_closer k ≡ true → k ≡ suc (opener_of k)
unfolding is_closer opener_of
closer_behind k =
    choose_both (λ (x : Bool) (y : ℕ). x ≡ true → k ≡ suc y) (eqb k K.rpar) (λ e _. eqb-true k K.rpar e)
    (λ _. choose_both (λ (x : Bool) (y : ℕ). x ≡ true → k ≡ suc y) (eqb k K.rsqb) (λ e _. eqb-true k K.rsqb e) (λ _ e. eqb-true k K.rbrace e))

-- an opener and the closer of its kind
module _ (o c : ℕ) (opens : is_opener o ≡ true) (apart : is_opener c ≡ false) (closes : is_closer c ≡ true) (own : opener_of c ≡ o) where
  -- one record
  module _ (r : Record) (rs : List Record) (i : ℕ) (h : (opened : List ℕ) → (audit_from (suc i) opened rs).place ≤ suc i + first_lone o c (count_of o opened) rs) where
    abbrev k : ℕ
    k = r.kind

    next : (st : List ℕ) (n : ℕ) → count_of o st ≡ n → (audit_from (suc i) st rs).place ≤ i + suc (first_lone o c n rs)
    next st n e = rw (← e) (omega (arith, h st))

    opener : (st : List ℕ) (n : ℕ) → is_opener k ≡ true → count_of o (k ∷ st) ≡ n → (audit_from i st (r ∷ rs)).place ≤ i + suc (first_lone o c n rs)
    unfolding audit_from
    opener st n y e = rw y (choose_keeps (λ (x : Answer). x.place ≤ i + suc (first_lone o c n rs)) (ltb (length st) most_open) (λ _. next (k ∷ st) n e) (λ _. omega arith))

    closer : (m : ℕ) (st : List ℕ) → is_opener k ≡ false → is_closer k ≡ true → ((x : ℕ) (xs : List ℕ) → st ≡ x ∷ xs → x ≡ opener_of k → (audit_from (suc i) xs rs).place ≤ i + m) → (audit_from i st (r ∷ rs)).place ≤ i + m
    unfolding audit_from closes_latest
    closer m [] y z g = rw (y, z) (omega arith)
    closer m (x ∷ xs) y z g = rw (y, z) (choose_keeps (λ (x : Answer). x.place ≤ i + m) (eqb x (opener_of k)) (λ e. g x xs refl (eqb-true x (opener_of k) e)) (λ _. omega arith))

    same_closer : opener_of k ≡ o → is_closer k ≡ true → k ≡ c
    same_closer e z = closer_behind k z ∙ ap suc (e ∙ sym own) ∙ sym (closer_behind c closes)

    -- the opener of this kind
    at_opener : (st : List ℕ) → k ≡ o → (audit_from i st (r ∷ rs)).place ≤ i + first_lone o c (count_of o st) (r ∷ rs)
    unfolding first_lone count_of
    at_opener st e = rw (eq-eqb k o e) (opener st (suc (count_of o st)) (rw e opens) (rw (eq-eqb k o e)))

    -- its closer: of what is popped one less is counted
    at_closer : (st : List ℕ) → (k ≡ o → ⊥) → k ≡ c → (audit_from i st (r ∷ rs)).place ≤ i + first_lone o c (count_of o st) (r ∷ rs)
    unfolding first_lone count_of
    at_closer st n e = rw (ne_eqb k o n, eq-eqb k c e) (closer _ st (rw e apart) (rw e closes) (λ x xs q latest.
        let s : count_of o st ≡ suc (count_of o xs) = rw (q, eq-eqb x o (latest ∙ rw e own)) in
        rw (s, ne_eqb (suc (count_of o xs)) 0 (λ z. omega arith), sub-one) (next xs (count_of o xs) refl)))

    -- any other: what is pushed or popped is not counted
    at_other : (st : List ℕ) → (k ≡ o → ⊥) → (k ≡ c → ⊥) → (audit_from i st (r ∷ rs)).place ≤ i + first_lone o c (count_of o st) (r ∷ rs)
    unfolding audit_from first_lone count_of
    at_other st n m = rw (ne_eqb k o n, ne_eqb k c m) (go (is_opener k) refl (is_closer k) refl)
      where
        go : (a : Bool) → is_opener k ≡ a → (b : Bool) → is_closer k ≡ b → (audit_from i st (r ∷ rs)).place ≤ i + suc (first_lone o c (count_of o st) rs)
        go true y b z = opener st (count_of o st) y (rw (ne_eqb k o n))
        go false y true z = closer (suc (first_lone o c (count_of o st) rs)) st y z (λ x xs q latest. next xs (count_of o st) (rw (q, ne_eqb x o (λ e. m (same_closer (sym latest ∙ e) z)))))
        go false y false z = rw (y, z) (next st (count_of o st) refl)

  -- the index that is answered is no later than that of the first closer that none is counted for
  no_later : (rs : List Record) (i : ℕ) (st : List ℕ) → (audit_from i st rs).place ≤ i + first_lone o c (count_of o st) rs
  unfolding audit_from first_lone
  no_later [] i st = omega arith
  no_later (r ∷ rs) i st = at (eqb r.kind o) refl (eqb r.kind c) refl (no_later rs (suc i))
    where
      at : (a : Bool) → eqb r.kind o ≡ a → (b : Bool) → eqb r.kind c ≡ b → ((opened : List ℕ) → (audit_from (suc i) opened rs).place ≤ suc i + first_lone o c (count_of o opened) rs)
          → (audit_from i st (r ∷ rs)).place ≤ i + first_lone o c (count_of o st) (r ∷ rs)
      at true e b f h = at_opener r rs i h st (eqb-true _ _ e)
      at false e true f h = at_closer r rs i h st (eqb-false _ _ e) (eqb-true _ _ f)
      at false e false f h = at_other r rs i h st (eqb-false _ _ e) (eqb-false _ _ f)

-- of all three kinds
stricter : (rs : List Record) → (audit_from 0 [] rs).place ≤ first_lone_of rs
unfolding is_opener is_closer opener_of count_of first_lone_of
stricter rs =
    omega (arith, no_later K.lpar K.rpar refl refl refl refl rs 0 [], no_later K.lsqb K.rsqb refl refl refl refl rs 0 [], no_later K.lbrace K.rbrace refl refl refl refl rs 0 [])

lone_within : (o c n : ℕ) (rs : List Record) → first_lone o c n rs ≤ length rs
unfolding first_lone
lone_within o c n [] = omega arith
lone_within o c n (r ∷ rs) =
    choose_keeps (λ (m : ℕ). m ≤ suc (length rs)) (eqb r.kind o) (λ _. omega (arith, lone_within o c (suc n) rs))
    (λ _. choose_keeps (λ (m : ℕ). m ≤ suc (length rs)) (eqb r.kind c)
    (λ _. choose_keeps (λ (m : ℕ). m ≤ suc (length rs)) (eqb n 0) (λ _. omega arith) (λ _. omega (arith, lone_within o c (n - 1) rs)))
    (λ _. omega (arith, lone_within o c n rs)))

module _ (row : List ℕ) (old : ℕ) where
  -- at the first closer that is lone where each kind is counted apart, or before it, the audit has answered
  pub audit_stricter : (audit_of row old).place ≤ first_lone_of (recs_in row 0 old)
  unfolding audit_of
  audit_stricter = choose_keeps (λ (x : Answer). x.place ≤ first_lone_of (recs_in row 0 old)) (is_above (room row) old) (λ _. omega arith) (λ _. stricter (recs_in row 0 old))

  -- where every closer is right, counting each kind apart finds no lone closer either
  pub none_apart : audit_of row old ≡ found_at old → first_lone_of (recs_in row 0 old) ≡ old
  unfolding first_lone_of
  none_apart e = omega (arith, ap (λ (x : Answer). x.place) e, audit_stricter, lone_within K.lpar K.rpar 0 (recs_in row 0 old), length_recs row 0 old)
