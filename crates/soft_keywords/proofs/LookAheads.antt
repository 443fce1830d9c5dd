-- The look-ahead: the search takes one token after another, as the definition takes one record after another.
-- Assumes nothing.
use Prim.Native.Nat.{ℕ, ◌+◌, ◌-◌, ◌*◌, ◌^◌, ◌<◌, ◌≤◌}
use mathlib.Core.Path.{◌≡◌, refl, sym, ◌∙◌, ap, subst}
use mathlib.Core.List.{List, [], ◌∷◌}
use mathlib.Core.Bool.{Bool, true, false}
use mathlib.Core.Logic.{◌⊎◌, inl, inr}
use native.Mathlib.Omega.{arith}
use borrow.Author.Tests.{eq-eqb, ne_eqb, lt-ltb, le-ltb}
use lib.Dec.{eqb}
use lib.ListN.{length}
use lib.IntN.{ℤ, pos, nat_abs, ◌+ℤ◌, ◌-ℤ◌}
use lib.Signed.{lt_z}
use mir.Syntax.{w64}
use mir.Val.{SFits, to_z, of_z}
use mir.ValLaws.{to_z-of_z}
use Rattle.choice.specs.Choice.{choose}
use Rattle.choice.proofs.Laws.{choose_keeps, both_none}
use Rattle.records.specs.Records.{Spanned}
use Rattle.indentation.specs.declared.Level.{Level}
use Rattle.token.specs.declared.Ending.{Ending}
use Rattle.rounds.specs.declared.NextToken.{NextToken}
use Rattle.rounds.specs.declared.NextToken.TheVariants.{Tok, Newline, End, Error}
use Rattle.rounds.specs.Rounds.{Reading, prefixed}
use Rattle.rounds.specs.Promises.{Inside, from_next, Reaches, NextTokenFrom}
use Rattle.rounds.proofs.Rests.{rest_from_item}
use Rattle.soft_keywords.specs.declared.Search.{Search}
use Rattle.soft_keywords.specs.declared.Search.TheVariants.{Colon, Name, Equals, Decided}
use Rattle.token.specs.Brackets.{is_opener, is_closer}
use Rattle.lexer.specs.Steps.{nest_after}
use Rattle.soft_keywords.specs.SoftKeywords.{keyword_colon, lambda_after, match_from, keeps_match, stands_for_name, square_count_after, keyword_equals, passes, type_from, keeps_type, stays_keyword}
use Rattle.soft_keywords.specs.Promises.{recs_from, first_kind, decides, decided, far, Begins, Takes}
use Rattle.soft_keywords.proofs.Counts.{zero_below, zero_above, zero_between, up_near, down_near, near_fits}
use Rattle.token.specs.Kinds as K

-- ---- how a search begins

pub begins_match : (k : ℕ) → k < K.type → Begins k (Colon 0 true false)
unfolding decides stays_keyword keeps_match
begins_match k h = record { same = λ rs. rw (lt-ltb k K.type h); near = omega arith }

pub begins_type : (k : ℕ) → K.type ≤ k → Begins k Name
unfolding decides stays_keyword
begins_type k h = record { same = λ rs. rw (le-ltb k K.type h); near = omega arith }

-- ---- one token of the search for a colon

-- a token opens one bracket at most
nest_near : (n k : ℕ) → nest_after n k ≤ n + 1
unfolding nest_after
nest_near n k =
    let P : ℕ → Type 0 = λ m. m ≤ n + 1 in
    choose_keeps P (is_opener k) (λ _. omega arith) (λ _. choose_keeps P (is_closer k) (λ _. omega arith) (λ _. omega arith))

module _ (n : ℕ) (first lambda : Bool) (k : ℕ) where
  pub colon_over : k ≡ 0 → Takes (Colon n first lambda) k (Decided false)
  unfolding decides match_from
  colon_over e = record { same = λ rs from to. rw e; near = omega arith }

  module _ (q : n ≤ 0) where
    none : n ≡ 0
    none = omega arith

    module _ (e : k ≡ 63) where
      pub colon_first : first ≡ true → Takes (Colon n first lambda) k (Colon 0 false false)
      unfolding decides match_from keyword_colon lambda_after nest_after is_opener is_closer
      colon_first f = record { same = λ rs from to. rw (none, e, f); near = omega arith }

      module _ (f : first ≡ false) where
        pub colon_lambda : lambda ≡ true → Takes (Colon n first lambda) k (Colon 0 false false)
        unfolding decides match_from keyword_colon lambda_after nest_after is_opener is_closer
        colon_lambda l = record { same = λ rs from to. rw (none, e, f, l); near = omega arith }

        pub colon_found : lambda ≡ false → Takes (Colon n first lambda) k (Decided true)
        unfolding decides match_from keyword_colon
        colon_found l = record { same = λ rs from to. rw (none, e, f, l); near = omega arith }

    pub lambda_found : k ≡ 124 → Takes (Colon n first lambda) k (Colon 0 false true)
    unfolding decides match_from keyword_colon lambda_after nest_after is_opener is_closer
    lambda_found e = record { same = λ rs from to. rw (none, e); near = omega arith }

  module _ (h : k ≡ 0 → ⊥) (m : ℕ) (v : m ≡ nest_after n k) where
    -- outside brackets
    pub colon_past : n ≤ 0 → (k ≡ 63 → ⊥) → (k ≡ 124 → ⊥) → Takes (Colon n first lambda) k (Colon m false lambda)
    unfolding decides match_from keyword_colon lambda_after
    colon_past z x y = let o : n ≡ 0 = omega arith in record { same = λ rs from to. rw (ne_eqb k 0 h, eq-eqb n 0 o, ne_eqb k 63 x, ne_eqb k 124 y, v); near = rw v (nest_near n k) }

    -- within
    pub colon_inside : 0 < n → Takes (Colon n first lambda) k (Colon m false lambda)
    unfolding decides match_from keyword_colon lambda_after
    colon_inside z = let o : n ≡ 0 → ⊥ = omega arith in record { same = λ rs from to. rw (ne_eqb k 0 h, ne_eqb n 0 o, v); near = rw v (nest_near n k) }

-- ---- one token of the search for an `=`

itself : (b : Bool) → b ≡ choose b (λ _. true) (λ _. false)
itself true = refl
itself false = refl

-- the machine's count is the count
module _ (z : ℤ) (k : ℕ) (f : SFits w64 z) where
  abbrev bits : ℤ
  bits = to_z w64 (of_z w64 z)

  same : bits ≡ z
  same = to_z-of_z w64 z f

  module _ (h : nat_abs z + 1 < 2 ^ 63) where
    pub up_fits : SFits w64 (bits +ℤ pos 1)
    up_fits = rw (to_z-of_z w64 z f) (near_fits (z +ℤ pos 1) (omega (arith, up_near z)))

    pub down_fits : SFits w64 (bits -ℤ pos 1)
    down_fits = rw (to_z-of_z w64 z f) (near_fits (z -ℤ pos 1) (omega (arith, down_near z)))

    pub equals_opens : k ≡ 59 → Takes (Equals z) k (Equals (to_z w64 (of_z w64 (bits +ℤ pos 1))))
    unfolding decides type_from keyword_equals passes square_count_after
    equals_opens e = let w : to_z w64 (of_z w64 (bits +ℤ pos 1)) ≡ z +ℤ pos 1 = to_z-of_z w64 _ up_fits ∙ rw (to_z-of_z w64 z f) in record { same = λ rs from to. rw (e, both_none, w); near = rw w (up_near z) }

    pub equals_closes : k ≡ 60 → Takes (Equals z) k (Equals (to_z w64 (of_z w64 (bits -ℤ pos 1))))
    unfolding decides type_from keyword_equals passes square_count_after
    equals_closes e = let w : to_z w64 (of_z w64 (bits -ℤ pos 1)) ≡ z -ℤ pos 1 = to_z-of_z w64 _ down_fits ∙ rw (to_z-of_z w64 z f) in record { same = λ rs from to. rw (e, both_none, w); near = rw w (down_near z) }

  pub equals_over : k ≡ 0 → Takes (Equals z) k (Decided false)
  unfolding decides type_from
  equals_over e = record { same = λ rs from to. rw e; near = omega arith }

  module _ (x : k ≡ 59 → ⊥) (y : k ≡ 60 → ⊥) (n : k ≡ 0 → ⊥) where
    pub equals_above : lt_z (pos 0) bits ≡ true → Takes (Equals z) k (Equals bits)
    unfolding decides type_from keyword_equals passes square_count_after
    equals_above h =
        let l : lt_z (pos 0) z ≡ true = rw (to_z-of_z w64 z f) at h in
        record { same = λ rs from to. rw (same, zero_above z l, ne_eqb k 0 n, ne_eqb k 59 x, ne_eqb k 60 y, l); near = rw same (omega arith) }

    pub equals_below : lt_z (pos 0) bits ≡ false → lt_z bits (pos 0) ≡ true → Takes (Equals z) k (Decided false)
    unfolding decides type_from keyword_equals passes
    equals_below h l =
        let m : lt_z (pos 0) z ≡ false = rw (to_z-of_z w64 z f) at h in
        record { same = λ rs from to. rw (zero_below z (rw (to_z-of_z w64 z f) at l), ne_eqb k 0 n, ne_eqb k 59 x, ne_eqb k 60 y, m); near = omega arith }

    pub equals_level : lt_z (pos 0) bits ≡ false → lt_z bits (pos 0) ≡ false → Takes (Equals z) k (Decided (eqb k 30))
    unfolding decides type_from keyword_equals passes
    equals_level h l =
        let m : lt_z (pos 0) z ≡ false = rw (to_z-of_z w64 z f) at h in
        record { same = λ rs from to. rw (zero_between z (rw (to_z-of_z w64 z f) at l) m, ne_eqb k 0 n, ne_eqb k 59 x, ne_eqb k 60 y, m) (itself (eqb k 30)); near = omega arith }

-- ---- one token of any search

module _ (x : Search) (k : ℕ) where
  -- of that which it is
  pub takes_as : (w y : Search) → x ≡ w → Takes w k y → Takes x k y
  takes_as w y e t = subst (λ (v : Search). Takes v k y) (sym e) t

  pub colon_room : (n : ℕ) (first lambda : Bool) → x ≡ Colon n first lambda → far x + 1 < 2 ^ 63 → n + 1 < 2 ^ 63
  colon_room n first lambda e h = rw e at h

  pub equals_room : (z : ℤ) → x ≡ Equals z → far x + 1 < 2 ^ 63 → nat_abs z + 1 < 2 ^ 63
  equals_room z e h = rw e at h

  module _ (e : x ≡ Name) (b : Bool) (f : stands_for_name k ≡ b) where
    pub name_found : b ≡ true → Takes x k (Equals (pos 0))
    unfolding decides keeps_type
    name_found y = takes_as Name (Equals (pos 0)) e (record { same = λ rs from to. rw (f, y); near = omega arith })

    pub name_left : b ≡ false → Takes x k (Decided false)
    unfolding decides keeps_type
    name_left y = takes_as Name (Decided false) e (record { same = λ rs from to. rw (f, y); near = omega arith })

  pub told_stays : (b : Bool) → x ≡ Decided b → Takes x k (Decided b)
  unfolding decides
  told_stays b e = takes_as (Decided b) (Decided b) e (record { same = λ rs from to. refl; near = omega arith })

-- ---- the walk

-- no record is left of the line
tells_none : (x : Search) (rs : List Spanned) → first_kind rs ≡ 0 → decides x rs ≡ decided x
unfolding decides decided match_from type_from keeps_type stands_for_name first_kind
tells_none (Colon n first lambda) [] e = refl
tells_none (Colon n first lambda) (r ∷ rs) e = rw (eq-eqb _ _ e)
tells_none Name [] e = refl
tells_none Name (r ∷ rs) e = rw e
tells_none (Equals z) [] e = refl
tells_none (Equals z) (r ∷ rs) e = rw (eq-eqb _ _ e)
tells_none (Decided b) rs e = refl

-- a turn: what the search decides by the records from here is what was asked
pub record Seeks (full : Bool) (t : List ℕ) (at k i n : ℕ) (x : Search) : Type 0 where
  pub inside : Inside t i n
  pub near : far x ≤ i
  pub left : (ls : List Level) → decides x (recs_from full t i n ls) ≡ stays_keyword k (recs_from full t at 0 ls)

pub seeks_all : (full : Bool) (t : List ℕ) (at k : ℕ) (x : Search) → Begins k x → at ≤ length t → Seeks full t at k at 0 x
seeks_all full t at k x b h = record { inside = record { nests = omega arith; to = h }; near = omega (arith, b.near); left = λ ls. b.same _ }

module _ (full : Bool) (t : List ℕ) (at k i n : ℕ) (x : Search) (inv : Seeks full t at k i n x) (r : NextToken) (q : NextTokenFrom full t i n r) where
  reads : (w : NextToken) → r ≡ w → (ls : List Level) → recs_from full t i n ls ≡ (from_next full t false i ls w).recs
  reads w z ls = ap (λ (y : Reading). y.recs) (rest_from_item full t i n ls inv.inside.to ∙ q.same false ls ∙ ap (from_next full t false i ls) z)

  -- the line is over
  module _ (b : Bool) (f : decided x ≡ b) where
    over : (w : NextToken) → r ≡ w → ((ls : List Level) → first_kind (from_next full t false i ls w).recs ≡ 0) → (ls : List Level) → stays_keyword k (recs_from full t at 0 ls) ≡ b
    over w z g ls = sym (inv.left ls) ∙ tells_none x _ (ap first_kind (reads w z ls) ∙ g ls) ∙ f

    seeks_line : (a e : ℕ) → r ≡ Newline a e → (ls : List Level) → stays_keyword k (recs_from full t at 0 ls) ≡ b
    unfolding first_kind prefixed
    seeks_line a e z = over (Newline a e) z (λ ls. refl)

    seeks_last : (a : ℕ) → r ≡ End a → (ls : List Level) → stays_keyword k (recs_from full t at 0 ls) ≡ b
    unfolding first_kind
    seeks_last a z = over (End a) z (λ ls. refl)

    seeks_wrong : (w : Ending) (p : ℕ) → r ≡ Error w p → (ls : List Level) → stays_keyword k (recs_from full t at 0 ls) ≡ b
    unfolding first_kind
    seeks_wrong w p z = over (Error w p) z (λ ls. refl)

    pub seeks_over : ((a : ℕ) × (e : ℕ) × (r ≡ Newline a e)) ⊎ (((a : ℕ) × (r ≡ End a)) ⊎ ((w : Ending) × (p : ℕ) × (r ≡ Error w p))) → (ls : List Level) → stays_keyword k (recs_from full t at 0 ls) ≡ b
    seeks_over (inl h) = seeks_line h.0 h.1 h.2
    seeks_over (inr (inl h)) = seeks_last h.0 h.1
    seeks_over (inr (inr h)) = seeks_wrong h.0 h.1 h.2

  module _ (m a e d : ℕ) (z : r ≡ Tok m a e d) where
    reach : Reaches t i n (Tok m a e d)
    reach = subst (Reaches t i n) z q.reaches

    pub seeks_less : length t - e < length t - i
    seeks_less = let g = reach in omega arith

    pub seeks_room : length t * 1 < 2 ^ 63 → far x + 1 < 2 ^ 63
    seeks_room l = let g = reach in omega (arith, inv)

    module _ (y : Search) (w : Takes x m y) where
      pub seeks_on : Seeks full t at k e d y
      unfolding prefixed
      seeks_on =
          let g = reach in
          record { inside = record { nests = omega arith; to = omega arith }; near = omega (arith, inv, w.near); left = λ ls. w.same _ a e ∙ sym (ap (decides x) (reads (Tok m a e d) z ls)) ∙ inv.left ls }

      pub seeks_told : (b : Bool) → y ≡ Decided b → (ls : List Level) → stays_keyword k (recs_from full t at 0 ls) ≡ b
      unfolding decides
      seeks_told b e ls = sym (seeks_on.left ls) ∙ rw e

-- a search that has not decided
pub undecided : (x : Search) → ((n : ℕ) × (first : Bool) × (lambda : Bool) × (x ≡ Colon n first lambda)) ⊎ ((x ≡ Name) ⊎ ((z : ℤ) × (x ≡ Equals z))) → decided x ≡ false
unfolding decided
undecided x (inl h) = rw h.3
undecided x (inr (inl h)) = rw h
undecided x (inr (inr h)) = rw h.1
