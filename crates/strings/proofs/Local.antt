-- A newline blocks look-ahead: a string opens alike at near places, and one that ends at or before the cut's end is the same.
-- Assumes nothing.
use Prim.Native.Nat.{ℕ, zero, suc, ◌+◌, ◌<◌, ◌≤◌}
use Prim.Native.Char.{code}
use mathlib.Core.Path.{◌≡◌, refl, sym, subst}
use mathlib.Core.List.{List, [], ◌∷◌}
use mathlib.Core.Bool.{Bool, true, false}
use native.Mathlib.Omega.{arith}
use borrow.Author.Tests.{ne_eqb}
use lib.Dec.{eqb}
use Rattle.choice.specs.Choice.{choose}
use Rattle.choice.proofs.Laws.{choose_keeps, choose_both}
use Rattle.utf8.specs.Chars.{width}
use Rattle.window.specs.Place.{Place, nth, slid, slid_by}
use Rattle.window.proofs.Near.{Near, Beside, same_first}
use Rattle.window.proofs.Near.Near.{lf, cr, more}
use Rattle.window.proofs.Near.Beside.{beside}
use Rattle.token.specs.declared.StringKind.{StringKind}
use Rattle.token.specs.declared.StringKind.TheVariants.{String}
use Rattle.token.specs.declared.Item.{Item}
use Rattle.token.specs.declared.Item.TheVariants.{Tok, Gap, End, Error}
use Rattle.names.specs.Runs.{is_newline}
use Rattle.std.specs.Prelude.{Option, Some, None}
use Rattle.strings.specs.Strings.{is_quote, lower, one_letter, beside_r, two_letters, opening_of, ahead, length_of_next, triple_at, breaks, closes, quotes, body_from, body, string_at}
use Rattle.strings.proofs.Bodies.{quote_small, tripled_all}
use Rattle.strings.proofs.Openings.{Opens, one_opens, two_opens}

-- ---- how a string opens
-- what stands behind a newline decides nothing
silent : (x y : Bool) → choose {A = Option (StringKind × ℕ)} x (λ _. choose y (λ _. None) (λ _. None)) (λ _. None) ≡ None
silent true true = refl
silent true false = refl
silent false y = refl

first_silent : (x y z : Bool) → choose {A = Option (StringKind × ℕ)} x (λ _. None) (λ _. choose y (λ _. choose z (λ _. None) (λ _. None)) (λ _. None)) ≡ None
first_silent true y z = refl
first_silent false y z = silent y z

second_silent : (x y z : Bool) → choose {A = Option (StringKind × ℕ)} x (λ _. Some (String, 0)) (λ _. choose y (λ _. choose z (λ _. None) (λ _. None)) (λ _. None)) ≡ choose x (λ _. Some (String, 0)) (λ _. None)
second_silent true y z = refl
second_silent false y z = silent y z

-- a newline first, and second
module _ (b c : ℕ) where
  lf_first : opening_of 10 b c ≡ None
  unfolding opening_of is_quote lower one_letter two_letters beside_r
  lf_first = first_silent (is_quote b) (is_quote c) (eqb (lower b) (code "r"))

  cr_first : opening_of 13 b c ≡ None
  unfolding opening_of is_quote lower one_letter two_letters beside_r
  cr_first = first_silent (is_quote b) (is_quote c) (eqb (lower b) (code "r"))

  lf_second : opening_of b 10 c ≡ choose (is_quote b) (λ _. Some (String, 0)) (λ _. None)
  unfolding opening_of is_quote lower two_letters beside_r
  lf_second = second_silent (is_quote b) (is_quote c) (eqb (lower b) (code "r"))

  cr_second : opening_of b 13 c ≡ choose (is_quote b) (λ _. Some (String, 0)) (λ _. None)
  unfolding opening_of is_quote lower two_letters beside_r
  cr_second = second_silent (is_quote b) (is_quote c) (eqb (lower b) (code "r"))

-- a string opens alike
pub opening_near : {end : ℕ} {p p' : Place} → Beside end p p' → opening_of (nth p' 0) (nth p' 1) (nth p' 2) ≡ opening_of (nth p 0) (nth p 1) (nth p 2)
opening_near (beside (lf e)) = simp lf_first
opening_near (beside (cr e f g)) = simp cr_first
opening_near (beside (more a (lf e))) = simp lf_second
opening_near (beside (more a (cr e f g))) = simp cr_second
opening_near (beside (more a (more b h))) = rw (same_first (beside h))

-- the quotes of a string that opens stand beside each other
abbrev pub Quoted : ℕ → Place → Place → Option (StringKind × ℕ) → Type 0
Quoted end p p' (Some (k, n)) = Beside end (ahead n p) (ahead n p') × (is_quote (nth (ahead n p) 0) ≡ true)
Quoted end p p' None = Unit

quoted_by : (end : ℕ) (p p' : Place) (m : ℕ) (X : Type 0) → Quoted end p p' (Some (String, m)) → (o : Option (StringKind × ℕ)) → Opens m X o → Quoted end p p' o
quoted_by end p p' m X q (Some (k, n)) h = subst (λ x. Quoted end p p' (Some (String, x))) (sym h.0) q
quoted_by end p p' m X q None h = tt

pub quoted : {end : ℕ} {p p' : Place} → Beside end p p' → Quoted end p p' (opening_of (nth p 0) (nth p 1) (nth p 2))
unfolding opening_of ahead slid slid_by
quoted {end} {p} {p'} (beside (lf e)) = rw lf_first tt
quoted {end} {p} {p'} (beside (cr e f g)) = rw cr_first tt
quoted {end} {p} {p'} (beside (more a (lf e))) = rw (lf_second a _) (choose_keeps (Quoted end p p') (is_quote a) (λ q. (beside (more a (lf e)), q)) (λ _. tt))
quoted {end} {p} {p'} (beside (more a (cr e f g))) = rw (cr_second a _) (choose_keeps (Quoted end p p') (is_quote a) (λ q. (beside (more a (cr e f g)), q)) (λ _. tt))
quoted {end} {p} {p'} (beside (more a (more b h))) =
    choose_keeps (Quoted end p p') (is_quote a) (λ q. (beside (more a (more b h)), q))
    (λ _. choose_keeps (Quoted end p p') (is_quote b) (λ q. quoted_by end p p' 1 _ (beside (more b h), q) (one_letter (lower a)) (one_opens (lower a)))
    (λ _. choose_keeps (Quoted end p p') (is_quote (nth p 2)) (λ q. quoted_by end p p' 2 _ (beside h, q) (two_letters (lower a) (lower b)) (two_opens (lower a) (lower b)))
    (λ _. tt)))

-- ---- where a string ends
-- a token that ends at or before the cut's end, or a gap that ends before it
abbrev pub Before : ℕ → Item → Type 0
Before end (Tok k e) = e ≤ end
Before end (Gap e) = e < end
Before end End = ⊥
Before end (Error w e) = ⊥

-- if the first is, the second is the same
abbrev pub Alike : ℕ → Item → Item → Type 0
Alike end x x' = Before end x → x' ≡ x

-- a backslash takes the same along: behind the cut's CR stands no LF
along_near : {end at : ℕ} {l l' : List ℕ} → Near end at l l' → length_of_next l' ≡ length_of_next l
unfolding length_of_next
along_near (lf e) = refl
along_near (cr e f g) = rw (f, g)
along_near (more c h) = rw (same_first (beside h))

-- in quotes q, which are no newline
module _ (q : ℕ) (high : 13 < q) where
  no_lf : eqb 10 q ≡ false
  no_lf = ne_eqb 10 q (λ z. omega arith)

  no_cr : eqb 13 q ≡ false
  no_cr = ne_eqb 13 q (λ z. omega arith)

  -- three quotes stand at both places or at neither; they end the string or not
  tripled_near : {end at : ℕ} {l l' : List ℕ} → Near end at l l' → triple_at q l' ≡ triple_at q l
  unfolding triple_at
  tripled_near (lf e) = rw no_lf
  tripled_near (cr e f g) = rw no_cr
  tripled_near (more c (lf e)) = rw no_lf
  tripled_near (more c (cr e f g)) = rw no_cr
  tripled_near (more c (more d h)) = rw (same_first (beside h))

  closes_near : (three : Bool) {end at : ℕ} {l l' : List ℕ} → Near end at l l' → closes three q l' ≡ closes three q l
  unfolding closes
  closes_near true h = tripled_near h
  closes_near false h = rw (same_first (beside h))

  module _ (k : StringKind) (end : ℕ) where
    -- a string that ends at or before the cut's end has its body before it
    body_before : (three : Bool) (skip at : ℕ) (l : List ℕ) → Before end (body_from k three q skip at l) → at < end
    unfolding body_from
    body_before three skip at [] = λ b. absurd b
    body_before three (suc skip) at (c ∷ r) = λ b. omega (arith, body_before three skip (at + width c) r b)
    body_before three zero at (c ∷ r) =
        let P : Item → Type 0 = λ x. Before end x → at < end in
        choose_keeps P (eqb c (code "\\")) (λ _ b. omega (arith, body_before three (length_of_next r) (at + width c) r b))
        (λ _. choose_keeps P (breaks three c) (λ _ b. absurd b)
        (λ _. choose_keeps P (closes three q (c ∷ r)) (λ _ b. quotes_before three b) (λ _ b. omega (arith, body_before three 0 (at + width c) r b))))
      where
        quotes_before : (three : Bool) → at + quotes three ≤ end → at < end
        quotes_before true b = omega arith
        quotes_before false b = omega arith

    -- from its body on
    body_near : {at : ℕ} {l l' : List ℕ} → Near end at l l' → (three : Bool) (skip : ℕ) → Alike end (body_from k three q skip at l) (body_from k three q skip at l')
    unfolding body_from breaks is_newline closes triple_at width
    body_near {at} (lf {v} e) three (suc skip) = λ b. absurd (omega (arith, body_before three skip (at + 1) v b))
    body_near {at} (cr {v} e f g) three (suc skip) = λ b. absurd (omega (arith, body_before three skip (at + 1) v b))
    body_near {at} (lf {v} e) true zero = λ b. absurd (omega (arith, body_before true 0 (at + 1) v (rw no_lf at b)))
    body_near {at} (cr {v} e f g) true zero = λ b. absurd (omega (arith, body_before true 0 (at + 1) v (rw no_cr at b)))
    body_near (lf e) false zero = λ b. absurd b
    body_near (cr e f g) false zero = λ b. absurd b
    body_near (more c h) three (suc skip) = body_near h three skip
    body_near {at} (more {l} c h) three zero =
        rw (closes_near three {at = at} (more c h), along_near h)
        (choose_both (Alike end) (eqb c (code "\\")) (λ _. body_near h three (length_of_next l))
        (λ _. choose_both (Alike end) (breaks three c) (λ _ b. absurd b)
        (λ _. choose_both (Alike end) (closes three q (c ∷ l)) (λ _ _. refl) (λ _. body_near h three 0))))

  -- behind three quotes
  three_near : {end : ℕ} {p p' : Place} → Beside end p p' → nth p 0 ≡ q → triple_at q p.rest ≡ true → Beside end (ahead 3 p) (ahead 3 p')
  unfolding ahead slid slid_by
  three_near (beside (lf e)) i t = absurd (omega arith)
  three_near (beside (cr e f g)) i t = absurd (omega arith)
  three_near (beside (more c (lf {v} e))) i t = absurd (omega (arith, tripled_all q (c ∷ (code "\n" ∷ v)) t))
  three_near (beside (more c (cr {v} e f g))) i t = absurd (omega (arith, tripled_all q (c ∷ (code "\r" ∷ v)) t))
  three_near (beside (more c (more d (lf {v} e)))) i t = absurd (omega (arith, tripled_all q (c ∷ (d ∷ (code "\n" ∷ v))) t))
  three_near (beside (more c (more d (cr {v} e f g)))) i t = absurd (omega (arith, tripled_all q (c ∷ (d ∷ (code "\r" ∷ v))) t))
  three_near (beside (more c (more d (more x h)))) i t = beside h

  body_beside : (k : StringKind) (three : Bool) {end : ℕ} {p p' : Place} → Beside end p p' → Alike end (body k three q p) (body k three q p')
  unfolding body
  body_beside k three {end} (beside h) = body_near k end h three 0

-- from its first quote on
pub string_near : (k : StringKind) {end : ℕ} {p p' : Place} → Beside end p p' → is_quote (nth p 0) ≡ true → Alike end (string_at k p) (string_at k p')
unfolding string_at ahead slid slid_by
string_near k (beside (lf e)) i = absurd (omega (arith, quote_small (code "\n") i))
string_near k (beside (cr e f g)) i = absurd (omega (arith, quote_small (code "\r") i))
string_near k {end} (beside {at} (more {l} c h)) i =
    let n = (quote_small c i).0 in
    rw (tripled_near c n {at = at} (more c h))
    (choose_both (Alike end) (triple_at c (c ∷ l)) (λ t. body_beside c n k true (three_near c n (beside (more c h)) refl t)) (λ _. body_beside c n k false (beside h)))
