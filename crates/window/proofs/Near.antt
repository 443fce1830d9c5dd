-- Two texts that agree up to a newline, and their places before its end. That newline, the cut, blocks look-ahead: what looks at
-- characters before its end, and at none behind a newline, sees the same in both.
-- Assumes nothing.
use Prim.Native.Nat.{ℕ, zero, suc, ◌+◌, ◌-◌, ◌<◌, ◌≤◌}
use Prim.Native.Char.{code}
use mathlib.Core.Path.{◌≡◌, refl, sym, ◌∙◌, ap}
use mathlib.Core.List.{List, [], ◌∷◌, ◌++◌}
use mathlib.Core.Bool.{false}
use mathlib.Core.Logic.{◌⊎◌, inl, inr}
use native.Mathlib.Omega.{arith}
use borrow.Author.Tests.{eqb-true, ne_eqb}
use lib.Dec.{eqb}
use lib.ListN.{length, get_or, take, drop, length-take, length-drop}
use lib.Seq.{split_at, drop-append-le, take-take, get_or-take}
use Rattle.choice.proofs.Laws.{choose_both}
use Rattle.utf8.specs.Chars.{chars, width, no_char}
use Rattle.utf8.proofs.Bytes.{get_or_any}
use Rattle.utf8.proofs.Laws.{in_list_lem}
use Rattle.utf8.proofs.Well.{parts, widths, widths_all}
use Rattle.window.specs.Place.{Place, place_at, nth, slid, slid_by, next_char, text_start, bom}
use Rattle.window.proofs.Laws.{look, nth_slid}

-- the characters from the byte `at` on are the same up to a newline that ends at the byte `end`; behind a CR stands no LF in either
pub data Near (end : ℕ) : ℕ → List ℕ → List ℕ → Type 0 where
  lf : {at : ℕ} {v v' : List ℕ} → at + 1 ≡ end → Near end at (code "\n" ∷ v) (code "\n" ∷ v')
  cr : {at : ℕ} {v v' : List ℕ} → at + 1 ≡ end → eqb (get_or v 0 no_char) (code "\n") ≡ false → eqb (get_or v' 0 no_char) (code "\n") ≡ false → Near end at (code "\r" ∷ v) (code "\r" ∷ v')
  more : {at : ℕ} {l l' : List ℕ} (c : ℕ) → Near end (at + width c) l l' → Near end at (c ∷ l) (c ∷ l')

-- places of two such texts at the same byte
pub data Beside (end : ℕ) : Place → Place → Type 0 where
  beside : {at : ℕ} {l l' : List ℕ} → Near end at l l' → Beside end (record { at = at; rest = l }) (record { at = at; rest = l' })

-- the byte is the same, and so is the first character
pub same_at : {end : ℕ} {p p' : Place} → Beside end p p' → p'.at ≡ p.at
same_at (beside h) = refl

pub same_first : {end : ℕ} {p p' : Place} → Beside end p p' → nth p' 0 ≡ nth p 0
same_first (beside (lf e)) = refl
same_first (beside (cr e f g)) = refl
same_first (beside (more c h)) = refl

-- and the second, where the next places are beside each other too
pub same_second : {end : ℕ} {p p' : Place} → Beside end p p' → Beside end (slid p) (slid p') → nth p' 1 ≡ nth p 1
same_second {end} {p} {p'} b n = sym (nth_slid p' 0) ∙ same_first n ∙ nth_slid p 0

-- one newline or other character on, both are beside each other again, or the cut is behind them
abbrev pub After : ℕ → Place → Place → Type 0
After end p p' = Beside end p p' ⊎ ((p.at ≡ end) × (p'.at ≡ end))

pub step_beside : {end : ℕ} {p p' : Place} → Beside end p p' → After end (next_char p) (next_char p')
unfolding next_char slid slid_by width
step_beside (beside (lf e)) = inr (e, e)
step_beside (beside (cr e f g)) = rw (f, g) (inr (e, e))
step_beside {end} (beside (more c (lf e))) = choose_both (After end) (eqb c (code "\r")) (λ _. inr (e, e)) (λ _. inl (beside (lf e)))
step_beside {end} (beside (more c (cr e f g))) = choose_both (After end) (eqb c (code "\r")) (λ _. inl (beside (cr e f g))) (λ _. inl (beside (cr e f g)))
step_beside {end} (beside (more c (more d h))) =
    choose_both (After end) (eqb c (code "\r"))
    (λ _. choose_both (After end) (eqb d (code "\n")) (λ _. inl (beside h)) (λ _. inl (beside (more d h))))
    (λ _. inl (beside (more d h)))

-- one character on, unless that is a newline
pub slid_beside : {end : ℕ} {p p' : Place} → Beside end p p' → 13 < nth p 0 → Beside end (slid p) (slid p')
unfolding slid slid_by
slid_beside (beside (lf e)) n = absurd (omega arith)
slid_beside (beside (cr e f g)) n = absurd (omega arith)
slid_beside (beside (more c h)) n = beside h

-- the places that two texts are read from
pub text_start_beside : {end : ℕ} (t t' : List ℕ) → Beside end (place_at t 0) (place_at t' 0) → Beside end (text_start t) (text_start t')
unfolding text_start
text_start_beside {end} t t' b =
    let c = nth (place_at t 0) 0 in
    rw (same_first b) (choose_both (Beside end) (eqb c bom) (λ e. slid_beside b (omega (arith, eqb-true c bom e))) (λ _. b))

-- ---- texts
-- behind the same characters
near_append : {end : ℕ} (u : List ℕ) {v v' : List ℕ} (at : ℕ) → Near end (at + widths u) v v' → Near end at (u ++ v) (u ++ v')
near_append [] at h = let e : at + 0 ≡ at = omega arith in rw e at h
near_append (c ∷ u) at h =
    let e : at + (width c + widths u) ≡ at + width c + widths u = omega arith in
    more c (near_append u (at + width c) (rw e at h))

-- a newline ends at the byte `end`: LF, or a CR with no LF behind it
abbrev pub Ended : List ℕ → ℕ → Type 0
Ended t end = (get_or t (end - 1) 0 ≡ code "\n") ⊎ ((get_or t (end - 1) 0 ≡ code "\r") × (get_or t end 0 ≡ code "\n" → ⊥))

-- a byte other than 0 stands within the text
inside : (t : List ℕ) (i : ℕ) → 0 < get_or t i 0 → i < length t
inside [] i h = absurd (omega arith)
inside (b ∷ t) zero h = omega arith
inside (b ∷ t) (suc i) h = omega (arith, inside t i h)

-- the byte b, which ends at `end`, parts the characters from `at` on
module _ (t : List ℕ) (at end b : ℕ) (h : at < end) (e : get_or t (end - 1) 0 ≡ b) (some : 0 < b) (low : b < 0x80) where
  -- those before it are as many bytes as lie between
  room : at ≤ length (take (end - 1) t)
  room = let n = inside t (end - 1) (omega arith) in omega (arith, length-take (end - 1) t)

  parted : chars (drop at t) ≡ chars (drop at (take (end - 1) t)) ++ (b ∷ chars (drop end t))
  parted =
      let n = inside t (end - 1) (omega arith) in
      let u = take (end - 1) t in
      let o : suc (end - 1) ≡ end = omega arith in
      let s : t ≡ u ++ (b ∷ drop end t) = split_at t (end - 1) 0 n ∙ rw (e, o) in
      ap (λ l. chars (drop at l)) s ∙ ap chars (drop-append-le at u (b ∷ drop end t) room) ∙ parts b low (drop end t) (drop at u)

  here_end : at + widths (chars (drop at (take (end - 1) t))) + 1 ≡ end
  here_end =
      let n = inside t (end - 1) (omega arith) in
      omega (arith, widths_all (drop at (take (end - 1) t)), length-drop at (take (end - 1) t), length-take (end - 1) t)

-- a byte other than LF begins no LF
no_lf : (t : List ℕ) (i : ℕ) → (get_or t i 0 ≡ code "\n" → ⊥) → eqb (nth (place_at t i) 0) (code "\n") ≡ false
no_lf t i f =
    look (λ c. eqb c (code "\n")) false (λ c h. ne_eqb c (code "\n") (λ z. omega arith)) t i
    ∙ ne_eqb (get_or t i 256) (code "\n") (λ z. f (get_or_any t i 0 256 (in_list_lem t i (omega arith)) ∙ z))

-- a byte that two texts share
same_byte : (t t' : List ℕ) (a : ℕ) → take a t ≡ take a t' → (j : ℕ) → j < a → get_or t' j 0 ≡ get_or t j 0
same_byte t t' a same j l = sym (get_or-take a t' j 0 l) ∙ ap (λ l. get_or l j 0) (sym same) ∙ get_or-take a t j 0 l

-- texts that agree up to the end of a newline of both are near up to it
module _ (t t' : List ℕ) (end : ℕ) (same : take end t ≡ take end t') (at : ℕ) (k : at < end) where
  last_byte : get_or t' (end - 1) 0 ≡ get_or t (end - 1) 0
  last_byte = same_byte t t' end same (end - 1) (omega arith)

  same_front : take (end - 1) t' ≡ take (end - 1) t
  same_front = sym (take-take (end - 1) end t' (omega arith)) ∙ ap (take (end - 1)) (sym same) ∙ take-take (end - 1) end t (omega arith)

  -- the newline is the byte b
  by_byte : (b : ℕ) → get_or t (end - 1) 0 ≡ b → 0 < b → b < 0x80
      → ((i : ℕ) → i + 1 ≡ end → Near end i (b ∷ chars (drop end t)) (b ∷ chars (drop end t'))) → Near end at (chars (drop at t)) (chars (drop at t'))
  by_byte b e some low f =
      let p = parted t at end b k e some low in
      let p' = parted t' at end b k (last_byte ∙ e) some low in
      let n = near_append (chars (drop at (take (end - 1) t))) at (f _ (here_end t at end b k e some low)) in
      rw (p, p', same_front) n

  pub near_ended : Ended t end → Ended t' end → Near end at (chars (drop at t)) (chars (drop at t'))
  near_ended (inl e) d = by_byte (code "\n") e (omega arith) (omega arith) (λ i z. lf z)
  near_ended (inr e) (inl d) = absurd (omega (arith, e.0, last_byte))
  near_ended (inr e) (inr d) = by_byte (code "\r") e.0 (omega arith) (omega arith) (λ i z. cr z (no_lf t end e.1) (no_lf t' end d.1))

-- texts that agree beyond a newline of the first have it both
module _ (t t' : List ℕ) (a end : ℕ) (same : take a t ≡ take a t') (h : end < a) where
  pub ended_too : Ended t end → Ended t' end
  ended_too (inl b) = inl (same_byte t t' a same (end - 1) (omega arith) ∙ b)
  ended_too (inr b) = inr (same_byte t t' a same (end - 1) (omega arith) ∙ b.0, λ z. b.1 (sym (same_byte t t' a same end h) ∙ z))

  pub near_cut : (at : ℕ) → at < end → Ended t end → Near end at (chars (drop at t)) (chars (drop at t'))
  near_cut at k e = near_ended t t' end (sym (take-take end a t (omega arith)) ∙ ap (take end) same ∙ take-take end a t' (omega arith)) at k e (ended_too e)
