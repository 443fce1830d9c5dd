-- Lines and characters: a newline ends a line, and a character other than LF and CR ends none.
-- Assumes nothing.
use Prim.Native.Nat.{ℕ, zero, suc, ◌+◌, ◌<◌}
use Prim.Native.Char.{code}
use mathlib.Core.Path.{◌≡◌, refl, sym, ◌∙◌, ap, subst}
use mathlib.Core.List.{List, ◌∷◌}
use native.Mathlib.Omega.{arith}
use native.Mathlib.Decide.{dec_lt}
use lib.ListN.{length, get_or, drop, length-drop}
use lib.Seq.{get_or-drop}
use Rattle.utf8.specs.declared.Decoded.{Decoded}
use Rattle.utf8.specs.declared.Decoded.TheVariants as D
use Rattle.utf8.specs.Utf8.{decode_at}
use Rattle.utf8.specs.Chars.{chars, width, no_char}
use Rattle.utf8.proofs.Bytes.{get_or_any}
use Rattle.utf8.proofs.Laws.{Tail, fine_at, chars_at, chars_stray, at_head, width_bad, in_list_lem}
use Rattle.utf8.proofs.Pass.{plain, none}
use Rattle.lines.specs.Lines.{line_at}
use Rattle.lines.specs.Promises.{ending}
use Rattle.lines.proofs.Laws.{line_next, line_same, ending_other, ending_lf}

-- ---- an LF
pub line_lf : (t : List ℕ) (p : ℕ) → get_or t p 0 ≡ code "\n" → line_at t (p + 1) ≡ line_at t p + 1
line_lf t p e =
    let s : p + 1 ≡ suc p = omega arith in
    let z : ending (get_or t p 0) (get_or t (suc p) 0) ≡ 1 = ap (λ b. ending b (get_or t (suc p) 0)) e ∙ ending_lf _ in
    ap (line_at t) s ∙ omega (arith, line_next t p)

-- ---- one character
-- a byte other than LF and CR
pub line_inside : (t : List ℕ) (p : ℕ) → (get_or t p 0 ≡ code "\n" → ⊥) → (get_or t p 0 ≡ code "\r" → ⊥) → line_at t (p + 1) ≡ line_at t p
line_inside t p m n =
    let s : p + 1 ≡ suc p = omega arith in
    ap (line_at t) s ∙ omega (arith, line_next t p, ending_other (get_or t p 0) (get_or t (suc p) 0) m n)

-- a continuation byte is no newline
tail_not : (t : List ℕ) (k : ℕ) → Tail (get_or t k 256) → (get_or t k 0 ≡ code "\n" → ⊥) × (get_or t k 0 ≡ code "\r" → ⊥)
tail_not t k h =
    let d = get_or_any t k 256 0 (in_list_lem t k (omega arith)) in
    (λ e. omega arith, λ e. omega arith)

module _ (t : List ℕ) (at c : ℕ) (r : List ℕ) (e : chars (drop at t) ≡ c ∷ r) (m : c ≡ code "\n" → ⊥) (n : c ≡ code "\r" → ⊥) where
  -- nor is the first byte
  head_not : at < length t → (get_or t at 0 ≡ code "\n" → ⊥) × (get_or t at 0 ≡ code "\r" → ⊥)
  head_not h = (
    λ z. m (let q : get_or t at 0 ≡ c = cc (plain t at h (omega arith), e) in sym q ∙ z),
    λ z. n (let q : get_or t at 0 ≡ c = cc (plain t at h (omega arith), e) in sym q ∙ z),
  )

  bytes_not : (w : ℕ) → at < length t → ((j : ℕ) → 0 < j → j < w → Tail (get_or (drop at t) j 256)) → (j : ℕ) → j < w → (get_or t (at + j) 0 ≡ code "\n" → ⊥) × (get_or t (at + j) 0 ≡ code "\r" → ⊥)
  bytes_not w h f zero l = let z : at + 0 ≡ at = omega arith in rw z (head_not h)
  bytes_not w h f (suc j) l = tail_not t (at + suc j) (subst Tail (get_or-drop at t (suc j) 256) (f (suc j) (omega arith) l))

  pub char_line : line_at t (at + width c) ≡ line_at t at
  char_line = within (dec_lt at (length t))
    where
      stray : at < length t → ((x w : ℕ) → decode_at t at ≡ D.Char x w → ⊥) → line_at t (at + width c) ≡ line_at t at
      stray h f =
          let l = length-drop at t in
          let p : no_char + get_or (drop at t) 0 256 ≡ c = cc (chars_stray (drop at t) (omega arith) (λ x w z. f x w (at_head t at ∙ z)), e) in
          let z : width c ≡ 1 = width_bad c (omega arith) in
          line_same t (width c) at (bytes_not (width c) h (λ j a b. absurd (omega arith)))

      go : at < length t → (d : Decoded) → decode_at t at ≡ d → line_at t (at + width c) ≡ line_at t at
      go h (D.Char x w) q =
          let f = fine_at t at (D.Char x w) q in
          let p : x ≡ c = cc (chars_at t at x w q, e) in
          let z : width c ≡ w = ap width (sym p) ∙ f.2 in
          line_same t (width c) at (bytes_not (width c) h (λ j a b. f.5 j a (omega arith)))
      go h (D.IllFormed w) q = stray h (λ x w z. let o : ◌≡◌ {A = ℕ} 0 1 = cc in omega arith)
      go h D.End q = stray h (λ x w z. let o : ◌≡◌ {A = ℕ} 0 1 = cc in omega arith)

      within : Dec (at < length t) → line_at t (at + width c) ≡ line_at t at
      within (yes h) = go h (decode_at t at) refl
      within (no h) = let z : ◌≡◌ {A = ℕ} 0 1 = cc (none t at (omega arith), e) in absurd (omega arith)
