-- Places of a text. Whatever goes on from one character by character is a place of the same text, at most at its end.
-- Assumes nothing.
use Prim.Native.Nat.{ℕ, ◌+◌, ◌<◌, ◌≤◌}
use Prim.Native.Char.{code}
use mathlib.Core.Path.{◌≡◌, refl, ap}
use mathlib.Core.List.{List, [], ◌∷◌}
use native.Mathlib.Omega.{arith}
use native.Mathlib.Decide.{dec_lt}
use lib.Dec.{eqb}
use lib.ListN.{length, get_or, drop}
use Rattle.choice.proofs.Laws.{choose_keeps}
use Rattle.utf8.specs.Chars.{chars, width, no_char}
use Rattle.utf8.proofs.Pass.{found, none}
use Rattle.window.specs.Place.{Place, place_at, nth, slid, slid_by, next_char}

-- p is the place of its byte in t
pub record Within (t : List ℕ) (p : Place) : Type 0 where
  pub fits : p.at ≤ length t
  pub rest : chars (drop p.at t) ≡ p.rest

pub within_at : (t : List ℕ) (i : ℕ) → i ≤ length t → Within t (place_at t i)
within_at t i h = record { fits = h; rest = refl }

pub within_is : (t : List ℕ) (p : Place) → Within t p → place_at t p.at ≡ p
within_is t p w = ap (λ l. record { at = p.at; rest = l }) w.rest

-- the first character of what is left of a text stands there, and the others follow it
pub record First (t : List ℕ) (i c : ℕ) (r : List ℕ) : Type 0 where
  pub some : 0 < width c
  pub fits : i + width c ≤ length t
  pub rest : chars (drop (i + width c) t) ≡ r

pub first : (t : List ℕ) (i c : ℕ) (r : List ℕ) → chars (drop i t) ≡ c ∷ r → First t i c r
first t i c r e = go (dec_lt i (length t))
  where
    go : Dec (i < length t) → First t i c r
    go (yes h) =
        let f = found t i h in
        let k = ap width (let p : f.c ≡ c = cc f.here.list in p) in
        record { some = omega (arith, f.here.some); fits = omega (arith, f.here.fits); rest = cc f.here.list }
    go (no h) = let z : ◌≡◌ {A = ℕ} 0 1 = cc (none t i (omega arith)) in absurd (omega arith)

-- over one character
pub within_on : (t : List ℕ) (at c : ℕ) (r : List ℕ) → Within t (record { at = at; rest = c ∷ r }) → Within t (record { at = at + width c; rest = r }) × (0 < width c)
within_on t at c r w = let n = first t at c r w.rest in (record { fits = n.fits; rest = n.rest }, n.some)

slid_by_lem : (t : List ℕ) (at : ℕ) (l : List ℕ) → Within t (record { at = at; rest = l }) → Within t (slid_by at l)
unfolding slid_by
slid_by_lem t at [] w = w
slid_by_lem t at (c ∷ r) w = (within_on t at c r w).0

pub within_slid : (t : List ℕ) (p : Place) → Within t p → Within t (slid p)
unfolding slid
within_slid t p w = slid_by_lem t p.at p.rest w

pub within_step : (t : List ℕ) (p : Place) → Within t p → Within t (next_char p)
unfolding next_char
within_step t p w =
    let one = within_slid t p w in
    choose_keeps (Within t) (eqb (nth p 0) (code "\r")) (λ e. choose_keeps (Within t) (eqb (nth p 1) (code "\n")) (λ f. within_slid t (slid p) one) (λ f. one)) (λ e. one)

-- where a character stands, the next place lies further on
on_by : (t : List ℕ) (at : ℕ) (l : List ℕ) → Within t (record { at = at; rest = l }) → (get_or l 0 no_char ≡ no_char → ⊥) → at < (slid_by at l).at
unfolding slid_by
on_by t at [] w n = absurd (n refl)
on_by t at (c ∷ r) w n = omega (arith, (within_on t at c r w).1)

pub slid_lt : (t : List ℕ) (p : Place) → Within t p → (nth p 0 ≡ no_char → ⊥) → p.at < (slid p).at
unfolding slid
slid_lt t p w n = on_by t p.at p.rest w n
