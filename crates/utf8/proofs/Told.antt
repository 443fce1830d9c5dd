-- What `checked` tells of a text.
-- Assumes nothing.
use Prim.Native.Nat.{ℕ, ◌<◌}
use mathlib.Core.Path.{◌≡◌, refl, sym, ◌∙◌, ap, subst}
use mathlib.Core.List.{List}
use Rattle.std.specs.Prelude.{Ok, Err}
use native.Mathlib.Omega.{arith}
use lib.ListN.{length}
use Rattle.utf8.specs.declared.Fault.{Fault}
use Rattle.utf8.specs.declared.Fault.TheVariants.{Stray}
use Rattle.utf8.specs.declared.Decoded.{Decoded}
use Rattle.utf8.specs.declared.Decoded.TheVariants.{Char, IllFormed, End}
use Rattle.utf8.specs.Utf8.{decode_at}
use Rattle.utf8.specs.Chars.{first_ill_formed, Checked, well_formed, fault_at, checked_at, checked}
use Rattle.utf8.proofs.Laws.{fine_at, in_list_lem}
use Rattle.utf8.proofs.Pass.{get_d_head}

-- ---- a fault that is told stands in the text, at its first ill-formed sequence
pub record Told (t : List ℕ) (p : ℕ) (f : Fault) : Type 0 where
  pub first : first_ill_formed t ≡ p
  pub inside : p < length t
  pub here : decode_at t p ≡ IllFormed f

abbrev place_of : Checked → ℕ
place_of (Ok u) = 0
place_of (Err e) = e.at

abbrev fault_of : Checked → Fault
fault_of (Ok u) = Stray
fault_of (Err e) = e.fault

pub told : (t : List ℕ) (p : ℕ) (f : Fault) → checked t ≡ fault_at p f → Told t p f
unfolding checked checked_at
told t p f e = go (decode_at t (first_ill_formed t)) refl
  where
    go : (d : Decoded) → decode_at t (first_ill_formed t) ≡ d → Told t p f
    go (Char c w) h = let z : well_formed ≡ fault_at p f = ap (checked_at (first_ill_formed t)) (sym h) ∙ e in absurd (let y : ◌≡◌ {A = ℕ} 0 1 = cc in omega arith)
    go (IllFormed g) h =
        let z : fault_at (first_ill_formed t) g ≡ fault_at p f = ap (checked_at (first_ill_formed t)) (sym h) ∙ e in
        let i = fine_at t (first_ill_formed t) (IllFormed g) h in
        let same : first_ill_formed t ≡ p = ap place_of z in
        record {
          first = same;
          inside = subst (λ n. n < length t) same (in_list_lem t (first_ill_formed t) (omega (arith, i.1, get_d_head t (first_ill_formed t))));
          here = ap (decode_at t) (sym same) ∙ h ∙ ap IllFormed (ap fault_of z);
        }
    go End h = let z : well_formed ≡ fault_at p f = ap (checked_at (first_ill_formed t)) (sym h) ∙ e in absurd (let y : ◌≡◌ {A = ℕ} 0 1 = cc in omega arith)
