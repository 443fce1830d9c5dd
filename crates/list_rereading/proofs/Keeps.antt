-- What the first door keeps in a row, the second keeps in a list.
-- Assumes nothing.
use Prim.Native.Nat.{ℕ, ◌<◌, ◌≤◌}
use mathlib.Core.Path.{◌≡◌, sym, ◌∙◌, ap, subst}
use mathlib.Core.List.{List}
use native.Mathlib.Omega.{arith}
use lib.ListN.{get_or}
use Rattle.token.specs.Kinds as K
use Rattle.token.specs.Codes.{first_error_code}
use Rattle.token.specs.declared.Record.{Record}
use Rattle.answers.specs.declared.Answer.{Answer}
use Rattle.records.specs.Records.{rec_at, recs_in, flat}
use Rattle.records.specs.Promises.{blank}
use Rattle.records.proofs.Flats.{flat_rec, flat_tells}
use Rattle.rereading.specs.Rereads.{kept_up_to}
use Rattle.rereading.proofs.Cuts.{kept_above}
use Rattle.rereading.proofs.Keeps.{keeps, refused_row}
use Rattle.list_rereading.specs.Door.{RereadsInto}

module _ (t : List ℕ) (mode : ℕ) (l : List Record) (old a : ℕ) (r : Answer) (after : List Record) (p : RereadsInto t mode l old a r after) where
  -- for any list and count: every record up to the cut is as it was
  pub keeps_list : (j : ℕ) → j < kept_up_to a (recs_in (flat l) 0 old) → get_or after j blank ≡ get_or l j blank
  keeps_list j h = sym (flat_rec after j) ∙ ap (λ (x : List ℕ). rec_at x j) p.records ∙ keeps t mode (flat l) old a j h ∙ flat_rec l j

  -- so a counted Newline that ends below A keeps every record up to it
  pub keeps_every_list : (i : ℕ) → i < old → (get_or l i blank).kind ≡ K.newline → (get_or l i blank).end < a → (j : ℕ) → j ≤ i → get_or after j blank ≡ get_or l j blank
  keeps_every_list i h k e j m =
      keeps_list j (omega (arith, kept_above (flat l) a old i h (ap (λ (x : Record). x.kind) (flat_rec l i) ∙ k) (subst (λ (x : Record). x.end < a) (sym (flat_rec l i)) e)))

  -- codes 1 to 6 leave the whole list
  pub refused_list : 0 < r.code → r.code < first_error_code → after ≡ l
  refused_list h k =
      flat_tells after l
      (p.records ∙ refused_row t mode (flat l) old a (subst (λ (x : Answer). 0 < x.code) p.answer h) (subst (λ (x : Answer). x.code < first_error_code) p.answer k))
