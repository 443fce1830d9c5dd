-- What a line's start needs to know of its blanks and levels.
-- Assumes nothing.
use Prim.Native.Nat.{ℕ, ◌+◌, ◌<◌, ◌≤◌}
use mathlib.Core.List.{List}
use mathlib.Core.Path.{◌≡◌, refl}
use Rattle.std.specs.Prelude.{Result, Ok, Err}
use Rattle.token.specs.declared.Ending.{Ending}
use Rattle.indentation.specs.declared.Margin.{Margin}
use native.Mathlib.Omega.{arith}
use lib.ListN.{length}
use Rattle.window.specs.Place.{place_at}
use Rattle.indentation.specs.declared.Level.{Level}
use Rattle.indentation.specs.declared.LevelChange.{LevelChange}
use Rattle.indentation.specs.declared.LevelChange.TheVariants.{Same, Indent, DedentTo}
use Rattle.indentation.specs.Blanks.{blanks}
use Rattle.indentation.specs.Levels.{change_of, most_levels}
use Rattle.indentation.proofs.Local.{margin_of}
use Rattle.indentation.proofs.Bounds.{Counted, blanks_counted, Settled, change_bounds}

-- the blanks that are counted stand right before their end, within the text
pub record Within (t : List ℕ) (at from width : ℕ) : Type 0 where
  pub after : at + width ≤ from
  pub to : from ≤ length t

-- what holds where the blanks of a line's start are refused, and where they are counted, holds of them
pub by_blanks : (P : Result Margin Margin → Type 0) (t : List ℕ) (at : ℕ) → at ≤ length t
    → ((m : Margin) → blanks (place_at t at) ≡ Err m → Within t at m.at (m.blanks.tabs + m.blanks.spaces) → P (Err m))
    → ((m : Margin) → blanks (place_at t at) ≡ Ok m → Within t at m.at (m.blanks.tabs + m.blanks.spaces) → P (Ok m)) → P (blanks (place_at t at))
by_blanks P t at h f g = go (blanks (place_at t at)) refl (blanks_counted t at h)
  where
    go : (r : Result Margin Margin) → blanks (place_at t at) ≡ r → Counted t at r → P r
    go (Ok m) e c = g m e (record { after = omega (arith, c.lined.room); to = c.fits })
    go (Err m) e c = f m e (record { after = omega (arith, c.lined.room); to = c.fits })

-- those of a line's start do, refused or counted
pub blanks_within : (t : List ℕ) (at : ℕ) → at ≤ length t → let m = margin_of (blanks (place_at t at)) in Within t at m.at (m.blanks.tabs + m.blanks.spaces)
blanks_within t at h =
    by_blanks (λ r. let m = margin_of r in Within t at m.at (m.blanks.tabs + m.blanks.spaces)) t at h (λ m e w. w) (λ m e w. w)

-- a level opens where there is room, over one blank or more; and levels that stay were open
abbrev pub ChangeOk : ℕ → ℕ → Result LevelChange Ending → Type 0
ChangeOk n w (Ok Same) = Unit
ChangeOk n w (Ok Indent) = (n < most_levels) × (0 < w)
ChangeOk n w (Ok (DedentTo d)) = d ≤ n
ChangeOk n w (Err e) = Unit

pub change_ok : (ls : List Level) (tabs spaces : ℕ) → length ls ≤ most_levels → ChangeOk (length ls) (tabs + spaces) (change_of ls tabs spaces)
change_ok ls tabs spaces h = go (change_of ls tabs spaces) (change_bounds ls tabs spaces h)
  where
    go : (s : Result LevelChange Ending) → Settled ls tabs spaces s → ChangeOk (length ls) (tabs + spaces) s
    go (Ok Same) p = tt
    go (Ok Indent) p = p
    go (Ok (DedentTo d)) p = omega arith
    go (Err w) p = tt
