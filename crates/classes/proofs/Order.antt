-- The order of the tables, by one computed test: in each the ranges rise and have nothing in common.
-- Assumes nothing.
use mathlib.Core.Bool.{true}
use mathlib.Core.Path.{◌≡◌, refl}
use Rattle.choice.specs.Choice.{both}
use Rattle.choice.proofs.Laws.{both_left, both_right}
use Rattle.classes.specs.Promises.{ordered}
use Rattle.classes.specs.Tables.{xid_start, xid_continue, emoji_presentation}

in_order : both (ordered 0 xid_start) (both (ordered 0 xid_continue) (ordered 0 emoji_presentation)) ≡ true
unfolding ordered xid_start xid_continue emoji_presentation
in_order = refl

later : both (ordered 0 xid_continue) (ordered 0 emoji_presentation) ≡ true
later = both_right (ordered 0 xid_start) (both (ordered 0 xid_continue) (ordered 0 emoji_presentation)) in_order

pub xid_start_in_order : ordered 0 xid_start ≡ true
xid_start_in_order = both_left (ordered 0 xid_start) (both (ordered 0 xid_continue) (ordered 0 emoji_presentation)) in_order

pub xid_continue_in_order : ordered 0 xid_continue ≡ true
xid_continue_in_order = both_left (ordered 0 xid_continue) (ordered 0 emoji_presentation) later

pub emoji_presentation_in_order : ordered 0 emoji_presentation ≡ true
emoji_presentation_in_order = both_right (ordered 0 xid_continue) (ordered 0 emoji_presentation) later
