-- A local array in a walk by hand: written whole, it is looked at as the row of its elements; at the end it is room again.
-- Assumes `Logic`.
use Prim.Native.Nat.{ℕ}
use mathlib.Core.Path.{◌≡◌, refl}
use mathlib.Core.List.{List, [], ◌∷◌}
use lib.ListN.{length}
use seplogic.Ra.Ura.{Ura}
use base.Fraction.{full_share}
use mir.Syntax.{Ty, ty_array}
use mir.Val.{Val}
use base.Logic.{ent, sep}
use base.Fml.{fsep, fat, froom}
use types.Logic.{Logic, sem}
use types.Kit.{‵, ◌$◌, ◌∵◌, !, qed, move, drop, use1, rewrite, fsplit, fjoin, fpick, fpack, feq_l, feq_i, done}
use types.Share.{arr_parts}
use denote.RattleType.{RattleType}
use denote.Memory.{cell_at, lone, part_at, shares, part_of}
use denote.Array.{Array, array_val}
use denote.ArrayMemory.{Single, Array-apart, Array-whole}
use denote.Index.{row}

module _ {M : Type 1} {𝓤 : Ura M} (𝓛 : Logic 𝓤) (R : RattleType) (n : ℕ) (xs : List R.Denot) (b : ℕ) where
  abbrev ArrayTy : Ty
  ArrayTy = ty_array (lone R.mir) n

  pub array_in : Single R.mir → (v : Val) → ent 𝓤 (sep 𝓤 (sem 𝓛 (fat full_share ArrayTy b 0 v)) (sem 𝓛 ((Array R n).own_val xs (v ∷ [])))) (sem 𝓛 (row R full_share xs b 0))
  unfolding part_of
  array_in s v =
      qed 𝓛 (‵ (fat full_share ArrayTy b 0 v) ∷ ‵ ((Array R n).own_val xs (v ∷ [])) ∷ []) ∵
      use1 𝓛 (‵ (cell_at full_share (ArrayTy ∷ []) (v ∷ []) b 0)) (𝓛.laws.at_raw full_share ArrayTy b 0 v) $ fjoin ! $
      fpack ! (List Val) (λ vs. fsep (cell_at full_share (ArrayTy ∷ []) vs b 0) ((Array R n).own_val xs vs)) (v ∷ []) $
      use1 𝓛 (‵ ((arr_parts (shares R) n).part full_share xs b 0)) (Array-apart 𝓛 R full_share s n xs b 0) $ fsplit ! $ drop ! $ done !

  pub array_out : length xs ≡ n → ent 𝓤 (sem 𝓛 (row R full_share xs b 0)) (sem 𝓛 (froom ArrayTy b 0))
  unfolding part_of
  array_out l =
      qed 𝓛 (‵ (row R full_share xs b 0) ∷ []) ∵ feq_i ! ℕ (length xs) n l $ fjoin ! $
      use1 𝓛 (‵ (part_at (Array R n) full_share xs b 0)) (Array-whole 𝓛 R full_share n xs b 0) $ fpick ! (λ vs. fsplit ! $ move ! (1 ∷ []) $ fpick ! (λ us. fsplit ! $ fsplit ! $ feq_l ! (λ e. feq_l ! (λ _.
      rewrite ! 1 (λ (ws : List Val). ‵ (cell_at full_share (ArrayTy ∷ []) ws b 0)) e refl $ drop ! $
      use1 𝓛 (‵ (fat full_share ArrayTy b 0 (array_val us))) (𝓛.laws.raw_at full_share ArrayTy b 0 (array_val us)) $ use1 𝓛 (‵ (froom ArrayTy b 0)) (𝓛.laws.at_room ArrayTy b 0 (array_val us)) $ done !))))
