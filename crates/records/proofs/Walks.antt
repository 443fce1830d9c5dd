-- What the walks by hand have in common.
-- Assumes nothing.
use mathlib.Core.Path.{◌≡◌, ap, subst}
use mathlib.Core.List.{List, [], ◌∷◌}
use mir.Syntax.{Body, skip, seq, assign, block, loop, cond, switch, exit, return, call, unreachable, call_v, lend_static}
use mir.Val.{Val}
use denote.RattleType.{RattleType}
use denote.Laws.{Is}
use denote.Lowered.{Lowered}
use denote.Steps.{only}

-- a struct's machine value, spelled out, and what is known of it then
pub spelt : {R : RattleType} (l : Lowered R) (x : R.Denot) (u : Val) → Is R x (u ∷ []) → u ≡ l.lowered x
spelt l x u is = ap only (l.val_is x (u ∷ []) is)

pub spelt_is : {R : RattleType} (l : Lowered R) (x : R.Denot) (us : List Val) → Is R x us → Is R x (l.lowered x ∷ [])
spelt_is {R} l x us is = subst (Is R x) (l.val_is x us is) is

-- what runs after a body's first statement
abbrev pub rest_of : Body → Body
rest_of (seq s r) = r
rest_of skip = skip
rest_of (assign p v) = skip
rest_of (block b) = skip
rest_of (loop b) = skip
rest_of (cond c a b) = skip
rest_of (switch v a) = skip
rest_of (exit n) = skip
rest_of return = skip
rest_of (call f vs p) = skip
rest_of unreachable = skip
rest_of (call_v f vs p q) = skip
rest_of (lend_static p q r) = skip
