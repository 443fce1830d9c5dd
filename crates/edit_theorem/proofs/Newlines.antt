-- Which records of a round are Newlines: a round that ends a line has one, the last of its records; others have none.
-- Assumes nothing.
use Prim.Native.Nat.{ℕ, zero, suc, ◌≤◌}
use mathlib.Core.Path.{◌≡◌, refl, sym, ◌∙◌, ap, subst}
use mathlib.Core.List.{List, [], ◌∷◌, ◌++◌, append-nil}
use mathlib.Core.Bool.{Bool, true, false}
use mathlib.Core.Logic.{◌⊎◌, inl, inr, ⊎_elim}
use native.Mathlib.Omega.{arith}
use lib.ListN.{length}
use Rattle.choice.specs.Choice.{choose}
use Rattle.choice.proofs.Laws.{choose_keeps}
use Rattle.window.specs.Place.{place_at}
use Rattle.window.proofs.Near.{Ended}
use Rattle.indentation.specs.declared.Level.{Level}
use Rattle.std.specs.Prelude.{Result, Ok, Err}
use Rattle.token.specs.declared.Ending.{Ending}
use Rattle.indentation.specs.declared.LevelChange.{LevelChange}
use Rattle.indentation.specs.declared.LevelChange.TheVariants as S
use Rattle.indentation.specs.Notes.{notes}
use Rattle.indentation.proofs.NoteLaws.{Upto, notes_upto}
use Rattle.lexer.specs.declared.Step.{Step}
use Rattle.lexer.specs.declared.Step.TheVariants as T
use Rattle.lexer.proofs.Goes.{Goes, step_goes}
use Rattle.lexer.proofs.Lines.{LineEnds, step_ends}
use Rattle.rounds.specs.Rounds.{State, state, Outcome, error, more, end, dedents, with_item, at_level, line_start, round}
use Rattle.records.specs.Records.{Spanned, spanned}
use Rattle.rounds.proofs.Margins.{by_blanks}
use Rattle.token.specs.Kinds as K

-- no record is a Newline; all Newlines start and end at p
abbrev pub NoLine : List Spanned → Type 0
NoLine [] = Unit
NoLine (r ∷ rs) = (r.kind ≡ K.newline → ⊥) × NoLine rs

abbrev pub AllAt : ℕ → List Spanned → Type 0
AllAt p [] = Unit
AllAt p (r ∷ rs) = (r.kind ≡ K.newline → (r.start ≡ p) × (r.end ≡ p)) × AllAt p rs

-- a Newline stands last, and the next state is a line's start outside brackets
pub record Ends (t : List ℕ) (rs : List Spanned) (s : State) : Type 0 where
  pub pend : List Spanned
  pub from : ℕ
  pub shape : rs ≡ pend ++ spanned K.newline from s.at ∷ []
  pub none : NoLine pend
  pub at_line_start : s ≡ state s.at true 0 s.levels
  pub ended : Ended t s.at

abbrev pub Sort : List ℕ → Outcome → Type 0
Sort t (error w p) = Unit
Sort t (more rs s) = NoLine rs ⊎ Ends t rs s
Sort t (end rs p) = AllAt p rs

no_append : (x y : List Spanned) → NoLine x → NoLine y → NoLine (x ++ y)
no_append [] y p q = q
no_append (r ∷ x) y p q = (p.0, no_append x y p.1 q)

at_append : (a : ℕ) (x y : List Spanned) → AllAt a x → AllAt a y → AllAt a (x ++ y)
at_append a [] y p q = q
at_append a (r ∷ x) y p q = (p.0, at_append a x y p.1 q)

no_dedents : (n p : ℕ) → NoLine (dedents n p)
unfolding dedents
no_dedents zero p = tt
no_dedents (suc n) p = ((λ e. omega arith), no_dedents n p)

at_dedents : (n p : ℕ) → AllAt p (dedents n p)
unfolding dedents
at_dedents zero p = tt
at_dedents (suc n) p = ((λ _. (refl, refl)), at_dedents n p)

-- a list with none has none that ends elsewhere
none_at : (p : ℕ) (xs : List Spanned) → NoLine xs → AllAt p xs
none_at p [] n = tt
none_at p (x ∷ xs) n = ((λ z. absurd (n.0 z)), none_at p xs n.1)

no_notes : (q : ℕ) (xs : List Spanned) → Upto q xs → NoLine xs
no_notes q [] u = tt
no_notes q (x ∷ xs) u = ((λ z. ⊎_elim (λ e. omega arith) (λ e. omega arith) u.0), no_notes q xs u.3)

module _ (t : List ℕ) where
  with_item_sort : (pend : List Spanned) (f : Bool) (at nest : ℕ) (ls : List Level) (i : Step) → NoLine pend → Goes at (length t) nest i → LineEnds t i
      → Sort t (with_item pend f at nest ls i)
  unfolding with_item
  with_item_sort pend f at nest ls (T.Gap e) n g l = inl n
  with_item_sort pend f at nest ls (T.Tok k e m) n g l = inl (no_append pend _ n (omega arith, tt))
  with_item_sort pend f at nest ls (T.Newline e) n g l =
      inr (record { pend = pend; from = at; shape = refl; none = n; at_line_start = ap (λ (k : ℕ). state e true k ls) g.2; ended = l })
  with_item_sort pend f at nest ls (T.Error w p) n g l = tt
  with_item_sort pend f at nest ls T.End n g l =
      let X = choose f (λ _. []) (λ _. spanned K.newline at at ∷ []) in
      at_append at (pend ++ X) (dedents (length ls) at) (at_append at pend X (none_at at pend n) (choose_keeps (AllAt at) f (λ _. tt) (λ _. ((λ _. (refl, refl)), tt)))) (at_dedents (length ls) at)

  at_level_sort : (pre : List Spanned) (at tabs spaces nest : ℕ) (ls : List Level) (z : Result LevelChange Ending) → NoLine pre → at ≤ length t → Sort t (at_level t pre at tabs spaces nest ls z)
  unfolding at_level
  at_level_sort pre at tabs spaces nest ls (Ok S.Same) n h = with_item_sort pre true at nest ls _ n (step_goes t at nest h) (step_ends t at nest)
  at_level_sort pre at tabs spaces nest ls (Ok S.Indent) n h = with_item_sort _ true at nest _ _ (no_append pre _ n ((λ e. omega arith), tt)) (step_goes t at nest h) (step_ends t at nest)
  at_level_sort pre at tabs spaces nest ls (Ok (S.DedentTo d)) n h = with_item_sort _ true at nest _ _ (no_append pre _ n (no_dedents _ at)) (step_goes t at nest h) (step_ends t at nest)
  at_level_sort pre at tabs spaces nest ls (Err w) n h = tt

  pub round_sort : (s : State) → s.at ≤ length t → Sort t (round t s)
  unfolding round line_start
  round_sort s h =
      choose_keeps (Sort t) s.at_line_start
      (λ _. by_blanks (λ r. Sort t (line_start t (notes (place_at t s.at)) r s.nest s.levels)) t s.at h (λ m z w. tt)
      (λ m z w. at_level_sort (notes (place_at t s.at)) m.at m.blanks.tabs m.blanks.spaces s.nest s.levels _ (no_notes m.at (notes (place_at t s.at)) (notes_upto (place_at t s.at) m z)) w.to))
      (λ _. with_item_sort [] false s.at s.nest s.levels _ tt (step_goes t s.at s.nest h) (step_ends t s.at s.nest))

-- ---- records taken apart at a Newline
pub nil_no : (pre post : List Spanned) (N : Spanned) → [] ≡ pre ++ N ∷ post → ⊥
nil_no [] post N e = let z : ◌≡◌ {A = ℕ} 0 1 = cc in omega arith
nil_no (p ∷ pre) post N e = let z : ◌≡◌ {A = ℕ} 0 1 = cc in omega arith

pub head_eq : (x y : Spanned) (xs ys : List Spanned) → x ∷ xs ≡ y ∷ ys → x ≡ y
head_eq x y xs ys e = cc

pub tail_eq : (x y : Spanned) (xs ys : List Spanned) → x ∷ xs ≡ y ∷ ys → xs ≡ ys
tail_eq x y xs ys e = cc

pub no_line : (pre post xs : List Spanned) (N : Spanned) → xs ≡ pre ++ N ∷ post → NoLine xs → N.kind ≡ K.newline → ⊥
no_line pre post xs N e n k = go pre (subst NoLine e n)
  where
    go : (p : List Spanned) → NoLine (p ++ N ∷ post) → ⊥
    go [] m = m.0 k
    go (x ∷ p) m = go p m.1

pub all_at : (p : ℕ) (pre post xs : List Spanned) (N : Spanned) → xs ≡ pre ++ N ∷ post → AllAt p xs → N.kind ≡ K.newline → (N.start ≡ p) × (N.end ≡ p)
all_at p pre post xs N e n k = go pre (subst (AllAt p) e n)
  where
    go : (y : List Spanned) → AllAt p (y ++ N ∷ post) → (N.start ≡ p) × (N.end ≡ p)
    go [] m = m.0 k
    go (x ∷ y) m = go y m.1

-- a record of two lists joined is one of the first or one of the second
pub record InLeft (xs ys pre post : List Spanned) (N : Spanned) : Type 0 where
  pub rest : List Spanned
  pub left : xs ≡ pre ++ N ∷ rest
  pub right : post ≡ rest ++ ys

pub record InRight (xs ys pre post : List Spanned) (N : Spanned) : Type 0 where
  pub rest : List Spanned
  pub left : pre ≡ xs ++ rest
  pub right : ys ≡ rest ++ N ∷ post

pub split : (xs ys pre post : List Spanned) (N : Spanned) → xs ++ ys ≡ pre ++ N ∷ post → InLeft xs ys pre post N ⊎ InRight xs ys pre post N
split [] ys pre post N e = inr (record { rest = pre; left = refl; right = e })
split (x ∷ xs) ys [] post N e = inl (record { rest = xs; left = ap (λ (r : Spanned). r ∷ xs) (head_eq _ _ _ _ e); right = sym (tail_eq _ _ _ _ e) })
split (x ∷ xs) ys (p ∷ pre) post N e =
    ⊎_elim
    (λ i. inl (record { rest = i.rest; left = ap (λ (r : List Spanned). x ∷ r) i.left ∙ ap (λ (r : Spanned). r ∷ pre ++ N ∷ i.rest) (head_eq _ _ _ _ e); right = i.right }))
    (λ i. inr (record { rest = i.rest; left = ap (λ (r : List Spanned). p ∷ r) i.left ∙ ap (λ (r : Spanned). r ∷ xs ++ i.rest) (sym (head_eq _ _ _ _ e)); right = i.right }))
    (split xs ys pre post N (tail_eq _ _ _ _ e))

-- the one Newline of a round that ends a line
pub record Only (pend pre rest : List Spanned) (M N : Spanned) : Type 0 where
  pub same : N ≡ M
  pub before : pre ≡ pend
  pub none : rest ≡ []

pub only : (pend pre rest : List Spanned) (M N : Spanned) → NoLine pend → N.kind ≡ K.newline → pend ++ M ∷ [] ≡ pre ++ N ∷ rest → Only pend pre rest M N
only pend pre rest M N n k e =
    ⊎_elim (λ i. absurd (no_line pre i.rest pend N i.left n k)) (λ i. last i.rest i.left i.right) (split pend (M ∷ []) pre rest N e)
  where
    last : (z : List Spanned) → pre ≡ pend ++ z → M ∷ [] ≡ z ++ N ∷ rest → Only pend pre rest M N
    last [] p q = record { same = sym (head_eq _ _ _ _ q); before = p ∙ append-nil pend; none = sym (tail_eq _ _ _ _ q) }
    last (x ∷ z) p q = absurd (nil_no z rest N (tail_eq _ _ _ _ q))
