-- Laws of lines, byte by byte: one byte on, a part without line ends, counting, two texts that agree.
-- Assumes nothing.
use Prim.Native.Nat.{ℕ, zero, suc, ◌+◌, ◌-◌, ◌<◌, ◌≤◌}
use Prim.Native.Char.{code}
use mathlib.Core.Path.{◌≡◌, refl, sym, ◌∙◌, ap}
use mathlib.Core.List.{List, [], ◌∷◌}
use mathlib.Core.Bool.{Bool, true, false, not, ◌&&◌, ◌||◌}
use mir.Val.{bool_byte}
use Rattle.choice.specs.Choice.{choose}
use native.Mathlib.Omega.{arith}
use borrow.Author.Tests.{ne_eqb}
use lib.Dec.{eqb}
use lib.ListN.{length, get_or, take, drop, get_or-eq_default}
use lib.Seq.{get_or-take}
use Rattle.choice.proofs.Laws.{choose_keeps}
use Rattle.lines.specs.Lines.{is_line_end, line_at}
use Rattle.lines.specs.Promises.{ending, Ending, Ends, block}

-- ---- byte by byte
pub line_start_lem : (t : List ℕ) → line_at t 0 ≡ 0
unfolding line_at
line_start_lem t = refl

-- the first byte
line_cons : (b : ℕ) (t : List ℕ) (p : ℕ) → line_at (b ∷ t) (suc p) ≡ ending b (get_or t 0 0) + line_at t p
unfolding line_at
line_cons b t p = by (is_line_end b (get_or t 0 0))
  where
    by : (e : Bool) → choose e (λ _. suc (line_at t p)) (λ _. line_at t p) ≡ choose e (λ _. 1) (λ _. 0) + line_at t p
    by true = omega arith
    by false = omega arith

-- one byte on
pub line_next : (t : List ℕ) (p : ℕ) → line_at t (suc p) ≡ line_at t p + ending (get_or t p 0) (get_or t (suc p) 0)
unfolding line_at is_line_end
line_next [] zero = refl
line_next [] (suc p) = refl
line_next (b ∷ t) zero = omega (arith, line_cons b t 0)
line_next (b ∷ t) (suc p) = omega (arith, line_next t p, line_cons b t (suc p), line_cons b t p)

pub ending_most : (b c : ℕ) → ending b c ≤ 1
ending_most b c = choose_keeps (λ n. n ≤ 1) (is_line_end b c) (λ _. omega arith) (λ _. omega arith)

-- no byte but LF and CR ends a line
pub ending_other : (b c : ℕ) → (b ≡ code "\n" → ⊥) → (b ≡ code "\r" → ⊥) → ending b c ≡ 0
unfolding is_line_end
ending_other b c m n = simp (ne_eqb b (code "\n") m, ne_eqb b (code "\r") n)

-- behind a byte of that sort
pub line_behind : (b : ℕ) (t : List ℕ) (p : ℕ) → (b ≡ code "\n" → ⊥) → (b ≡ code "\r" → ⊥) → line_at (b ∷ t) (suc p) ≡ line_at t p
line_behind b t p m n = omega (arith, line_cons b t p, ending_other b (get_or t 0 0) m n)

pub ending_lf : (c : ℕ) → ending (code "\n") c ≡ 1
unfolding is_line_end
ending_lf c = refl

pub ending_lone : (c : ℕ) → (c ≡ code "\n" → ⊥) → ending (code "\r") c ≡ 1
unfolding is_line_end
ending_lone c n = simp (ne_eqb c (code "\n") n)

-- the line ends that end behind p and at or before q
abbrev pub ends_in : List ℕ → ℕ → ℕ → ℕ
ends_in t p q = line_at (drop p t) (q - p)

line_none : (k : ℕ) → line_at [] k ≡ 0
unfolding line_at
line_none zero = refl
line_none (suc k) = refl

line_on : (t : List ℕ) (p k : ℕ) → line_at t (p + k) ≡ line_at t p + line_at (drop p t) k
unfolding line_at
line_on t zero k = let e : 0 + k ≡ k = omega arith in ap (line_at t) e ∙ omega arith
line_on [] (suc p) k = omega (arith, line_none (suc p + k), line_none k)
line_on (b ∷ t) (suc p) k =
    let e : suc p + k ≡ suc (p + k) = omega arith in
    ap (line_at (b ∷ t)) e ∙ omega (arith, line_cons b t (p + k), line_cons b t p, line_on t p k)

pub line_adds : (t : List ℕ) (p q : ℕ) → p ≤ q → line_at t q ≡ line_at t p + ends_in t p q
line_adds t p q h = let e : q ≡ p + (q - p) = omega arith in ap (line_at t) e ∙ line_on t p (q - p)

-- at most as many lines as bytes
pub line_most : (t : List ℕ) (p : ℕ) → line_at t p ≤ p
unfolding line_at
line_most t zero = omega arith
line_most [] (suc p) = omega arith
line_most (b ∷ t) (suc p) = omega (arith, line_cons b t p, ending_most b (get_or t 0 0), line_most t p)

-- bytes without LF and CR
pub line_same : (t : List ℕ) (k p : ℕ) → ((j : ℕ) → j < k → (get_or t (p + j) 0 ≡ code "\n" → ⊥) × (get_or t (p + j) 0 ≡ code "\r" → ⊥)) → line_at t (p + k) ≡ line_at t p
line_same t zero p f = ap (line_at t) (omega arith)
line_same t (suc k) p f =
    let e : p + suc k ≡ suc (p + k) = omega arith in
    let n = f k (omega arith) in
    ap (line_at t) e ∙ omega (arith, line_next t (p + k), ending_other (get_or t (p + k) 0) (get_or t (suc (p + k)) 0) n.0 n.1, line_same t k p (λ j h. f j (omega arith)))

-- ---- counting
pub ends_start : (t : List ℕ) (from : ℕ) → Ends t from from 0
ends_start t from = record { count = omega arith; most = omega arith }

-- one byte more
pub ends_next : (t : List ℕ) (from i n : ℕ) → Ends t from i n → (r : ℕ) → Ending (get_or t i 0) (get_or t (i + 1) 0) r → Ends t from (i + 1) (n + r)
ends_next t from i n h r q =
    let s : i + 1 ≡ suc i = omega arith in
    let z : r ≡ ending (get_or t i 0) (get_or t (suc i) 0) = q.is ∙ ap (λ j. ending (get_or t i 0) (get_or t j 0)) s in
    record { count = omega (arith, h.count, line_next t i, ap (line_at t) s); most = omega (arith, h.most, q.most) }

-- all bytes up to `to`
pub ends_all : (t : List ℕ) (from i n to : ℕ) → Ends t from i n → i ≤ to → to ≤ i → Ends t from to n
ends_all t from i n to h k l = let e : to ≡ i = omega arith in rw e h

pub ending_is : (b c r : ℕ) → r ≡ ending b c → Ending b c r
ending_is b c r e = record { is = e; most = omega (arith, ending_most b c) }

-- one byte: above CR, an LF, another one, a CR at the text's end
pub high_ends : (b c : ℕ) → code "\r" < b → Ending b c 0
high_ends b c h = ending_is b c 0 (sym (ending_other b c (λ e. omega arith) (λ e. omega arith)))

pub lf_ends : (b c : ℕ) → b ≡ code "\n" → Ending b c 1
lf_ends b c e = ending_is b c 1 (sym (ap (λ x. ending x c) e ∙ ending_lf c))

pub other_ends : (b c : ℕ) → (b ≡ code "\n" → ⊥) → (b ≡ code "\r" → ⊥) → Ending b c 0
other_ends b c m n = ending_is b c 0 (sym (ending_other b c m n))

pub last_ends : (t : List ℕ) (at b : ℕ) → b ≡ code "\r" → at + 1 ≡ length t → Ending b (get_or t (at + 1) 0) 1
last_ends t at b e h =
    let z : get_or t (at + 1) 0 ≡ 0 = get_or-eq_default t 0 {n = at + 1} (omega arith) in
    ending_is b _ 1 (sym (ap (λ x. ending x (get_or t (at + 1) 0)) e ∙ ending_lone _ (λ y. omega arith)))

pub ruleset ends = (high_ends, lf_ends, other_ends, last_ends)

-- the same without a branch
flat : (x y z : Bool) → bool_byte (x || (y && not z)) ≡ choose (choose x (λ _. true) (λ _. choose y (λ _. not z) (λ _. false))) (λ _. 1) (λ _. 0)
flat true y z = refl
flat false false z = refl
flat false true true = refl
flat false true false = refl

pub ending_flat : (b c : ℕ) → Ending b c (bool_byte (eqb b (code "\n") || (eqb b (code "\r") && not (eqb c (code "\n")))))
unfolding is_line_end
ending_flat b c = ending_is b c _ (flat (eqb b (code "\n")) (eqb b (code "\r")) (eqb c (code "\n")))

-- two parts
pub ends_join : (t : List ℕ) (a b n : ℕ) → Ends t a b n → (c m : ℕ) → Ends t b c m → Ends t a c (n + m)
ends_join t a b n h c m k = record { count = omega (arith, h.count, k.count); most = omega (arith, h.most, k.most) }

-- the loop over a block, at its k-th byte, and at its end
pub block_start : (t : List ℕ) (at : ℕ) → Ends t at (at + 0) 0
block_start t at = let e : at + 0 ≡ at = omega arith in rw e (ends_start t at)

pub block_next : (t : List ℕ) (at k n : ℕ) → Ends t at (at + k) n → (r : ℕ) → Ending (get_or t (at + k) 0) (get_or t (at + k + 1) 0) r → Ends t at (at + (k + 1)) (n + r)
block_next t at k n h r q =
    let e : at + (k + 1) ≡ at + k + 1 = omega arith in
    rw e (ends_next t at (at + k) n h r q)

pub block_over : (t : List ℕ) (at k n : ℕ) → Ends t at (at + k) n → k ≤ block → block ≤ k → Ends t at (at + block) n
block_over t at k n h l m = let e : at + block ≡ at + k = omega arith in rw e h

-- from the text's start
pub line_all : (t : List ℕ) (p n : ℕ) → Ends t 0 p n → n ≡ line_at t p
line_all t p n k = omega (arith, line_start_lem t, k.count)

-- behind the text's end
pub line_past : (t : List ℕ) (p : ℕ) → length t < p → line_at t (length t) ≡ line_at t p
unfolding line_at
line_past [] p h = sym (line_none p)
line_past (b ∷ t) zero h = absurd (omega arith)
line_past (b ∷ t) (suc p) h = omega (arith, line_cons b t (length t), line_cons b t p, line_past t p (omega arith))

pub line_all_past : (t : List ℕ) (p n : ℕ) → length t < p → Ends t 0 (length t) n → n ≡ line_at t p
line_all_past t p n h k = line_all t (length t) n k ∙ line_past t p h

-- ---- two texts
-- a line is told by the bytes before it and the one at it
line_take : (t : List ℕ) (a p : ℕ) → p < a → line_at (take a t) p ≡ line_at t p
unfolding line_at
line_take t a zero h = refl
line_take [] zero (suc p) h = refl
line_take [] (suc a) (suc p) h = refl
line_take (b ∷ t) zero (suc p) h = absurd (omega arith)
line_take (b ∷ t) (suc a) (suc p) h =
    let k : 0 < a = omega arith in
    omega (arith, line_cons b (take a t) p, line_cons b t p, line_take t a p (omega arith), ap (ending b) (get_or-take a t 0 0 k))

pub line_near : (t t' : List ℕ) (a p : ℕ) → take a t ≡ take a t' → p < a → line_at t' p ≡ line_at t p
line_near t t' a p e h = sym (line_take t' a p h) ∙ ap (λ l. line_at l p) (sym e) ∙ line_take t a p h
