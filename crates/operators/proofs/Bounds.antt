-- An operator spans characters of ASCII, one to three, and its number is one of document 01's.
-- Assumes nothing.
use Prim.Native.Nat.{ℕ, ◌<◌, ◌≤◌}
use Prim.Native.Char.{code}
use mathlib.Core.Path.{◌≡◌, refl}
use mathlib.Core.Bool.{Bool, true}
use native.Mathlib.Omega.{arith}
use borrow.Author.Tests.{eqb-true, ltb-true, leb-true}
use lib.Dec.{eqb, ltb, leb}
use Rattle.choice.specs.Choice.{both}
use Rattle.choice.proofs.Laws.{choose_keeps, both_left, both_right}
use Rattle.token.specs.Kinds as K
use Rattle.std.specs.Prelude.{Option, Some, None}
use Rattle.operators.specs.Operators.{before_equal, doubled, dash, exclamation, dots, single, longest_operator}

-- an operator of n characters, the first of a, b, c
pub record Spans (a b c k n : ℕ) : Type 0 where
  pub some : 0 < n
  pub most : n ≤ 3
  pub first : a < 0x80
  pub second : 1 < n → b < 0x80
  pub third : 2 < n → c < 0x80
  pub low : K.equal ≤ k
  pub high : k ≤ K.ellipsis

abbrev pub Reach : ℕ → ℕ → ℕ → Option (ℕ × ℕ) → Type 0
Reach a b c (Some (k, n)) = Spans a b c k n
Reach a b c None = Unit

-- the number of an operator, as a test that computes
abbrev known : ℕ → Bool
known k = both (leb K.equal k) (leb k K.ellipsis)

-- a character that is one of ASCII
is_low : (a n : ℕ) → ltb n 0x80 ≡ true → eqb a n ≡ true → a < 0x80
is_low a n l e = omega (arith, ltb-true n 0x80 l, eqb-true a n e)

module _ (a b c : ℕ) (h : a < 0x80) where
  spans : (k n : ℕ) → known k ≡ true → 0 < n → n ≤ 3 → (1 < n → b < 0x80) → (2 < n → c < 0x80) → Reach a b c (Some (k, n))
  spans k n e s m g f =
      record {
        some = s;
        most = m;
        first = h;
        second = g;
        third = f;
        low = leb-true K.equal k (both_left (leb K.equal k) (leb k K.ellipsis) e);
        high = leb-true k K.ellipsis (both_right (leb K.equal k) (leb k K.ellipsis) e);
      }

  one : (k : ℕ) → known k ≡ true → Reach a b c (Some (k, 1))
  one k e = spans k 1 e (omega arith) (omega arith) (λ z. omega arith) (λ z. omega arith)

  two : (k : ℕ) → known k ≡ true → b < 0x80 → Reach a b c (Some (k, 2))
  two k e g = spans k 2 e (omega arith) (omega arith) (λ _. g) (λ z. omega arith)

  three : (k : ℕ) → known k ≡ true → b < 0x80 → c < 0x80 → Reach a b c (Some (k, 3))
  three k e g f = spans k 3 e (omega arith) (omega arith) (λ _. g) (λ _. f)

  equal_reach : (k l : ℕ) → known k ≡ true → known l ≡ true → Reach a b c (before_equal b k l)
  unfolding before_equal
  equal_reach k l p q = choose_keeps (Reach a b c) (eqb b (code "=")) (λ e. two l q (is_low b (code "=") refl e)) (λ _. one k p)

  twice_reach : (d k l m n : ℕ) → ltb d 0x80 ≡ true → known k ≡ true → known l ≡ true → known m ≡ true → known n ≡ true → Reach a b c (doubled d b c k l m n)
  unfolding doubled
  twice_reach d k l m n u p q r s =
      choose_keeps (Reach a b c) (eqb b (code "=")) (λ e. two l q (is_low b (code "=") refl e))
      (λ _. choose_keeps (Reach a b c) (eqb b d)
      (λ e. choose_keeps (Reach a b c) (eqb c (code "=")) (λ f. three n s (is_low b d u e) (is_low c (code "=") refl f)) (λ _. two m r (is_low b d u e)))
      (λ _. one k p))

  minus_reach : Reach a b c (dash b)
  unfolding dash
  minus_reach = choose_keeps (Reach a b c) (eqb b (code ">")) (λ e. two _ refl (is_low b (code ">") refl e)) (λ _. equal_reach _ _ refl refl)

  bang_reach : Reach a b c (exclamation b)
  unfolding exclamation
  bang_reach = choose_keeps (Reach a b c) (eqb b (code "=")) (λ e. two _ refl (is_low b (code "=") refl e)) (λ _. tt)

  dots_reach : Reach a b c (dots b c)
  unfolding dots
  dots_reach =
      choose_keeps (Reach a b c) (eqb b (code "."))
      (λ e. choose_keeps (Reach a b c) (eqb c (code ".")) (λ f. three _ refl (is_low b (code ".") refl e) (is_low c (code ".") refl f)) (λ _. one _ refl))
      (λ _. one _ refl)

simple_reach : (a b c : ℕ) → Reach a b c (single a)
unfolding single
simple_reach a b c =
    let P = Reach a b c in
    choose_keeps P (eqb a (code "~")) (λ e. one a b c (is_low a (code "~") refl e) _ refl)
    (λ _. choose_keeps P (eqb a (code "(")) (λ e. one a b c (is_low a (code "(") refl e) _ refl)
    (λ _. choose_keeps P (eqb a (code ")")) (λ e. one a b c (is_low a (code ")") refl e) _ refl)
    (λ _. choose_keeps P (eqb a (code "[")) (λ e. one a b c (is_low a (code "[") refl e) _ refl)
    (λ _. choose_keeps P (eqb a (code "]")) (λ e. one a b c (is_low a (code "]") refl e) _ refl)
    (λ _. choose_keeps P (eqb a (code "{")) (λ e. one a b c (is_low a (code "{") refl e) _ refl)
    (λ _. choose_keeps P (eqb a (code "}")) (λ e. one a b c (is_low a (code "}") refl e) _ refl)
    (λ _. choose_keeps P (eqb a (code ";")) (λ e. one a b c (is_low a (code ";") refl e) _ refl)
    (λ _. choose_keeps P (eqb a (code ",")) (λ e. one a b c (is_low a (code ",") refl e) _ refl)
    (λ _. tt)))))))))

-- every operator
pub operator_reach : (a b c : ℕ) → Reach a b c (longest_operator a b c)
unfolding longest_operator
operator_reach a b c =
    let P = Reach a b c in
    choose_keeps P (eqb a (code "=")) (λ e. equal_reach a b c (is_low a (code "=") refl e) _ _ refl refl)
    (λ _. choose_keeps P (eqb a (code "+")) (λ e. equal_reach a b c (is_low a (code "+") refl e) _ _ refl refl)
    (λ _. choose_keeps P (eqb a (code "*")) (λ e. twice_reach a b c (is_low a (code "*") refl e) _ _ _ _ _ refl refl refl refl refl)
    (λ _. choose_keeps P (eqb a (code "/")) (λ e. twice_reach a b c (is_low a (code "/") refl e) _ _ _ _ _ refl refl refl refl refl)
    (λ _. choose_keeps P (eqb a (code "%")) (λ e. equal_reach a b c (is_low a (code "%") refl e) _ _ refl refl)
    (λ _. choose_keeps P (eqb a (code "|")) (λ e. equal_reach a b c (is_low a (code "|") refl e) _ _ refl refl)
    (λ _. choose_keeps P (eqb a (code "^")) (λ e. equal_reach a b c (is_low a (code "^") refl e) _ _ refl refl)
    (λ _. choose_keeps P (eqb a (code "&")) (λ e. equal_reach a b c (is_low a (code "&") refl e) _ _ refl refl)
    (λ _. choose_keeps P (eqb a (code "-")) (λ e. minus_reach a b c (is_low a (code "-") refl e))
    (λ _. choose_keeps P (eqb a (code "@")) (λ e. equal_reach a b c (is_low a (code "@") refl e) _ _ refl refl)
    (λ _. choose_keeps P (eqb a (code "!")) (λ e. bang_reach a b c (is_low a (code "!") refl e))
    (λ _. choose_keeps P (eqb a (code ":")) (λ e. equal_reach a b c (is_low a (code ":") refl e) _ _ refl refl)
    (λ _. choose_keeps P (eqb a (code "<")) (λ e. twice_reach a b c (is_low a (code "<") refl e) _ _ _ _ _ refl refl refl refl refl)
    (λ _. choose_keeps P (eqb a (code ">")) (λ e. twice_reach a b c (is_low a (code ">") refl e) _ _ _ _ _ refl refl refl refl refl)
    (λ _. choose_keeps P (eqb a (code ".")) (λ e. dots_reach a b c (is_low a (code ".") refl e))
    (λ _. simple_reach a b c)))))))))))))))
