-- The walk goes forward and ends at no_char, so a run has the same end by any `left` that reaches so far.
-- Assumes nothing.
use Prim.Native.Nat.{ℕ, zero, suc, ◌+◌, ◌-◌, ◌<◌, ◌≤◌}
use mathlib.Core.Path.{◌≡◌, refl, sym, ◌∙◌}
use mathlib.Core.Bool.{Bool, true, false}
use native.Mathlib.Omega.{arith}
use borrow.Author.Tests.{lt-ltb, le-ltb, eqb-true, ltb-true}
use lib.Dec.{ltb, eqb}
use Rattle.choice.specs.Choice.{choose}
use Rattle.choice.proofs.Laws.{choose_keeps, choose_both}
use Rattle.utf8.specs.Chars.{no_char}
use Rattle.every_character.specs.Promises.{successor, run_from, run_end}

-- the next character is above, and at most one past the last
pub next_within : (c : ℕ) → c < no_char → (c < successor c) × (successor c ≤ no_char)
unfolding successor
next_within c h = choose_keeps (λ n. (c < n) × (n ≤ no_char)) (eqb c 0xd7ff) (λ e. let q = eqb-true c 0xd7ff e in (omega arith, omega arith)) (λ _. (omega arith, omega arith))

-- a run ends at its start or behind it, and at most one past the last
run_within : (f : ℕ → Bool) (left c : ℕ) → c ≤ no_char → (c ≤ run_from f left c) × (run_from f left c ≤ no_char)
unfolding run_from
run_within f zero c h = (omega arith, omega arith)
run_within f (suc left) c h =
    choose_keeps (λ n. (c ≤ n) × (n ≤ no_char)) (ltb c no_char)
    (λ e. choose_keeps (λ n. (c ≤ n) × (n ≤ no_char)) (f c)
    (λ _. let w = next_within c (ltb-true c no_char e) in let v = run_within f left (successor c) w.1 in (omega arith, omega arith))
    (λ _. (omega arith, omega arith)))
    (λ _. (omega arith, omega arith))

-- a run from the next character on ends above this one
pub end_above : (f : ℕ → Bool) (c n e : ℕ) → c < no_char → n ≡ successor c → e ≡ run_end f n → (c < e) × (e ≤ no_char)
unfolding run_end
end_above f c n e h p q = let w = next_within c h in let v = run_within f (no_char - n) n (omega arith) in (omega arith, omega arith)

-- past the last character a run is over
over : (f : ℕ → Bool) (left c : ℕ) → no_char ≤ c → run_from f left c ≡ c
unfolding run_from
over f zero c h = refl
over f (suc left) c h = simp (le-ltb c no_char h)

-- more than is enough changes nothing
enough : (f : ℕ → Bool) (left more c : ℕ) → left ≤ more → no_char ≤ c + left → run_from f more c ≡ run_from f left c
unfolding run_from
enough f zero more c l h = over f more c (omega arith)
enough f (suc left) zero c l h = absurd (omega arith)
enough f (suc left) (suc more) c l h =
    choose_both (λ x y. x ≡ y) (ltb c no_char)
    (λ e. choose_both (λ x y. x ≡ y) (f c)
    (λ _. let w = next_within c (ltb-true c no_char e) in enough f left more (successor c) (omega arith) (omega arith))
    (λ _. refl))
    (λ _. refl)

-- the turns of the loop: what is left to walk from c ends where the whole does
module _ (f : ℕ → Bool) (c q : ℕ) (w : run_end f c ≡ q) where
  pub run_over : no_char ≤ c → c ≡ q
  unfolding run_end
  run_over h = sym (over f (no_char - c) c h) ∙ w

  module _ (b : Bool) (e : f c ≡ b) (h : c < no_char) where
    -- one step of the walk
    walked : (left : ℕ) → no_char - c ≡ suc left → run_end f c ≡ choose b (λ _. run_from f left (successor c)) (λ _. c)
    unfolding run_end run_from
    walked left p = rw p (simp (lt-ltb c no_char h, e))

    pub run_stop : b ≡ false → c ≡ q
    run_stop g = sym (walked (no_char - c - 1) (omega arith) ∙ simp g) ∙ w

    pub run_more : (n : ℕ) → b ≡ true → n ≡ successor c → run_end f n ≡ q
    unfolding run_end
    run_more n g p =
        let m = next_within c h in
        rw p (sym (enough f (no_char - successor c) (no_char - c - 1) (successor c) (omega arith) (omega arith)) ∙ sym (walked (no_char - c - 1) (omega arith) ∙ simp g) ∙ w)

pub ruleset walk = (next_within, run_over, run_stop, run_more)
