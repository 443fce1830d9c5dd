-- Reading on: a row with two places a byte, one for each open level and one more has room; else the measure says.
-- Assumes nothing.
use Prim.Native.Nat.{ℕ, ◌+◌, ◌-◌, ◌*◌, ◌<◌, ◌≤◌}
use mathlib.Core.Path.{◌≡◌, refl, sym, ◌∙◌, ap, subst}
use mathlib.Core.List.{List}
use mathlib.Core.Bool.{Bool, true, false}
use native.Mathlib.Omega.{arith}
use borrow.Author.Tests.{lt-ltb, le-ltb, ltb-false}
use lib.ListN.{length}
use lib.Dec.{ltb}
use Rattle.lines.specs.Lines.{line_at}
use Rattle.choice.proofs.Laws.{choose_keeps}
use Rattle.stacks.proofs.Laws.{stack_length}
use Rattle.records.specs.Records.{room}
use Rattle.records.specs.Limits.{places}
use Rattle.indentation.specs.declared.Level.{Level}
use Rattle.indentation.specs.Promises.{stack}
use Rattle.rounds.specs.Rounds.{state, Reading, view}
use Rattle.rounds.proofs.Paid.{few_listed}
use Rattle.measuring.specs.declared.Tally.{Tally}
use Rattle.measuring.specs.declared.Numbers.{Numbers}
use Rattle.measuring.specs.Promises.{numbers, end_code, end_detail, TextOk, Measured}
use Rattle.filling.specs.Promises.{TextFill, Filled}
use Rattle.answers.specs.declared.Answer.{Answer}
use Rattle.reading.specs.Answers.{go, answered, written, plan_answer, plan_row}
use Rattle.answers.specs.Answers.{answer, refusal, no_room_for}
use Rattle.answers.specs.Promises.{Fits}
use Rattle.reading.specs.Promises.{FinishOk, room_refusal, Finished}

pub text_ok : (t : List ℕ) (start : ℕ) (a : List Level) (depth at n : ℕ) → FinishOk t start a depth at n → TextOk t a depth at n
text_ok t start a depth at n ok = record { within = ok.within; small = ok.text.small; open' = ok.open'; levels = ok.levels; few = omega (arith, ok.few) }

-- what reads on at a start reads on at 0
pub at_zero : (t : List ℕ) (start : ℕ) (a : List Level) (depth at n : ℕ) → FinishOk t start a depth at n → FinishOk t 0 a depth at n
at_zero t start a depth at n ok = record { within = ok.within; text = record { small = ok.text.small; fits = omega (arith, ok.text.fits) }; open' = ok.open'; levels = ok.levels; few = ok.few }

-- the numbers of a tally fit an answer where the tally does, and tell the same answer
module _ (start : ℕ) (m : Tally) (y : Numbers) (e : y ≡ numbers m) where
  pub numbers_fit : Fits m.count (start + m.place) → Fits y.count (start + y.place)
  numbers_fit f = subst (λ (z : Numbers). Fits z.count (start + z.place)) (sym e) f

  pub numbers_told : (x : Answer) → x ≡ answer y.code y.count (start + y.place) y.detail → x ≡ answer (end_code m.ending) m.count (start + m.place) (end_detail m.ending)
  numbers_told x p = p ∙ ap (λ (z : Numbers). answer z.code z.count (start + z.place) z.detail) e

module _ (full : Bool) (t : List ℕ) (start : ℕ) (a : List Level) (depth at n : ℕ) (ok : FinishOk t start a depth at n) where
  abbrev left : Reading
  left = view full t (state at true 0 (stack a depth))

  pub few_left : length left.recs + 2 * at ≤ 2 * length t + depth + 1
  few_left = rw stack_length at (few_listed t full (state at true 0 (stack a depth)) ok.within (rw stack_length ok.open'))

  pub count_fits : (m : Tally) → Measured full t a depth at n m → m.count < places
  count_fits m c = omega (arith, ap (λ (y : Numbers). y.count) c.same, few_left, ok)

  pub tell_ok : (m : Tally) → Measured full t a depth at n m → Fits m.count (start + m.place)
  tell_ok m c = record { count = count_fits m c; place = omega (arith, c.to, ok.text.fits) }

  -- how many records it needs room for
  abbrev N : ℕ
  N = n + length left.recs

  module _ (space : ℕ) (r : Answer) where
    -- room by the bound, or by the measure
    pub room_ample : r ≡ refusal 0 → n + 2 * (length t - at) + depth + 1 ≤ space → r ≡ room_refusal space N
    room_ample e h = e ∙ rw (le-ltb space N (omega (arith, few_left, ok.within)))

    pub room_measured : (m : Tally) → Measured full t a depth at n m → r ≡ refusal 0 → m.count ≤ space → r ≡ room_refusal space N
    room_measured m c e h = e ∙ rw (le-ltb space N (omega (arith, ap (λ (y : Numbers). y.count) c.same)))

    pub room_none : (m : Tally) → Measured full t a depth at n m → r ≡ no_room_for m.count → space < m.count → r ≡ room_refusal space N
    room_none m c e h =
        let k : m.count ≡ N = ap (λ (y : Numbers). y.count) c.same in
        e ∙ ap no_room_for k ∙ rw (lt-ltb space N (omega arith))

    module _ (q : r ≡ room_refusal space N) where
      pub roomy : r.code ≡ 0 → N ≤ space
      roomy e = choose_keeps (λ (x : Answer). x.code ≡ 0 → N ≤ space) (ltb space N) (λ _ z. absurd (omega arith)) (λ x z. ltb-false space N x) (ap (λ (x : Answer). x.code) (sym q) ∙ e)

      pub tight : (r.code ≡ 0 → ⊥) → ltb space N ≡ true
      tight z = go (ltb space N) refl
        where
          go : (b : Bool) → ltb space N ≡ b → ltb space N ≡ true
          go true e = e
          go false e = absurd (z (ap (λ (x : Answer). x.code) q ∙ rw e))

      -- into a row with so much room
      module _ (row : List ℕ) (is : space ≡ room row) where
        pub room_fill : r.code ≡ 0 → (above : ℕ) → above ≡ line_at t at → TextFill full t row start a depth at above n
        room_fill e above u = let h = roomy e in record { up = u; ok = text_ok t start a depth at n ok; fits = ok.text.fits; room = omega arith }

        pub filled_tell : (line : Bool) (row' : List ℕ) (m : Tally) → Filled full t row row' start a depth at n line m → Fits m.count (start + m.place)
        filled_tell line row' m f = tell_ok m f.counted

        pub room_finish : (line : Bool) (row' : List ℕ) (m : Tally) (x : Answer) → Filled full t row row' start a depth at n line m
            → x ≡ answer (end_code m.ending) m.count (start + m.place) (end_detail m.ending) → r.code ≡ 0 → Finished t row row' start (go n at full line (stack a depth)) x
        unfolding plan_answer plan_row answered written
        room_finish line row' m x f p z =
            let h = roomy z in
            let e : ltb (room row) N ≡ false = le-ltb (room row) N (omega arith) in
            record {
              answer = p ∙ ap (λ (y : Numbers). answer y.code y.count (start + y.place) y.detail) f.counted.same ∙ rw e;
              records = f.records ∙ rw e;
            }

        pub no_room_lem : (line : Bool) → (r.code ≡ 0 → ⊥) → Finished t row row start (go n at full line (stack a depth)) r
        unfolding plan_answer plan_row answered written
        no_room_lem line z =
            let k = tight z in
            let e : ltb (room row) N ≡ true = rw is at k in
            record { answer = q ∙ rw (k, e); records = rw e }
