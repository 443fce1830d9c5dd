-- The audit, one record after another: the answer that is left to find stays the same, because the array holds the definition's stack.
-- Assumes nothing.
use Prim.Native.Nat.{ℕ, ◌+◌, ◌-◌, ◌<◌, ◌≤◌}
use mathlib.Core.Path.{◌≡◌, ◌∙◌}
use mathlib.Core.List.{List, ◌∷◌}
use mathlib.Core.Bool.{Bool, true, false}
use native.Mathlib.Omega.{arith}
use native.Mathlib.Numerals.{add-one}
use borrow.Author.Tests.{eq-eqb, ne_eqb, lt-ltb, le-ltb}
use lib.ListN.{length, get_or, set, length-set}
use Rattle.stacks.specs.Promises.{stack_in}
use Rattle.stacks.proofs.Laws.{stack_length, stack_off, stack_push}
use Rattle.token.specs.declared.Record.{Record}
use Rattle.token.specs.Brackets.{is_opener, is_closer, opener_of}
use Rattle.records.specs.Records.{rec_at, recs_in, room}
use Rattle.records.proofs.Recs.{recs_step, recs_none}
use Rattle.answers.specs.declared.Answer.{Answer}
use Rattle.answers.specs.Answers.{refusal, wrong_edit, is_above, found_at, too_many_open_at}
use Rattle.audit.specs.Audits.{most_open, closes_latest, audit_from, audit_of}
use Rattle.audit.specs.Promises.{open_in, Scan}

module _ (row : List ℕ) (old : ℕ) where
  -- code 5's test
  module _ (space : ℕ) (e : space ≡ room row) (b : Bool) (f : is_above space old ≡ b) where
    pub scan_refused : b ≡ true → (x : Answer) → x ≡ refusal wrong_edit → x ≡ audit_of row old
    unfolding audit_of
    scan_refused y x q = rw (q, ← e, f, y)

    pub scan_first : b ≡ false → (a : List ℕ) → length a ≡ most_open → Scan row old 0 a 0
    unfolding audit_of stack_in
    scan_first y a l = let z : old - 0 ≡ old = omega arith in record { array = l; few = omega arith; same = rw (z, ← e, f, y) }

  module _ (i : ℕ) (a : List ℕ) (depth : ℕ) (v : Scan row old i a depth) where
    -- a record more
    module _ (r : Record) (e : r ≡ rec_at row i) (h : i < old) where
      abbrev rest : List Record
      rest = recs_in row (i + 1) (old - (i + 1))

      -- what is left to find is the answer to it and to what follows
      left : audit_from i (open_in a depth) (r ∷ rest) ≡ audit_of row old
      left = rw (e, ← recs_step row i old h) v.same

      module _ (b : Bool) (o : is_opener r.kind ≡ b) (y : b ≡ true) where
        pub scan_many : depth ≡ most_open → (x : Answer) → x ≡ too_many_open_at i → x ≡ audit_of row old
        unfolding audit_from
        scan_many d x q = q ∙ rw (o, y, le-ltb _ _ full) at left
          where
            full : most_open ≤ length (open_in a depth)
            full = omega (arith, stack_length 0 a depth)

        pub scan_opener : (depth ≡ most_open → ⊥) → Scan row old (i + 1) (set a depth r.kind) (depth + 1)
        unfolding audit_from
        scan_opener n = record {
          array = length-set a depth r.kind ∙ v.array;
          few = omega (arith, v.few);
          same = rw (stack_push 0 a depth r.kind (omega (arith, v.few, v.array))) (rw (o, y, lt-ltb _ _ some, ← add-one i) at left);
        }
          where
            some : length (open_in a depth) < most_open
            some = omega (arith, stack_length 0 a depth, v.few)

      module _ (b : Bool) (o : is_opener r.kind ≡ b) (y : b ≡ false) (d : Bool) (c : is_closer r.kind ≡ d) where
        pub scan_other : d ≡ false → Scan row old (i + 1) a depth
        unfolding audit_from
        scan_other z = record { array = v.array; few = v.few; same = rw (o, y, c, z, ← add-one i) at left }

        module _ (z : d ≡ true) where
          pub scan_lone : depth ≡ 0 → (x : Answer) → x ≡ found_at i → x ≡ audit_of row old
          unfolding audit_from closes_latest stack_in
          scan_lone e x q = q ∙ rw (e, o, y, c, z) at left

          module _ (n : depth ≡ 0 → ⊥) (p : ℕ) (own : p ≡ opener_of r.kind) where
            top : open_in a depth ≡ get_or a (depth - 1) 0 ∷ open_in a (depth - 1)
            top = stack_off 0 a depth (omega arith)

            pub scan_mismatched : (get_or a (depth - 1) 0 ≡ p → ⊥) → (x : Answer) → x ≡ found_at i → x ≡ audit_of row old
            unfolding audit_from closes_latest
            scan_mismatched m x q = q ∙ rw (top, o, y, c, z, ← own, ne_eqb _ _ m) at left

            pub scan_closer : get_or a (depth - 1) 0 ≡ p → Scan row old (i + 1) a (depth - 1)
            unfolding audit_from closes_latest
            scan_closer m = record { array = v.array; few = omega (arith, v.few); same = rw (top, o, y, c, z, ← own, eq-eqb _ _ m, ← add-one i) at left }

    -- no record is left
    pub scan_end : i ≡ old → (x : Answer) → x ≡ found_at old → x ≡ audit_of row old
    unfolding audit_from
    scan_end e x q = q ∙ rw (recs_none row i old (omega arith), e) at v.same
