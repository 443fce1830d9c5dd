-- Records, and how a reading ends, behind bytes that are put in.
use Rattle.std.specs.Prelude.{ℕ, ◌+◌, ◌≡◌, List, map, ltb}
use Rattle.choice.specs.Choice.{choose}
use Rattle.records.specs.Records.{Spanned, moved_by}
use Rattle.answers.specs.declared.Answer.{Answer}

-- n bytes put in at a place: a record that starts before it is as it was, any other has both places larger by n
unfoldable pub moved_behind : ℕ → ℕ → Spanned → Spanned
moved_behind place n r = choose (ltb r.start place) (λ _. r) (λ _. moved_by n r)

-- records, each of them so
abbrev pub all_moved_behind : ℕ → ℕ → List Spanned → List Spanned
all_moved_behind place n rs = map (moved_behind place n) rs

-- the kinds of records, in order
abbrev pub kinds_of : List Spanned → List ℕ
kinds_of rs = map (λ (r : Spanned). r.kind) rs

-- an answer b is an answer a but for its place, which is larger by n
pub record AnswerMoved (n : ℕ) (a b : Answer) : Type 0 where
  pub code : b.code ≡ a.code
  pub count : b.count ≡ a.count
  pub place : b.place ≡ n + a.place
  pub detail : b.detail ≡ a.detail
