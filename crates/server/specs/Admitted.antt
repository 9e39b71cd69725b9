-- Refusal 8 is for a slice of another length and for nothing else, in every state that an opening and any calls lead to.
use Rattle.std.specs.Prelude.{ℕ, ◌≡◌, List, [], ◌∷◌, eqb, ℤ, length}
use Rattle.answers.specs.Answers.{open_reply}
use Rattle.coordinator.specs.Coordinator.{admits}
use Rattle.coordinator.specs.Open.{opening}
use Rattle.partition.specs.Partition.{open_partition, admits as partition_admits}
use Rattle.server.specs.Calls.{Server, Call, answer_of, after_call}
use Rattle.server.specs.Lines.{after_all}

-- a server after an opening, whatever that answered, and with a partition opened
abbrev pub opened_with : List ℕ → List ℕ → ℕ → ℤ → ℤ → ℤ → List ℕ → List ℕ → Server
opened_with text log n epoch first last words out =
    record { coordinator = (opening text log n epoch first last).state; log = log; partition = open_partition (length words); words = words; out = out }

-- what comes next: a call, or other buffers that are lent to the calls from then on
pub data Next : Type 0 where
  makes : Call → Next
  -- `out` is the slice to read into
  lend : (log words out : List ℕ) → Next

abbrev pub after_next : Next → Server → Server
after_next (makes c) s = after_call c s
after_next (lend log words out) s = record { coordinator = s.coordinator; log = log; partition = s.partition; words = words; out = out }

unfoldable pub after_each : List Next → Server → Server
after_each [] s = s
after_each (x ∷ xs) s = after_each xs (after_next x s)

-- "8 log buffer or partition slice not of the length it was opened with"
pub record Admits (s : Server) : Type 0 where
  pub of-log : (n : ℕ) → admits s.coordinator n ≡ eqb n s.coordinator.room
  pub of_words : (n : ℕ) → partition_admits s.partition n ≡ eqb n s.partition.room

pub record Admitted : Type 0 where
  -- with whatever buffers and calls
  pub another-length : (text log : List ℕ) (n : ℕ) (epoch first last : ℤ) (words out : List ℕ) (xs : List Next) → Admits (after_each xs (opened_with text log n epoch first last words out))
  -- after an accepted opening, with the buffers that were opened, no call is refused with 8
  pub own-length : (text log : List ℕ) (n : ℕ) (epoch first last : ℤ) (words out : List ℕ) → (open_reply (opening text log n epoch first last).answer).number ≡ 0 → (calls : List Call) (c : Call)
      → (answer_of c (after_all calls (opened_with text log n epoch first last words out))).number ≡ 8
      → ⊥
