-- Beside demand 3, in every run: refusal 8 is for a slice of another length and nothing else, Read answers exactly the payloads under COMMIT, and
-- no pid is given twice.
use Rattle.std.specs.Prelude.{ℕ, ◌+◌, ◌≤◌, min, ◌≡◌, true, ◌&&◌, List, [], ◌∷◌, map, reverse, eqb, leb, ltb, pos, length, take, get_or}
use Rattle.std.proofs.Math.Option.{Option, none, some}
use Rattle.numbers.specs.Bytes.{overwrite}
use Rattle.record.specs.declared.Status.TheVariants.{Empty}
use Rattle.search.specs.Search.{is_found, found, filter, Each, EachAt}
use Rattle.answers.specs.Answers.{accepted, read_reply}
use Rattle.coordinator.specs.Coordinator.{admits}
use Rattle.partition.specs.Partition.{stable_end, admits as partition_admits}
use Rattle.partition.specs.Read.{stands_under, read_answer, read_out}
use Rattle.runs.specs.History.{Order, Produced, produced_in, WithBefore, collect_with_before, History, Logged, records_of, marker_over}
use Rattle.runs.specs.World.{Leader, Phase, up, down, World, leader_at, FirstOpening, start, Accepted, Item, run}

-- ---- refusal 8

-- "8 log buffer or partition slice not of the length it was opened with"
abbrev pub AdmitsLog : Phase → World → Type 0
AdmitsLog (up s) w = (n : ℕ) → admits s n ≡ eqb n (length w.log)
AdmitsLog (down n epoch) w = Unit {0}

-- Not met by an End that meets its own buffer with 8 because the reserve is spent, nor by a state that takes a longer slice.
pub record AdmitsExactly (w : World) : Type 0 where
  pub log : AdmitsLog w.phase w
  pub words : Each (λ (l : Leader). (n : ℕ) → partition_admits l.partition n ≡ eqb n (length l.words)) w.leaders

-- ---- Read

-- the data entries at a position with offsets from one up to another, in order
abbrev pub entries_between : ℕ → ℕ → ℕ → History → List (WithBefore Produced)
entries_between x from end h =
    reverse (filter (λ (e : WithBefore Produced). eqb e.what.position x && leb from e.what.offset && ltb e.what.offset end) (collect_with_before produced_in h))

-- those that stand under COMMIT, whose verdict is 0
abbrev pub committed_between : ℕ → ℕ → ℕ → History → List (WithBefore Produced)
committed_between x from end h = filter (λ (e : WithBefore Produced). found (λ (m : Order). eqb m.verdict 0) (marker_over h e)) (entries_between x from end h)

abbrev pub offsets : List (WithBefore Produced) → List ℕ
offsets entries = map (λ (e : WithBefore Produced). e.what.offset) entries

abbrev pub payloads : List (WithBefore Produced) → List ℕ
payloads entries = map (λ (e : WithBefore Produced). e.what.payload) entries

-- "copies payloads of data entries whose next marker of that pid is COMMIT, stops at the stable end or before one that doesn't fit, and answers
-- count and next offset; out past the count is untouched": entries and markers are the history's
pub record ReadsFrom (w : World) (x : ℕ) (l : Leader) (from : ℕ) (out : List ℕ) : Type 0 where
  pub answers : let entries = committed_between x from (stable_end l.partition) w.history in
      read_reply (read_answer l.partition l.words from out)
      ≡ accepted (pos (min (length out) (length entries)) ∷ pos (get_or (offsets entries) (length out) (stable_end l.partition)) ∷ [])
  pub copies : let entries = committed_between x from (stable_end l.partition) w.history in
      read_out l.partition l.words from out ≡ overwrite out 0 (take (length out) (payloads entries))

-- "kind (0 data, 1 COMMIT, 2 ABORT)" of a marker that an entry stands under, and 0 where it stands under none
abbrev pub kind_of : Option Order → ℕ
kind_of none = 0
kind_of (some m) = m.verdict + 1

-- Not met by a Read with a made-up count, nor by one that takes an entry for committed because its transaction is over.
pub record ReadsCommitted (w : World) : Type 0 where
  -- the marker that Read finds over an entry in the words is the history's
  pub stands-under : Each (λ (e : WithBefore Produced). let l = leader_at w e.what.position in
      stands_under l.words l.partition.end e.what.offset ≡ kind_of (marker_over w.history e)) (collect_with_before produced_in w.history)
  -- below the stable end every entry stands under a marker
  pub settled : EachAt (λ x (l : Leader). Each (λ (e : WithBefore Produced). is_found (marker_over w.history e) ≡ true) (entries_between x 0 (stable_end l.partition) w.history)) 0 w.leaders
  pub reads : EachAt (λ x (l : Leader). (from : ℕ) → from ≤ stable_end l.partition → (out : List ℕ) → ReadsFrom w x l from out) 0 w.leaders

-- ---- producer ids

-- a record that gives a new pid: "status 0, epoch 0, pid above all earlier ones"
pub record GivesPid (x : Logged) : Type 0 where
  pub status : x.content.status ≡ Empty
  pub epoch : x.content.epoch ≡ pos 0

-- Of the records that were appended and that no cut has undone.
-- Not met by an Init that gives a pid of its block again, nor by one that gives two names the same pid.
pub record PidsOnce (w : World) : Type 0 where
  -- no two names hold one pid
  pub one_name : Each (λ (x : Logged). Each (λ (y : Logged). x.content.pid ≡ y.content.pid → x.content.name ≡ y.content.name) (records_of w.history)) (records_of w.history)
  -- no pid is given twice
  pub given-once : Each (λ (x : Logged). Each (λ (y : Logged). GivesPid x → GivesPid y → x.content.pid ≡ y.content.pid → x.number ≡ y.number) (records_of w.history)) (records_of w.history)

-- ---- the statement

pub record InEveryRun : Type 0 where
  pub admits-exactly : (o : FirstOpening) → Accepted o → (items : List Item) → AdmitsExactly (run items (start o))
  pub reads-committed : (o : FirstOpening) → Accepted o → (items : List Item) → ReadsCommitted (run items (start o))
  pub pids-once : (o : FirstOpening) → Accepted o → (items : List Item) → PidsOnce (run items (start o))
