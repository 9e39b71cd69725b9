-- The parties of a run and what is lent to them: the coordinator with its log buffer, a leader for each partition, and the start of a run.
use Rattle.std.specs.Prelude.{ℕ, zero, suc, ◌-◌, ◌≡◌, true, List, [], ◌∷◌, ℤ, length, take, drop, get_or}
use Rattle.catalogue.specs.Limits.{positions}
use Rattle.catalogue.specs.Catalogue.{parse}
use Rattle.catalogue.specs.declared.Catalogue.{Catalogue}
use Rattle.record.specs.Reading.{Reading, Whole, Torn, Bad, read_frame}
use Rattle.coordinator.specs.Open.{opening}
use Rattle.coordinator.specs.declared.Coordinator.{Coordinator}
use Rattle.partition.specs.Partition.{open_partition}
use Rattle.partition.specs.declared.Partition.{Partition}
use Rattle.writable_logs.specs.Writer.{opening_typed, opening_reply}
use Rattle.runs.specs.History.{Order, record_appended, log_opened, History}

-- ---- the world

-- a partition leader: a partition's state and the words lent to it
pub record Leader : Type 0 where
  pub partition : Partition
  pub words : List ℕ

abbrev pub open_leader : List ℕ → Leader
open_leader words = record { partition = open_partition (length words); words = words }

-- the coordinator with its state, or, after a cut, the length that it left of the log and the coordinator epoch of the last accepted opening
pub data Phase : Type 0 where
  up : Coordinator → Phase
  down : ℕ → ℕ → Phase

-- what may still be carried: an order, by the number of the event that gave it, not yet given to its partition, or answered done there
pub data Carrying : Type 0 where
  nothing : Carrying
  to_deliver : ℕ → Order → Carrying
  to_acknowledge : ℕ → Order → Carrying

pub record World : Type 0 where
  pub text : List ℕ
  pub log : List ℕ
  pub phase : Phase
  -- by position
  pub leaders : List Leader
  pub carrying : Carrying
  pub history : History

-- the catalogue of the text
abbrev pub catalogue_of : World → Catalogue
catalogue_of w = (parse w.text).catalogue

-- the leader at a position; past the last position it is one that was lent no words
abbrev pub leader_at : World → ℕ → Leader
leader_at w x = get_or w.leaders x (open_leader [])

-- ---- the start

-- a torn or bad frame ends the reading
abbrev pub while_whole : Reading → History → History → History
while_whole Whole h more = more
while_whole Torn h more = h
while_whole Bad h more = h

-- the whole records of bytes that start at an offset of the log, as events, on top of those before
unfoldable pub records_read : Catalogue → ℕ → ℕ → List ℕ → History → History
records_read c zero at s h = h
records_read c (suc n) at s h =
    let f = read_frame c at s in
    while_whole f.reading h (records_read c n f.next (drop (f.next - at) s) (record_appended f.found f.next ∷ h))

-- "each partition opened once": one leader for each position; where the list of words has ended, no words are lent
unfoldable pub open_leaders : ℕ → List (List ℕ) → List Leader
open_leaders zero words = []
open_leaders (suc n) [] = open_leader [] ∷ open_leaders n []
open_leaders (suc n) (l ∷ words) = open_leader l ∷ open_leaders n words

-- the arguments of a first opening, and the words lent to each partition, by position
pub record FirstOpening : Type 0 where
  pub text : List ℕ
  pub log : List ℕ
  pub length : ℕ
  pub epoch : ℤ
  pub first : ℤ
  pub last : ℤ
  pub words : List (List ℕ)

-- the opening is accepted, and its numbers are of their types
abbrev pub Accepted : FirstOpening → Type 0
Accepted o =
    ((opening_reply o.text o.log o.length o.epoch o.first o.last).number ≡ 0)
    × (opening_typed o.epoch o.first o.last ≡ true)

-- "A run starts from an accepted opening of any log, each partition opened once."
abbrev pub start : FirstOpening → World
start o =
    record {
      text = o.text;
      log = o.log;
      phase = up (opening o.text o.log o.length o.epoch o.first o.last).state;
      leaders = open_leaders positions o.words;
      carrying = nothing;
      history = log_opened o.epoch ∷ records_read (parse o.text).catalogue o.length 0 (take o.length o.log) [];
    }
