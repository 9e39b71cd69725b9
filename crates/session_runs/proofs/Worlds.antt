-- The world of a session: what a call does to it is what the command does to the session.
use Prim.Native.Nat.{ℕ, ◌<◌}
use mathlib.Core.Path.{◌≡◌, refl, sym, ap, subst, ◌∙◌}
use mathlib.Core.Bool.{Bool, true, false}
use mathlib.Core.List.{List, []}
use native.Mathlib.Omega.{arith}
use lib.Dec.{eqb}
use lib.ListN.{length, get_or, set, length-set}
use lib.Seq.{get_or-set_same, get_or-set_other}
use borrow.Author.Tests.{eqb-true, eqb-false}
use Rattle.catalogue.specs.Limits.{positions}
use Rattle.coordinator.specs.Coordinator.{Action, after, log_after}
use Rattle.partition.specs.Partition.{open_partition, Action as PartitionAction, after as partition_after, words_after}
use Rattle.partition.proofs.Fits.{Fits, fits-length}
use Rattle.server.specs.Calls.{coordinator_does, partition_does}
use Rattle.server.specs.Lines.{catalogue_text}
use Rattle.runs.specs.History.{History}
use Rattle.runs.specs.World.{World, Leader, open_leader, up, Carrying}
use Rattle.session.specs.Limits.{partitions}
use Rattle.session.specs.Memory.{Memory, partition_at, share, words_at, server_at, with_server}
use Rattle.session.proofs.CommandSteps.{coordinator-left}
use Rattle.session.proofs.Parts.{length-share, with-same, with-other}
use Rattle.session_runs.specs.SessionRuns.{leader_of, SameServer}
use Rattle.session_runs.proofs.Positions.{position_of, position-low, positions-differ}

-- the world with the memory's server, and these leaders
abbrev pub world : Memory → List Leader → Carrying → History → World
world m leaders k h = record { text = catalogue_text; log = m.log; phase = up m.session.coordinator; leaders = leaders; carrying = k; history = h }

-- the leaders of the three positions are the partitions of the session
pub record Held (m : Memory) (leaders : List Leader) : Type 0 where
  pub count : length leaders ≡ positions
  pub three : length m.session.partitions ≡ partitions
  pub at_position : (index : ℕ) → index < partitions → get_or leaders (position_of index) (open_leader []) ≡ leader_of m index

pub record Shown (w : World) (m : Memory) : Type 0 where
  pub leaders : List Leader
  pub carrying : Carrying
  pub history : History
  pub is : w ≡ world m leaders carrying history
  pub held : Held m leaders

pub shown-server : (w : World) (m : Memory) → Shown w m → SameServer w m
shown-server w m s =
    record {
      text = ap (λ (v : World). v.text) s.is;
      log = ap (λ (v : World). v.log) s.is;
      phase = ap (λ (v : World). v.phase) s.is;
      scan-0 = ap (λ (v : World). get_or v.leaders 0 (open_leader [])) s.is ∙ s.held.at_position 0 (omega arith);
      scan-1 = ap (λ (v : World). get_or v.leaders 1 (open_leader [])) s.is ∙ s.held.at_position 1 (omega arith);
      cert-0 = ap (λ (v : World). get_or v.leaders 8 (open_leader [])) s.is ∙ s.held.at_position 2 (omega arith);
    }

module _ (m : Memory) (leaders : List Leader) (held : Held m leaders) where
  -- ---- the coordinator does something

  pub coordinator-did : (index : ℕ) (a : Action) (k : Carrying) (h : History)
      → let c = m.session.coordinator in
      Shown (record { text = catalogue_text; log = log_after a c m.log; phase = up (after a c); leaders = leaders; carrying = k; history = h }) (with_server index m (coordinator_does a (server_at index m)))
  coordinator-did index a k h =
      subst (Shown _) (sym (coordinator-left index m a))
      (record { leaders = leaders; carrying = k; history = h; is = refl; held = record { count = held.count; three = held.three; at_position = held.at_position } })

  -- ---- a partition does something

  module _ (index : ℕ) (inside : index < partitions) (a : PartitionAction)
      (fits : Fits (partition_at m.session index) (length (words_at m.words index)) a) where
    abbrev pub leader : Leader
    leader = get_or leaders (position_of index) (open_leader [])

    abbrev pub leader_after : Leader
    leader_after = record { partition = partition_after a leader.partition; words = words_after a leader.partition leader.words }

    abbrev pub memory_after : Memory
    memory_after = with_server index m (partition_does a (server_at index m))

    sized : length (words_after a (partition_at m.session index) (words_at m.words index)) ≡ share m.words
    sized = fits-length (partition_at m.session index) (words_at m.words index) a fits ∙ length-share m.words index inside

    here : get_or (set leaders (position_of index) leader_after) (position_of index) (open_leader []) ≡ leader_of memory_after index
    here =
        let low = position-low index inside in
        get_or-set_same leaders (position_of index) leader_after (open_leader []) (omega (arith, low, held.count))
        ∙ rw (held.at_position index inside, get_or-set_same m.session.partitions index _ (open_partition 0) (omega (arith, held.three)), with-same m.words index inside _ sized)

    at-index : (i : ℕ) → i < partitions → (b : Bool) → eqb i index ≡ b → get_or (set leaders (position_of index) leader_after) (position_of i) (open_leader []) ≡ leader_of memory_after i
    at-index i h true e = subst (λ (j : ℕ). get_or (set leaders (position_of index) leader_after) (position_of j) (open_leader []) ≡ leader_of memory_after j) (sym (eqb-true i index e)) here
    at-index i h false e =
        get_or-set_other leaders (position_of index) (position_of i) leader_after (open_leader []) (positions-differ i index h inside (eqb-false i index e))
        ∙ held.at_position i h
        ∙ rw (get_or-set_other m.session.partitions index i _ (open_partition 0) (eqb-false i index e), with-other m.words index inside _ sized i h (eqb-false i index e))

    pub partition-did : Held memory_after (set leaders (position_of index) leader_after)
    partition-did =
        record {
          count = length-set leaders (position_of index) leader_after ∙ held.count;
          three = length-set m.session.partitions index _ ∙ held.three;
          at_position = λ i h. at-index i h (eqb i index) refl;
        }
