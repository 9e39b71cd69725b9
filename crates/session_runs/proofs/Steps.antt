-- What each command does to a session is what its items do to the world.
use Prim.Native.Nat.{ℕ, ◌<◌}
use mathlib.Core.Path.{◌≡◌, refl, sym, ap, subst, ◌∙◌}
use mathlib.Core.Bool.{true, false, cond}
use mathlib.Core.List.{List, [], ◌∷◌}
use lib.IntN.{ℤ}
use lib.ListN.{length, get_or, set}
use lib.Seq.{set-get_or}
use Rattle.bits.specs.Bits.{member}
use Rattle.catalogue.specs.declared.Catalogue.{Catalogue}
use Rattle.coordinator.specs.Calls.{CoordinatorCall, action_of, call_typed}
use Rattle.partition.specs.Partition.{Action as PartitionAction, after as partition_after, words_after}
use Rattle.partition.specs.declared.Partition.{Partition}
use Rattle.partition.proofs.Fits.{Fits}
use Rattle.server.specs.Calls.{coordinator_does, partition_does, with_out}
use Rattle.server.specs.Produce.{produce}
use Rattle.server.proofs.ProduceCases.{produce-fits}
use Rattle.runs.specs.History.{History, Event}
use Rattle.runs.specs.World.{Leader, open_leader, Carrying, nothing, leader_does, own, call, call_produce, call_read, in_lists, is_ack, run}
use Rattle.agreement.proofs.Invariant.{Invariant}
use Rattle.agreement.proofs.Preserves.{log-of}
use Rattle.session.specs.Limits.{partitions}
use Rattle.session.specs.Memory.{Memory, memory, index_of, partition_at, words_at, server_at, with_server}
use Rattle.session.proofs.CommandSteps.{own-words}
use Rattle.session_runs.proofs.Positions.{position_of, all-positions, index-inside, lent-position}
use Rattle.session_runs.proofs.Worlds.{world, Held, Shown, coordinator-did, partition-did}

module _ (m : Memory) (leaders : List Leader) (k : Carrying) (h : History) (held : Held m leaders) where
  -- ---- a call of the coordinator

  pub coordinator-called : (c : CoordinatorCall) → call_typed c ≡ true → is_ack c ≡ false
      → Shown (run (call own c ∷ []) (world m leaders k h)) (with_server 0 m (coordinator_does (action_of c m.session.coordinator (length m.log)) (server_at 0 m)))
  unfolding run
  coordinator-called c t a = rw (t, a) (coordinator-did m leaders held 0 (action_of c m.session.coordinator (length m.log)) nothing _)

  -- ---- a call of a partition

  module _ (index : ℕ) (inside : index < partitions) (decide : Partition → ℕ → PartitionAction) (fits : (p : Partition) (n : ℕ) → Fits p n (decide p n)) where
    abbrev decided : PartitionAction
    decided = decide (partition_at m.session index) (length (words_at m.words index))

    -- what the leader at a position has then
    abbrev pub leader_left : ℕ → Leader
    leader_left x =
        let l = get_or leaders x (open_leader []) in
        let a = decide l.partition (length l.words) in
        record { partition = partition_after a l.partition; words = words_after a l.partition l.words }

    pub leader-held : (x : ℕ) → x ≡ position_of index → Held (with_server index m (partition_does decided (server_at index m))) (set leaders x (leader_left x))
    leader-held x at =
        subst (λ (y : ℕ). Held (with_server index m (partition_does decided (server_at index m))) (set leaders y (leader_left y))) (sym at)
        (subst (λ (a : PartitionAction). Held (with_server index m (partition_does decided (server_at index m)))
        (set leaders (position_of index) (record { partition = partition_after a (get_or leaders (position_of index) (open_leader [])).partition; words = words_after a (get_or leaders (position_of index) (open_leader [])).partition (get_or leaders (position_of index) (open_leader [])).words })))
        (ap (λ (l : Leader). decide l.partition (length l.words)) (sym (held.at_position index inside)))
        (partition-did m leaders held index inside decided (fits _ _)))

    pub leader-acted : (x : ℕ) → x ≡ position_of index → (e : Event) (next : Carrying)
        → let l = get_or leaders x (open_leader []) in
        Shown (leader_does x (decide l.partition (length l.words)) e next (world m leaders k h)) (with_server index m (partition_does decided (server_at index m)))
    leader-acted x at e next = record { leaders = _; carrying = next; history = _; is = refl; held = leader-held x at }

  -- ---- a reading

  read_left : (index : ℕ) (out : List ℕ) → with_server index m (with_out (server_at index m) out) ≡ memory m.session m.log m.words out
  read_left index out = rw (set-get_or, own-words m.words index)

  pub read-called : (index : ℕ) (out : List ℕ) (position from : ℕ) (given : List ℕ) → Shown (run (call_read own position from given ∷ []) (world m leaders k h)) (with_server index m (with_out (server_at index m) out))
  unfolding run
  read-called index out position from given =
      subst (Shown _) (sym (read_left index out))
      (record { leaders = leaders; carrying = nothing; history = h; is = refl; held = record { count = held.count; three = held.three; at_position = held.at_position } })

  -- nothing is done
  pub as-shown : Shown (run [] (world m leaders k h)) m
  unfolding run
  as-shown = record { leaders = leaders; carrying = k; history = h; is = refl; held = held }

  -- ---- Produce

  module _ (inv : Invariant (world m leaders k h)) where
    pub all-is : m.session.coordinator.catalogue.all ≡ 259
    all-is = ap (λ (c : Catalogue). c.all) (log-of (world m leaders k h) inv m.session.coordinator refl).written.catalogue-is ∙ all-positions

    pub produce-called : (name : List ℕ) (pid epoch : ℤ) (position : ℕ) (sequence : ℤ) (payload : ℕ) → in_lists (call_produce own 0 name pid epoch position sequence payload) ≡ true
        → let index = index_of position in
        let s = server_at index m in
        Shown (run (call_produce own 0 name pid epoch position sequence payload ∷ []) (world m leaders k h))
        (with_server index m (partition_does (produce s.coordinator s.partition (length s.words) name pid epoch position sequence payload).action s))
    unfolding run
    produce-called name pid epoch position sequence payload t =
        rw t
        (leader-acted (index_of position) (index-inside position) (λ (p : Partition) (n : ℕ). (produce m.session.coordinator p n name pid epoch position sequence payload).action)
        (λ p n. produce-fits m.session.coordinator p n name pid epoch position sequence payload) _
        (ap (λ (a : ℕ). cond (member a position) position 0) all-is ∙ lent-position position) _ nothing)
