-- `session_commands::put` meets its contract.
use Prim.Native.Nat.{ℕ}
use mathlib.Core.Path.{◌≡◌, refl}
use Rattle.answers.specs.Answers.{produce_reply}
use Rattle.answers.proofs.Returned.{error_passed}
use Rattle.server.specs.Produce.{produce as produce_decision}
use mir.Facts.{to_z-of_z}
use Rattle.partition.specs.declared.Partition.{Partition}
use native.Mathlib.Omega.{arith}
use lib.ListN.{length}
use borrow.Author.Rules.{rules}
use Rattle.numbers.proofs.Arrays.{length-mapped}
use Rattle.search.proofs.Laws.{default}
use Rattle.partition.specs.Partition.{open_partition}
use Rattle.session.specs.Limits.{partitions}
use Rattle.session.specs.Memory.{index_of}
use Rattle.session.proofs.CommandSteps.{partition-performs}
use Rattle.session_commands.proofs.put.Goals as goal

pub returns-in_err-offset : goal.returns-in_err-offset
returns-in_err-offset c log payloads =
    let a = c.args in
    let sized : length a.s.now.partitions ≡ partitions = search (rules, length-mapped) in
    rw (error_passed _ _ c.from_residual.ensures)
    (partition-performs a.s.now log a.words.now payloads (index_of a.position) produce_reply
    (λ (q : Partition) (n : ℕ). produce_decision a.s.now.coordinator q n a.name.now a.pid a.epoch a.position a.sequence a.payload)
    c.index_of-index.ensures.0 (default a.s.now.partitions c.index_of-index.result _ (open_partition 0) (omega (arith, sized, c.index_of-index.ensures.1))) c.words_start-start.ensures.0
    (rw (to_z-of_z c.ranges.pid, to_z-of_z c.ranges.epoch, to_z-of_z c.ranges.sequence) at c.in_err-offset.ensures) refl refl)

pub returns : goal.returns
returns c log payloads =
    let a = c.args in
    let sized : length a.s.now.partitions ≡ partitions = search (rules, length-mapped) in
    partition-performs a.s.now log a.words.now payloads (index_of a.position) produce_reply
    (λ (q : Partition) (n : ℕ). produce_decision a.s.now.coordinator q n a.name.now a.pid a.epoch a.position a.sequence a.payload)
    c.index_of-index.ensures.0 (default a.s.now.partitions c.index_of-index.result _ (open_partition 0) (omega (arith, sized, c.index_of-index.ensures.1))) c.words_start-start.ensures.0
    (rw (to_z-of_z c.ranges.pid, to_z-of_z c.ranges.epoch, to_z-of_z c.ranges.sequence) at c.in_ok-offset.ensures) refl refl
