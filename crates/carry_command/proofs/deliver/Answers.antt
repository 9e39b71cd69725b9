-- `carry_command::deliver` meets its contract.
use Prim.Native.Nat.{ℕ, ◌-◌, ◌+◌}
use mathlib.Core.Path.{◌≡◌, refl, sym, ap, ◌∙◌}
use mathlib.Core.List.{List}
use native.Mathlib.Omega.{arith}
use lib.ListN.{length}
use Rattle.numbers.proofs.Arrays.{length-mapped}
use Rattle.search.proofs.Laws.{default}
use Rattle.partition.specs.Partition.{open_partition}
use Rattle.session.specs.Limits.{partitions}
use mir.Syntax.{w16, w32, w64}
use mir.Val.{to_z, of_z}
use borrow.Author.Rules.{rules}
use Rattle.answers.specs.Answers.{Reply, reply}
use Rattle.std.specs.declared.result.Result.TheVariants.{Err}
use Rattle.answers.specs.declared.OpenError.TheVariants.{Refused}
use Rattle.answers.proofs.Returned.{number-positive, error_passed}
use Rattle.partition.specs.Marker.{marker as marker_decision}
use Rattle.server.specs.Calls.{marker_call}
use Rattle.partition.specs.declared.Partition.{Partition}
use Rattle.session.specs.Memory.{memory, index_of, partition_at}
use Rattle.session.specs.Commands.{Outcome, called, acknowledges, Performs}
use Rattle.session.proofs.CommandSteps.{partition-performs, goes_on_lem, stops}
use Rattle.carry_command.proofs.deliver.Goals as goal
use Rattle.carry_command.proofs.deliver.Goals.{Start}

-- what Marker does
abbrev marked : (c : Start) → List ℕ → Outcome
marked c payloads =
    let a = c.args in
    let o = a.order in
    called (marker_call o.place o.pid o.epoch o.verdict o.coordinator) (index_of o.position) (memory a.s.now a.log.now a.words.now payloads)

pub returns-in_err-marker : goal.returns-in_err-marker
returns-in_err-marker c payloads =
    let a = c.args in
    let o = a.order in
    let p : to_z w64 (of_z w64 o.pid) ≡ o.pid = search rules in
    let q : to_z w16 (of_z w16 o.epoch) ≡ o.epoch = search rules in
    let k : to_z w32 (of_z w32 o.coordinator) ≡ o.coordinator = search rules in
    let sized : length a.s.now.partitions ≡ partitions = search (rules, length-mapped) in
    let done = partition-performs a.s.now a.log.now a.words.now payloads (index_of o.position) reply
    (λ (x : Partition) (n : ℕ). marker_decision x n o.place o.pid o.epoch o.verdict o.coordinator)
    c.index_of-index.ensures.0 (default a.s.now.partitions c.index_of-index.result _ (open_partition 0) (omega (arith, sized, c.index_of-index.ensures.1))) c.words_start-start.ensures.0
    (rw (p, q, k) at c.in_err-marker.ensures) refl refl in
    rw (error_passed _ _ c.from_residual.ensures)
    (stops (marked (goal.at.returns-in_err-marker c).Start payloads) (acknowledges o.place o.pid o.epoch o.verdict o.position) (Err (Refused c.in_err-marker.field-0.0)) _
    (λ z. number-positive c.in_err-marker.field-0.0 (ap (λ (x : Reply). x.number) done.0 ∙ z)) done)

pub returns : goal.returns
returns c payloads =
    let a = c.args in
    let o = a.order in
    let p : to_z w64 (of_z w64 o.pid) ≡ o.pid = search rules in
    let q : to_z w16 (of_z w16 o.epoch) ≡ o.epoch = search rules in
    let k : to_z w32 (of_z w32 o.coordinator) ≡ o.coordinator = search rules in
    let sized : length a.s.now.partitions ≡ partitions = search (rules, length-mapped) in
    let done = partition-performs a.s.now a.log.now a.words.now payloads (index_of o.position) reply
    (λ (x : Partition) (n : ℕ). marker_decision x n o.place o.pid o.epoch o.verdict o.coordinator)
    c.index_of-index.ensures.0 (default a.s.now.partitions c.index_of-index.result _ (open_partition 0) (omega (arith, sized, c.index_of-index.ensures.1))) c.words_start-start.ensures.0
    (rw (p, q, k) at c.in_ok-marker.ensures) refl refl in
    goes_on_lem (marked (goal.at.returns c).Start payloads) (acknowledges o.place o.pid o.epoch o.verdict o.position) c.acknowledge.result c.acknowledge.new.s
    (sym (ap (λ (x : Reply). x.number) done.0)) done.1 (c.acknowledge.ensures _ payloads)
