-- `log_commands::on_log` meets its contract.
use mathlib.Core.Path.{◌≡◌, refl, sym, ap, ◌∙◌}
use mathlib.Core.List.{List}
use Prim.Native.Nat.{ℕ}
use mir.Syntax.{w16, w32, w64}
use mir.Val.{to_z, of_z}
use Rattle.command.specs.declared.Command.TheVariants.{Init, Add, End, Tick, Flush, Cut}
use Rattle.coordinator.specs.Calls.{init_call, add_call, end_call}
use Rattle.server.specs.Calls.{call}
use Rattle.std.specs.declared.result.Result.TheVariants.{Ok}
use Rattle.session.specs.declared.Results.TheVariants.{Nothing}
use Rattle.session.specs.Memory.{Memory, memory}
use Rattle.session.specs.Commands.{called, performed}
use Rattle.session.proofs.CommandSteps.{logged-as, nothing-on-log, named-as, same-init, same_add, same_end}
use borrow.Author.Rules.{rules}
use Rattle.log_commands.proofs.on_log.Goals as goal
use Rattle.log_commands.proofs.on_log.Goals.{Start, In-Init, In-Add, In-End, In-Tick}

abbrev entry : (c : Start) → List ℕ → List ℕ → Memory
entry c words payloads = let a = c.args in memory a.s.now a.log.now words payloads

init-timeout : (c : In-Init) → to_z w32 (of_z w32 c.in-Init.timeout) ≡ c.in-Init.timeout
init-timeout c = search rules

init-time : (c : In-Init) → to_z w64 (of_z w64 c.in-Init.time) ≡ c.in-Init.time
init-time c = search rules

add-pid : (c : In-Add) → to_z w64 (of_z w64 c.in-Add.pid) ≡ c.in-Add.pid
add-pid c = search rules

add-epoch : (c : In-Add) → to_z w16 (of_z w16 c.in-Add.epoch) ≡ c.in-Add.epoch
add-epoch c = search rules

add-time : (c : In-Add) → to_z w64 (of_z w64 c.in-Add.time) ≡ c.in-Add.time
add-time c = search rules

end-pid : (c : In-End) → to_z w64 (of_z w64 c.in-End.pid) ≡ c.in-End.pid
end-pid c = search rules

end-epoch : (c : In-End) → to_z w16 (of_z w16 c.in-End.epoch) ≡ c.in-End.epoch
end-epoch c = search rules

end-time : (c : In-End) → to_z w64 (of_z w64 c.in-End.time) ≡ c.in-End.time
end-time c = search rules

tick-time : (c : In-Tick) → to_z w64 (of_z w64 c.in-Tick.time) ≡ c.in-Tick.time
tick-time c = search rules

pub returns-in-Init : goal.returns-in-Init
returns-in-Init c words payloads =
    let a = c.args in
    let timeout = to_z w32 (of_z w32 c.in-Init.timeout) in
    let time = to_z w64 (of_z w64 c.in-Init.time) in
    logged-as (Init c.in-Init.name timeout time) a.line.now (entry (goal.at.returns-in-Init c).Start words payloads) c.init.result c.init.new.s (c.in-Init.is ∙ same-init c.in-Init.name (init-timeout (goal.at.returns-in-Init c).In-Init) (init-time (goal.at.returns-in-Init c).In-Init))
    (unfold performed in
    named-as (λ (name : List ℕ). called (call (init_call name timeout time)) 0 (entry (goal.at.returns-in-Init c).Start words payloads)) c.init.result c.init.new.s _ _ c.bytes_of.ensures (c.init.ensures words payloads))

pub returns-in-Add : goal.returns-in-Add
returns-in-Add c words payloads =
    let a = c.args in
    let pid = to_z w64 (of_z w64 c.in-Add.pid) in
    let epoch = to_z w16 (of_z w16 c.in-Add.epoch) in
    let time = to_z w64 (of_z w64 c.in-Add.time) in
    logged-as (Add c.in-Add.name pid epoch c.in-Add.set time) a.line.now (entry (goal.at.returns-in-Add c).Start words payloads) c.add.result c.add.new.s (c.in-Add.is ∙ same_add c.in-Add.name (add-pid (goal.at.returns-in-Add c).In-Add) (add-epoch (goal.at.returns-in-Add c).In-Add) (add-time (goal.at.returns-in-Add c).In-Add) c.in-Add.set)
    (unfold performed in
    named-as (λ (name : List ℕ). called (call (add_call name pid epoch c.in-Add.set time)) 0 (entry (goal.at.returns-in-Add c).Start words payloads)) c.add.result c.add.new.s _ _ c.bytes_of-in-Add.ensures (c.add.ensures words payloads))

pub returns-in-End : goal.returns-in-End
returns-in-End c words payloads =
    let a = c.args in
    let pid = to_z w64 (of_z w64 c.in-End.pid) in
    let epoch = to_z w16 (of_z w16 c.in-End.epoch) in
    let time = to_z w64 (of_z w64 c.in-End.time) in
    logged-as (End c.in-End.name pid epoch c.in-End.verdict time) a.line.now (entry (goal.at.returns-in-End c).Start words payloads) c.end.result c.end.new.s (c.in-End.is ∙ same_end c.in-End.name (end-pid (goal.at.returns-in-End c).In-End) (end-epoch (goal.at.returns-in-End c).In-End) (end-time (goal.at.returns-in-End c).In-End) c.in-End.verdict)
    (unfold performed in
    named-as (λ (name : List ℕ). called (call (end_call name pid epoch c.in-End.verdict time)) 0 (entry (goal.at.returns-in-End c).Start words payloads)) c.end.result c.end.new.s _ _ c.bytes_of-in-End.ensures (c.end.ensures words payloads))

pub returns-in-Tick : goal.returns-in-Tick
returns-in-Tick c words payloads =
    let a = c.args in
    let v = c.in-Tick.time in
    logged-as (Tick (to_z w64 (of_z w64 v))) a.line.now (entry (goal.at.returns-in-Tick c).Start words payloads) c.tick.result c.tick.new.s (c.in-Tick.is ∙ ap Tick (sym (tick-time (goal.at.returns-in-Tick c).In-Tick)))
    (unfold performed in c.tick.ensures words payloads)

pub returns-in-Flush : goal.returns-in-Flush
returns-in-Flush c words payloads =
    let a = c.args in
    logged-as Flush a.line.now (entry (goal.at.returns-in-Flush c).Start words payloads) c.flush.result c.flush.new.s c.in-Flush.is (unfold performed in c.flush.ensures a.log.now words payloads)

pub returns-in-Cut : goal.returns-in-Cut
returns-in-Cut c words payloads =
    let a = c.args in
    logged-as (Cut c.in-Cut.kept) a.line.now (entry (goal.at.returns-in-Cut c).Start words payloads) c.cut.result c.cut.new.s c.in-Cut.is (unfold performed in c.cut.ensures words payloads)

pub returns-in_default : goal.returns-in_default
returns-in_default c words payloads =
    let a = c.args in
    nothing-on-log a.command a.line.now (entry (goal.at.returns-in_default c).Start words payloads) (Ok Nothing) a.s.now c.in_default.in_default-own.keys7 (refl, refl)
