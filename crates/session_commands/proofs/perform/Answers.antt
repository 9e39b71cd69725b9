-- `session_commands::perform` meets its contract.
use mathlib.Core.Path.{◌≡◌, refl, ap, ◌∙◌}
use mathlib.Core.List.{List, [], ◌∷◌}
use lib.IntN.{pos}
use Rattle.answers.specs.Answers.{accepted}
use Prim.Native.Nat.{ℕ}
use mir.Syntax.{w16, w32, w64}
use mir.Val.{to_z, of_z}
use Rattle.command.specs.declared.Command.TheVariants.{Put, Carry, Read, Left}
use Rattle.server.specs.Calls.{produce_call}
use Rattle.std.specs.declared.result.Result.TheVariants.{Ok}
use Rattle.session.specs.declared.Results.TheVariants.{Left as LeftCount}
use Rattle.session.specs.Memory.{memory, index_of}
use Rattle.session.specs.Commands.{called, performed}
use Rattle.session.proofs.CommandSteps.{performed-as, on-log-as, named-as, same-put}
use borrow.Author.Rules.{rules}
use borrow.Enum.Refused.{opened}
use Rattle.session_commands.proofs.perform.Goals as goal
use Rattle.session_commands.proofs.perform.Goals.{In-Put}

put-pid : (c : In-Put) → to_z w64 (of_z w64 c.in-Put.pid) ≡ c.in-Put.pid
put-pid c = search rules

put-epoch : (c : In-Put) → to_z w16 (of_z w16 c.in-Put.epoch) ≡ c.in-Put.epoch
put-epoch c = search rules

put-sequence : (c : In-Put) → to_z w32 (of_z w32 c.in-Put.sequence) ≡ c.in-Put.sequence
put-sequence c = search rules

pub returns-in-Put : goal.returns-in-Put
returns-in-Put c =
    let a = c.args in
    let pid = to_z w64 (of_z w64 c.in-Put.pid) in
    let epoch = to_z w16 (of_z w16 c.in-Put.epoch) in
    let position = c.in-Put.position in
    let sequence = to_z w32 (of_z w32 c.in-Put.sequence) in
    let payload = c.in-Put.payload in
    performed-as (Put c.in-Put.name pid epoch position sequence payload) a.line.now (let a = c.args in memory a.s.now a.log.now a.words.now a.payloads.now) c.put.result c.put.new.s (c.in-Put.is ∙ same-put c.in-Put.name (put-pid (goal.at.returns-in-Put c).In-Put) (put-epoch (goal.at.returns-in-Put c).In-Put) (put-sequence (goal.at.returns-in-Put c).In-Put) position payload)
    (unfold performed in
    named-as (λ (name : List ℕ). called (produce_call name pid epoch position sequence payload) (index_of position) (let a = c.args in memory a.s.now a.log.now a.words.now a.payloads.now)) c.put.result c.put.new.s _ _ c.bytes_of-name.ensures (c.put.ensures a.log.now a.payloads.now))

pub returns-in-Carry : goal.returns-in-Carry
returns-in-Carry c =
    let a = c.args in
    performed-as (Carry c.in-Carry.up) a.line.now (let a = c.args in memory a.s.now a.log.now a.words.now a.payloads.now) c.carry.result c.carry.new.s c.in-Carry.is (unfold performed in c.carry.ensures a.payloads.now)

pub returns-in-Read : goal.returns-in-Read
returns-in-Read c =
    let a = c.args in
    performed-as (Read c.in-Read.position) a.line.now (let a = c.args in memory a.s.now a.log.now a.words.now a.payloads.now) c.read.result a.s.now c.in-Read.is (unfold performed in c.read.ensures a.log.now)

pub returns-in-Left : goal.returns-in-Left
returns-in-Left c =
    let a = c.args in
    performed-as (Left c.in-Left.place) a.line.now (memory a.s.now a.log.now a.words.now a.payloads.now) (Ok (LeftCount c.left.result)) a.s.now c.in-Left.is
    (unfold performed in (ap (λ (count : ℕ). accepted (pos count ∷ [])) c.left.ensures, refl))

pub returns-in_default : goal.returns-in_default
returns-in_default c =
    let a = c.args in
    on-log-as a.command a.line.now (let a = c.args in memory a.s.now a.log.now a.words.now a.payloads.now) c.on_log.result c.on_log.new.s (opened c.in_default.in_default-own.keys5) (c.on_log.ensures a.words.now a.payloads.now)
