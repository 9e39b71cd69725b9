-- `replies::respond` meets its contract.
use lib.ListN.{length}
use Rattle.replies.specs.Reply.{room_for}
use mathlib.Core.Path.{sym, ◌∙◌}
use native.Mathlib.Omega.{arith}
use borrow.Author.Tests.{leb-true}
use Rattle.session.specs.Memory.{memory}
use Rattle.replies.proofs.Room.{too_short, answered-line}
use Rattle.replies.proofs.respond.Goals as goal

pub returns-then-not-has_room : goal.returns-then-not-has_room
returns-then-not-has_room c =
    let a = c.args in
    (too_short a.line.now (memory a.s.now a.log.now a.words.now a.payloads.now) a.out.now (sym c.has_room.ensures ∙ c.if-not-has_room.true), omega arith)

pub write_reply-requires : goal.write_reply-requires
write_reply-requires c =
    let a = c.args in
    let room = leb-true (room_for (length a.payloads.now)) (length a.out.now) (sym c.has_room.ensures ∙ c.if-not-has_room.false) in
    omega (arith, room, c.perform-response.auto)

pub returns : goal.returns
returns c =
    let a = c.args in
    (answered-line a.line.now (memory a.s.now a.log.now a.words.now a.payloads.now) a.out.now c.perform-response.result c.perform-response.new.s (sym c.has_room.ensures ∙ c.if-not-has_room.false) c.parse-command.ensures c.perform-response.ensures c.write_reply.ensures.0, omega (arith, c.write_reply.ensures.1, c.write_reply.auto))
