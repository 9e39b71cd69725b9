-- `replies::write_reply` meets its contract.
use mathlib.Core.Path.{◌≡◌, sym, ◌∙◌}
use Rattle.replies.specs.Rendering.{numbers_listed}
use Rattle.replies.proofs.Lines.{wrote-line, own-listed, lent-listed}
use Rattle.replies.proofs.write_reply.Goals as goal
use Rattle.replies.proofs.write_reply.Goals.{in-Some, in-None}

listed : (c : goal.After-unwrap_or) → c.match-own.listed.now ≡ numbers_listed c.args.response c.args.payloads.now
listed c =
    let a = c.args in
    elim c.match-own.branch [
      | in-Some w ↦ rw (w.listed-is, w.as_slice-listed.ensures) (own-listed a.response a.payloads.now (sym w.in-Some.is ∙ c.own_numbers-own.ensures))
      | in-None w ↦ rw w.listed-is (lent-listed a.response a.payloads.now (sym w.in-None.is ∙ c.own_numbers-own.ensures))
    ]

pub returns : goal.returns
returns c =
    let a = c.args in
    wrote-line a.command a.response a.payloads.now a.out.now a.end a.flushed c.requires c.row_of_command-row.ensures c.reply_rendered-reply.ensures
    (listed c) (c.render.ensures.answer, (c.render.ensures.bytes, c.render.ensures.within)) c.unwrap_or.ensures
