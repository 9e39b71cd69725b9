-- What a line does in a buffer.
use Prim.Native.Nat.{ℕ}
use mathlib.Core.Path.{◌≡◌, ap, subst, ◌∙◌}
use mathlib.Core.Bool.{true, false}
use mathlib.Core.List.{List}
use native.Mathlib.Omega.{arith}
use lib.Dec.{leb}
use lib.ListN.{length}
use borrow.Author.Tests.{leb-true, leb-false, lt-ltb, le-ltb}
use Rattle.numbers.specs.Bytes.{overwrite}
use Rattle.text.specs.Lines.{Wrote}
use Rattle.answers.specs.Answers.{Reply}
use Rattle.command.specs.Command.{command_of}
use Rattle.command.specs.declared.Command.{Command}
use Rattle.session.specs.Memory.{Memory, memory}
use Rattle.session.specs.Commands.{performed, Performs}
use Rattle.session.specs.Replies.{reply_of}
use Rattle.session.specs.declared.Results.{Results}
use Rattle.session.specs.declared.Session.{Session}
use Rattle.answers.specs.declared.OpenError.{OpenError}
use Rattle.std.specs.Prelude.{Result}
use Rattle.replies.specs.Shown.{line_shown, answer_line}
use Rattle.replies.specs.Reply.{reply, room_for, Responded, responded}

-- a line written at the front
abbrev with-memory : List ℕ → List ℕ → Memory → Responded
with-memory out answer x = record { written = length answer; memory = x; out = overwrite out 0 answer }

module _ (line : List ℕ) (m : Memory) (out : List ℕ) where
  -- no room: nothing is done
  pub too_short : leb (room_for (length m.payloads)) (length out) ≡ false → record { written = 0; memory = m; out = out } ≡ responded line m out
  unfolding responded
  too_short h = rw (lt-ltb (length out) (room_for (length m.payloads)) (leb-false _ _ h))

  module _ (response : Result Results OpenError) (s : Session) {log words payloads : List ℕ} {written : ℕ} {left : List ℕ} where
    -- a command is performed and its line written
    told_line : (command : Command) → Performs (performed command line m) response s log words payloads
        → Wrote (line_shown command (reply_of response payloads) s.coordinator.table.end s.coordinator.flushed) out 0 written left
        → let o = performed command line m in
        ◌≡◌ {A = Responded} (record { written = written; memory = memory s log words payloads; out = left })
        (record { written = length (answer_line command o); memory = o.memory; out = overwrite out 0 (answer_line command o) })
    unfolding answer_line
    told_line command (told, left-memory) (w, b) =
        let o = performed command line m in
        let same = ap (λ (p : Reply). line_shown command p s.coordinator.table.end s.coordinator.flushed) told
        ∙ ap (λ (x : Memory). line_shown command o.reply x.session.coordinator.table.end x.session.coordinator.flushed) left-memory in
        let n : written ≡ length (line_shown command (reply_of response payloads) s.coordinator.table.end s.coordinator.flushed) = omega (arith, w) in
        rw (n, b, same)
        (ap (with-memory out (answer_line command o)) left-memory)

    pub answered-line : {command : Command} → leb (room_for (length m.payloads)) (length out) ≡ true → command ≡ command_of line
        → Performs (performed command line m) response s log words payloads
        → Wrote (line_shown command (reply_of response payloads) s.coordinator.table.end s.coordinator.flushed) out 0 written left
        → record { written = written; memory = memory s log words payloads; out = left } ≡ responded line m out
    unfolding responded reply
    answered-line {command = command} h e p w =
        rw (le-ltb (length out) (room_for (length m.payloads)) (leb-true _ _ h))
        (subst (λ (k : Command). ◌≡◌ {A = Responded} (record { written = written; memory = memory s log words payloads; out = left })
        (record { written = length (answer_line k (performed k line m)); memory = (performed k line m).memory; out = overwrite out 0 (answer_line k (performed k line m)) })) e (told_line command p w))
