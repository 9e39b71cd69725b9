-- `bits::member` meets its contract: from 64 on no position is a member.
use mathlib.Core.Path.{sym}
use native.Mathlib.Omega.{arith}
use Rattle.bits.proofs.Laws.{bit_high, member-is-not}
use Rattle.bits.proofs.member.Goals as goal

pub returns-else-p-lt64 : goal.returns-else-p-lt64
returns-else-p-lt64 c =
    let x = c.args.x in
    let p = c.args.p in
    sym (member-is-not x p (bit_high x 64 p c.ranges.x.fits (omega arith)))
