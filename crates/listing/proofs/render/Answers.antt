-- `listing::render` meets its contract.
use native.Mathlib.Omega.{arith}
use Prim.Native.Nat.{◌+◌, ◌≤◌}
use lib.ListN.{length}
use Rattle.listing.specs.Limits.{line_max}
use Rattle.listing.proofs.Whole.{no_room, rendered, place-past, room-fixed, room-payloads, room-enough}
use Rattle.listing.proofs.render.Goals as goal
use Rattle.listing.proofs.render.Goals.{Else-room-payloads}

-- the buffer has room for every line
enough : (c : Else-room-payloads) → let a = c.args in a.at + line_max (length a.payloads.now) ≤ length a.out.now
enough c =
    let a = c.args in
    room-enough (length a.out.now) a.at (length a.payloads.now) c.if-out-at.false c.if-room-lt-FIELDS_FIXED.false c.if-room-payloads.false

pub returns-then-out-at : goal.returns-then-out-at
returns-then-out-at c =
    let a = c.args in
    let p = no_room a.row a.reply a.log a.flushed a.payloads.now a.out.now a.at
    (place-past (length a.out.now) a.at (length a.payloads.now) c.if-out-at.true) in
    record {
      answer = p.0;
      bytes = p.1;
      within = tt;
    }

pub returns-then-room-lt-FIELDS_FIXED : goal.returns-then-room-lt-FIELDS_FIXED
returns-then-room-lt-FIELDS_FIXED c =
    let a = c.args in
    let p = no_room a.row a.reply a.log a.flushed a.payloads.now a.out.now a.at
    (room-fixed (length a.out.now) a.at (length a.payloads.now) c.if-out-at.false c.if-room-lt-FIELDS_FIXED.true) in
    record {
      answer = p.0;
      bytes = p.1;
      within = tt;
    }

pub returns-then-room-payloads : goal.returns-then-room-payloads
returns-then-room-payloads c =
    let a = c.args in
    let p = no_room a.row a.reply a.log a.flushed a.payloads.now a.out.now a.at
    (room-payloads (length a.out.now) a.at (length a.payloads.now) c.if-out-at.false c.if-room-payloads.true) in
    record {
      answer = p.0;
      bytes = p.1;
      within = tt;
    }

pub write_line-requires : goal.write_line-requires
write_line-requires c = enough (goal.at.write_line-requires c).Else-room-payloads

pub returns : goal.returns
returns c =
    let a = c.args in
    let v = c.write_line.ensures in
    let p = rendered a.row a.reply a.log a.flushed a.payloads.now a.out.now a.at (enough (goal.at.returns c).Else-room-payloads) v.0 in
    record {
      answer = p.0;
      bytes = p.1;
      within = omega (arith, v.1, enough (goal.at.returns c).Else-room-payloads);
    }
