-- Laws of the whole line, by whether the buffer has room for it.
use Prim.Native.Nat.{ℕ, ◌+◌, ◌/◌, ◌-◌, ◌≤◌, ◌<◌}
use mathlib.Core.Path.{◌≡◌, ap}
use mathlib.Core.List.{List}
use native.Mathlib.Omega.{arith}
use borrow.Author.Tests.{lt-ltb, le-ltb}
use lib.ListN.{length}
use Rattle.text.specs.Lines.{Wrote}
use Rattle.listing.specs.Limits.{field_max, fields_fixed, line_max}
use Rattle.listing.specs.Listing.{reply_line, render_answer, render_bytes}
use Rattle.listing.specs.declared.Reply.{Reply}
use Rattle.std.specs.Prelude.{Some, None}

module _ (row : ℕ) (reply : Reply) (log flushed : ℕ) (payloads out : List ℕ) (at : ℕ) where
  pub no_room : length out < at + line_max (length payloads)
      → (None ≡ render_answer row reply log flushed payloads out at) × (out ≡ render_bytes row reply log flushed payloads out at)
  unfolding render_answer render_bytes
  no_room h = (rw (lt-ltb (length out) (at + line_max (length payloads)) h), rw (lt-ltb (length out) (at + line_max (length payloads)) h))

  pub rendered : {next : ℕ} {after : List ℕ} → at + line_max (length payloads) ≤ length out → Wrote (reply_line row reply log flushed payloads) out at next after
      → (Some next ≡ render_answer row reply log flushed payloads out at) × (after ≡ render_bytes row reply log flushed payloads out at)
  unfolding render_answer render_bytes
  rendered h w =
      (rw (le-ltb (length out) (at + line_max (length payloads)) h) (ap Some w.0), rw (le-ltb (length out) (at + line_max (length payloads)) h) w.1)

-- the tests of the function
module _ (n at payloads : ℕ) where
  pub place-past : n < at → n < at + line_max payloads
  place-past h = omega arith

  pub room-fixed : at ≤ n → (n - at) / field_max < fields_fixed → n < at + line_max payloads
  room-fixed h r = omega arith

  pub room-payloads : at ≤ n → (n - at) / field_max - fields_fixed < payloads → n < at + line_max payloads
  room-payloads h r = omega arith

  pub room-enough : at ≤ n → fields_fixed ≤ (n - at) / field_max → payloads ≤ (n - at) / field_max - fields_fixed → at + line_max payloads ≤ n
  room-enough h f r = omega arith
