-- `listing::write_line` meets its contract.
use borrow.Author.Rules.{rules}
use Prim.Native.Nat.{◌+◌, ◌*◌, ◌≤◌}
use mathlib.Core.Path.{◌≡◌}
use native.Mathlib.Omega.{arith}
use lib.ListN.{length}
use Rattle.text.specs.Decimal.{decimal}
use Rattle.command.specs.Words.{word_at}
use Rattle.command.specs.Limits.{word_max}
use Rattle.listing.specs.Limits.{field_max}
use Rattle.listing.specs.Listing.{number_field, results_of, result_fields, reply_line}
use Rattle.listing.proofs.Writing.{decimal-short, line-behind}
use Rattle.listing.proofs.write_line.Goals as goal
use Rattle.listing.proofs.write_line.Goals.{After-write_number-next, After-write_field-next, After-write_field-next-2}

-- how far each has come, and that the buffer keeps its length
numbered : (c : After-write_number-next) → let a = c.args in
    (c.write_number-next.result ≤ a.at + word_max + field_max) × (length c.write_number-next.new.out ≡ length a.out.now)
numbered c =
    (omega (arith, c.write_word-next.ensures.1, c.write_number-next.ensures.1), omega (arith, c.write_word-next.auto.out, c.write_number-next.auto.out))

logged : (c : After-write_field-next) → let a = c.args in
    (c.write_field-next.result ≤ a.at + word_max + 2 * field_max) × (length c.write_field-next.new.out ≡ length a.out.now)
logged c =
    let numbered-here : let a = c.args in (c.write_number-next.result ≤ a.at + word_max + field_max) × (length c.write_number-next.new.out ≡ length a.out.now) = (omega (arith, c.write_word-next.ensures.1, c.write_number-next.ensures.1), omega (arith, c.write_word-next.auto.out, c.write_number-next.auto.out)) in
    let d = decimal-short c.args.log (search rules) in
    (omega (arith, d, c.write_field-next.ensures.0, numbered-here.0), omega (arith, c.write_field-next.auto.out, numbered-here.1))

flushed : (c : After-write_field-next-2) → let a = c.args in
    (c.write_field-next-2.result ≤ a.at + word_max + 3 * field_max) × (length c.write_field-next-2.new.out ≡ length a.out.now)
flushed c =
    let numbered-here : let a = c.args in (c.write_number-next.result ≤ a.at + word_max + field_max) × (length c.write_number-next.new.out ≡ length a.out.now) = (omega (arith, c.write_word-next.ensures.1, c.write_number-next.ensures.1), omega (arith, c.write_word-next.auto.out, c.write_number-next.auto.out)) in
    let logged-here : let a = c.args in (c.write_field-next.result ≤ a.at + word_max + 2 * field_max) × (length c.write_field-next.new.out ≡ length a.out.now) = (let d = decimal-short c.args.log (search rules) in (omega (arith, d, c.write_field-next.ensures.0, numbered-here.0), omega (arith, c.write_field-next.auto.out, numbered-here.1))) in
    let d = decimal-short c.args.flushed (search rules) in
    (omega (arith, d, c.write_field-next-2.ensures.0, logged-here.0), omega (arith, c.write_field-next-2.auto.out, logged-here.1))

pub write_field-next-requires : goal.write_field-next-requires
write_field-next-requires c =
    omega (arith, decimal-short c.args.log (search rules), (numbered (goal.at.write_field-next-requires c).After-write_number-next).0, (numbered (goal.at.write_field-next-requires c).After-write_number-next).1, c.requires)

pub write_field-next-requires-2 : goal.write_field-next-requires-2
write_field-next-requires-2 c =
    omega (arith, decimal-short c.args.flushed (search rules), (logged (goal.at.write_field-next-requires-2 c).After-write_field-next).0, (logged (goal.at.write_field-next-requires-2 c).After-write_field-next).1, c.requires)

pub write_results-next-requires : goal.write_results-next-requires
write_results-next-requires c =
    omega (arith, (flushed (goal.at.write_results-next-requires c).After-write_field-next-2).0, (flushed (goal.at.write_results-next-requires c).After-write_field-next-2).1, c.requires)

pub write_bytes-requires : goal.write_bytes-requires
write_bytes-requires c =
    omega (arith, c.write_results-next.ensures.1, c.write_results-next.auto.out, (flushed (goal.at.write_bytes-requires c).After-write_field-next-2).0, (flushed (goal.at.write_bytes-requires c).After-write_field-next-2).1, c.requires)

pub returns : goal.returns
unfolding reply_line
returns c =
    let a = c.args in
    let d = rw c.results_of.ensures at c.write_results-next.ensures.0 in (
      line-behind (word_at a.row) (number_field a.reply) (decimal a.log) (decimal a.flushed) (result_fields (results_of a.reply) a.payloads.now)
          a.out.now a.at c.write_word-next.ensures.0 c.write_number-next.ensures.0 c.write_field-next.ensures c.write_field-next-2.ensures d c.write_bytes.ensures
          (omega (arith, c.write_bytes.ensures.0, c.write_results-next.ensures.1, (flushed (goal.at.returns c).After-write_field-next-2).0, c.requires)),
      omega (arith, c.write_bytes.ensures.0, c.write_results-next.ensures.1, (flushed (goal.at.returns c).After-write_field-next-2).0),
    )
