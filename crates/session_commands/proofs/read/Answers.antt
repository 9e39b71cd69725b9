-- `session_commands::read` meets its contract.
use mathlib.Core.Path.{◌≡◌, refl, sym, ◌∙◌}
use Rattle.answers.proofs.Returned.{error_passed}
use native.Mathlib.Omega.{arith}
use lib.ListN.{length}
use borrow.Author.Rules.{rules}
use Rattle.numbers.proofs.Arrays.{length-mapped}
use Rattle.search.proofs.Laws.{default}
use Rattle.partition.specs.Partition.{open_partition}
use Rattle.session.specs.Limits.{partitions}
use Rattle.session.specs.Memory.{index_of}
use Rattle.session.proofs.CommandSteps.{read-performs}
use Rattle.session_commands.proofs.read.Goals as goal

pub returns-then-not-member : goal.returns-then-not-member
returns-then-not-member c log =
    let e = sym c.member.ensures ∙ c.if-not-member.true in
    (rw e refl, rw e refl)

pub returns-in_err-copied : goal.returns-in_err-copied
returns-in_err-copied c log =
    let a = c.args in
    let sized : length a.s.now.partitions ≡ partitions = search (rules, length-mapped) in
    rw (error_passed _ _ c.from_residual.ensures, sym c.member.ensures ∙ c.if-not-member.false)
    (read-performs a.s.now log a.words.now a.payloads.now (index_of a.position) c.index_of-index.ensures.0 (default a.s.now.partitions c.index_of-index.result _ (open_partition 0) (omega (arith, sized, c.index_of-index.ensures.1))) c.words_start-start.ensures.0 c.in_err-copied.ensures.0 c.in_err-copied.ensures.1 refl)

pub returns : goal.returns
returns c log =
    let a = c.args in
    let sized : length a.s.now.partitions ≡ partitions = search (rules, length-mapped) in
    rw (sym c.member.ensures ∙ c.if-not-member.false)
    (read-performs a.s.now log a.words.now a.payloads.now (index_of a.position) c.index_of-index.ensures.0 (default a.s.now.partitions c.index_of-index.result _ (open_partition 0) (omega (arith, sized, c.index_of-index.ensures.1))) c.words_start-start.ensures.0 c.in_ok-copied.ensures.0 c.in_ok-copied.ensures.1 refl)
