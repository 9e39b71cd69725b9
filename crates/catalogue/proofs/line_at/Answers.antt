-- `catalogue::line_at` meets its contract.
use mathlib.Core.Path.{sym, ap, ◌∙◌}
use native.Mathlib.Omega.{arith}
use Prim.Native.Nat.{ℕ, ◌+◌, ◌-◌, ◌≤◌}
use lib.ListN.{get_or}
use borrow.Author.Tests.{le-leb}
use Rattle.catalogue.proofs.Reading.{between-true, LineParts, topic, no_line_lem, is-topic, line-fits, run-within, behind, first-behind}
use Rattle.catalogue.proofs.line_at.Goals as goal
use Rattle.catalogue.proofs.line_at.Goals.{Else-digit-gt56, then-name-lt1-via-then-name-lt1, then-name-lt1-via-else-name-lt1+then-name-gt-TOPIC_NAME_MAX, then-digit-lt49-via-then-digit-lt49, then-digit-lt49-via-else-digit-lt49+then-digit-gt56}

pub returns-then-name-lt1 : goal.returns-then-name-lt1
returns-then-name-lt1 c =
    no_line_lem c.args.text.now c.name_run-name.result c.name_run-name.ensures
    (λ p. elim c.then-name-lt1.branch [ then-name-lt1-via-then-name-lt1 w ↦ omega (arith, p.named) | then-name-lt1-via-else-name-lt1+then-name-gt-TOPIC_NAME_MAX w ↦ omega (arith, p.short) ])

pub slice_bounds-t-8-count : goal.slice_bounds-t-8-count
slice_bounds-t-8-count c = omega (arith, c.name_run-name.ensures, run-within c.args.text.now)

pub slice_bounds-t-9-start : goal.slice_bounds-t-9-start
slice_bounds-t-9-start c = omega (arith, c.name_run-name.ensures, run-within c.args.text.now)

pub returns-in_default : goal.returns-in_default
returns-in_default c =
    no_line_lem c.args.text.now c.name_run-name.result c.name_run-name.ensures
    (λ p. omega (arith, line-fits c.args.text.now c.name_run-name.result p, c.in_default.len_below))

pub returns-in_default-2 : goal.returns-in_default-2
returns-in_default-2 c =
    no_line_lem c.args.text.now c.name_run-name.result c.name_run-name.ensures
    (λ p. c.in_default.in_default-own.rest.1 (behind c.args.text.now c.name_run-name.result 2 ∙ p.feed))

pub returns-in_default-3 : goal.returns-in_default-3
returns-in_default-3 c =
    no_line_lem c.args.text.now c.name_run-name.result c.name_run-name.ensures
    (λ p. c.in_default.in_default-own.rest.1 (first-behind c.args.text.now c.name_run-name.result ∙ p.tab))

pub returns-then-digit-lt49 : goal.returns-then-digit-lt49
returns-then-digit-lt49 c =
    let s = c.args.text.now in
    let n = c.name_run-name.result in
    no_line_lem s n c.name_run-name.ensures
    (λ p. let d = between-true 49 56 (get_or s (n + 1) 0) p.digit in
    elim c.then-digit-lt49.branch [ then-digit-lt49-via-then-digit-lt49 w ↦ omega (arith, d, behind s n 1) | then-digit-lt49-via-else-digit-lt49+then-digit-gt56 w ↦ omega (arith, d, behind s n 1) ])

pub returns : goal.returns
returns c =
    let s = c.args.text.now in
    let n = c.name_run-name.result in
    let a : 49 ≤ get_or s (n + 1) 0 = omega (arith, behind s n 1) in
    let b : get_or s (n + 1) 0 ≤ 56 = omega (arith, behind s n 1) in
    let parts : LineParts s n =
    record {
      run = c.name_run-name.ensures;
      named = omega arith;
      short = omega arith;
      tab = sym (first-behind s n) ∙ c.in-9.in-9-own.keys1;
      digit = rw (le-leb 49 (get_or s (n + 1) 0) a, le-leb (get_or s (n + 1) 0) 56 b);
      feed = sym (behind s n 2) ∙ c.in-9.in-9-own'.keys1;
    } in
    ap (topic n) (c.from.ensures ∙ ap (λ (b : ℕ). b - 48) (behind s n 1)) ∙ is-topic s n parts
