-- `catalogue::parse` meets its contract. The loop's invariant: what the lines that are left give is what the text gives.
use mathlib.Core.Path.{◌≡◌, sym, ap, ◌∙◌}
use Prim.Native.Nat.{ℕ, ◌+◌, ◌≤◌, ◌<◌}
use mathlib.Core.Bool.{Bool, true, false}
use mathlib.Core.List.{List}
use lib.Dec.{eqb}
use borrow.Author.Tests.{eqb-true, eqb-false}
use native.Mathlib.Omega.{arith}
use lib.ListN.{length, length-take}
use Rattle.catalogue.specs.Catalogue.{parsed_of, line_at}
use Rattle.std.proofs.lemmas.Slice.{between_to_end}
use Rattle.catalogue.specs.declared.Catalogue.{Catalogue}
use Rattle.catalogue.proofs.Names.{all-grows}
use Rattle.catalogue.proofs.Reading.{topic, onward, parse-onward, onward-none, onward-done, onward-full, onward-bad, line-within, line-short, line-partitions, line-new, line-old}
use Rattle.catalogue.proofs.parse.Goals as goal
use Rattle.catalogue.proofs.parse.Goals.{In_ok-line}

-- what `is_empty` says of a slice
some : (s : List ℕ) {e : Bool} → e ≡ eqb (length s) 0 → e ≡ false → 0 < length s
some s q r = let n : length s ≡ 0 → ⊥ = eqb-false (length s) 0 (sym q ∙ r) in omega arith

none : (s : List ℕ) {e : Bool} → e ≡ eqb (length s) 0 → e ≡ true → length s ≡ 0
none s q r = eqb-true (length s) 0 (sym q ∙ r)

line : (c : In_ok-line) → topic c.in_ok-line.line.name c.in_ok-line.line.partitions ≡ line_at c.loop-rest.rest.now
line c = sym c.in_ok-line.was ∙ c.line_at.ensures

within : (c : In_ok-line) → c.in_ok-line.line.name + 3 ≤ length c.loop-rest.rest.now
within c = line-within c.loop-rest.rest.now c.in_ok-line.line.name c.in_ok-line.line.partitions (line c)

few : (c : In_ok-line) → (c.in_ok-line.line.name ≤ 16) × (1 ≤ c.in_ok-line.line.partitions) × (c.in_ok-line.line.partitions ≤ 8)
few c =
    let s = c.loop-rest.rest.now in
    let l = c.in_ok-line.line in
    omega (arith, line-short s l.name l.partitions (line c), line-partitions s l.name l.partitions (line c))

pub loop-rest-init : goal.loop-rest-init
loop-rest-init c =
    let s = c.args.text.now in (
      omega arith,
      omega (arith, ap (λ (k : Catalogue). k.all) c.blank-c.ensures),
      parse-onward s ∙ ap (λ (k : Catalogue). onward 0 k s) (sym c.blank-c.ensures),
    )

pub returns-then-t-eq-TOPICS_MAX : goal.returns-then-t-eq-TOPICS_MAX
returns-then-t-eq-TOPICS_MAX c =
    sym (c.loop-rest.invariant.2 ∙ onward-full c.loop-rest.t c.loop-rest.c c.loop-rest.rest.now c.if-t-eq-TOPICS_MAX.true (some c.loop-rest.rest.now c.is_empty.ensures c.loop-rest-test.true))

pub returns-in_err-line : goal.returns-in_err-line
returns-in_err-line c =
    ap parsed_of c.from_residual.ensures ∙ sym (c.loop-rest.invariant.2 ∙ onward-bad c.loop-rest.t c.loop-rest.c c.loop-rest.rest.now (omega arith) (some c.loop-rest.rest.now c.is_empty.ensures c.loop-rest-test.true) (sym c.in_err-line.was ∙ c.line_at.ensures))

pub returns-then-t-eq0 : goal.returns-then-t-eq0
returns-then-t-eq0 c = sym (c.loop-rest.invariant.2 ∙ onward-none c.loop-rest.t c.loop-rest.c c.loop-rest.rest.now c.if-t-eq0.true (none c.loop-rest.rest.now c.is_empty.ensures c.loop-rest-test.false))

pub returns : goal.returns
returns c = sym (c.loop-rest.invariant.2 ∙ onward-done c.loop-rest.t c.loop-rest.c c.loop-rest.rest.now c.if-t-eq0.false (none c.loop-rest.rest.now c.is_empty.ensures c.loop-rest-test.false))

pub slice_bounds-with_topic-end : goal.slice_bounds-with_topic-end
slice_bounds-with_topic-end c = omega (arith, within c, length-take c.in_ok-line.line.name c.loop-rest.rest.now)

pub with_topic-c-requires : goal.with_topic-c-requires
with_topic-c-requires c =
    omega (arith, few (goal.at.with_topic-c-requires c).In_ok-line, length-take c.in_ok-line.line.name c.loop-rest.rest.now)

pub returns-then-not-is_new : goal.returns-then-not-is_new
returns-then-not-is_new c =
    let s = c.loop-rest.rest.now in
    let l = c.in_ok-line.line in
    sym (c.loop-rest.invariant.2 ∙ line-old s l.name l.partitions (line (goal.at.returns-then-not-is_new c).In_ok-line) c.loop-rest.t c.loop-rest.c c.with_topic-c.result (omega arith) c.with_topic-c.ensures (sym c.is_new.ensures ∙ c.if-not-is_new.true))

pub overflow_add-rest : goal.overflow_add-rest
overflow_add-rest c = omega (arith, few (goal.at.overflow_add-rest c).In_ok-line)

pub slice_bounds-rest-count : goal.slice_bounds-rest-count
slice_bounds-rest-count c = within (goal.at.slice_bounds-rest-count c).In_ok-line

pub slice_bounds-rest-start : goal.slice_bounds-rest-start
slice_bounds-rest-start c = within (goal.at.slice_bounds-rest-start c).In_ok-line

pub loop-rest-preserved : goal.loop-rest-preserved
loop-rest-preserved c =
    let s = c.loop-rest.rest.now in
    let l = c.in_ok-line.line in
    let here = (goal.at.loop-rest-preserved c).In_ok-line in (
      omega arith,
      omega (arith, ap (λ (x : Catalogue). x.all) c.with_topic-c.ensures, all-grows c.loop-rest.c.all c.loop-rest.t l.partitions (omega (arith, few here)) (omega arith)),
      c.loop-rest.invariant.2
          ∙ line-new s l.name l.partitions (line here) c.loop-rest.t c.loop-rest.c c.with_topic-c.result (omega arith) c.with_topic-c.ensures (sym c.is_new.ensures ∙ c.if-not-is_new.false)
          ∙ ap (onward (c.loop-rest.t + 1) c.with_topic-c.result) (sym (between_to_end s (l.name + 3) (length s) (omega arith))),
    )
