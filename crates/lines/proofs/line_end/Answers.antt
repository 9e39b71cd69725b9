-- `lines::line_end` meets its contract.
use Prim.Native.Nat.{ℕ, ◌-◌}
use mathlib.Core.Path.{◌≡◌, ap, ◌∙◌}
use native.Mathlib.Omega.{arith}
use lib.ListN.{length, take, drop, length-drop}
use lib.Seq.{take_all}
use Rattle.std.proofs.lemmas.List.{take_min}
use Rattle.std.proofs.Common.{rules, tests}
use Rattle.std.proofs.lemmas.Iterator.{YieldsList-from_slice}
use Rattle.std.proofs.lemmas.Iterator.Search.{position_from_yields_List}
use Rattle.lines.specs.Text.{is_line_feed}
use Rattle.lines.specs.Cursor.{found_in, line_end}
use Rattle.lines.proofs.Ends.{Searched, found-none, found-some, end-past}
use Rattle.lines.proofs.line_end.Goals as goal
use Rattle.lines.proofs.line_end.Goals.{After-position}

searched : (c : After-position) → Searched c.iter.result.rest.now c.position.result
searched c =
    position_from_yields_List is_line_feed _ _ c.position.result c.position.ensures.ran (YieldsList-from_slice c.iter.result.rest.now cc) (λ x b q k. search (rules, tests))

part : (c : After-position) → c.iter.result.rest.now ≡ take c.args.len (drop c.args.from c.args.bytes.now)
part c =
    let b = c.args.bytes.now in
    let rest = c.in_ok-rest.rest.now in
    let behind : rest ≡ drop c.args.from b =
    (c.in_ok-rest.ensures {u = tt}).lookup.0.2 ∙ take_all (length b - c.args.from) (drop c.args.from b) (rw (length-drop c.args.from b) (omega arith)) in
    c.iter.ensures.rest ∙ ap (λ (k : ℕ). take k rest) c.min.ensures ∙ take_min c.args.len rest ∙ ap (take c.args.len) behind

pub returns-in_err-rest : goal.returns-in_err-rest
returns-in_err-rest c =
    c.from_residual.ensures ∙ end-past c.args.bytes.now c.args.from c.args.len (grind (arith, (c.in_err-rest.ensures {u = tt}).lookup))

pub returns-in_err-place : goal.returns-in_err-place
unfolding line_end
returns-in_err-place c =
    let p = (goal.at.returns-in_err-place c).After-position in
    c.from_residual-in_err-place.ensures ∙ found-none c.args.from c.iter.result.rest.now (searched p) (c.in_err-place.was {u = tt}) ∙ ap (found_in c.args.from) (part p)

pub returns : goal.returns
unfolding line_end
returns c =
    let p = (goal.at.returns c).After-position in
    found-some c.args.from c.iter.result.rest.now (searched p) (c.in_ok-place.was {u = tt}) ∙ ap (found_in c.args.from) (part p)
