-- `command::row_of` meets its contract.
use Prim.Native.Nat.{ℕ}
use mathlib.Core.List.{List}
use denote.Bor.{Bor}
use lib.ListN.{length}
use Rattle.std.proofs.Common.{ap, ◌∙◌, rules, tests}
use Rattle.std.proofs.lemmas.Iterator.{YieldsList-from_slice}
use Rattle.std.proofs.lemmas.Iterator.Search.{position_from_yields_List}
use Rattle.numbers.specs.Bytes.{same}
use Rattle.search.specs.Search.{first_where}
use Rattle.search.proofs.Std.{found_is}
use Rattle.command.proofs.row_of.Goals as goal

pub returns : goal.returns
unfolding first_where
returns c =
    let is = λ (word : Bor (List ℕ)). same c.args.run.now word.now in
    let all = c.iter-words.result.rest.now in
    let e = c.iter-words.ensures.rest in
    c.unwrap_or.ensures
    ∙ found_is is all c.position.result 10 (ap length e)
    (position_from_yields_List is _ _ c.position.result c.position.ensures.ran (YieldsList-from_slice all cc) (λ x b q k. search (rules, tests)))
    ∙ ap (first_where is) e
