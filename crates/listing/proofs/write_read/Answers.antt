-- `listing::write_read` meets its contract.
use mathlib.Core.Path.{◌≡◌, sym, ap, ◌∙◌}
use mathlib.Core.Bool.{true}
use native.Mathlib.Omega.{arith}
use lib.Dec.{eqb}
use lib.ListN.{length, take}
use Prim.Native.Nat.{ℕ}
use mathlib.Core.List.{List}
use Rattle.std.proofs.lemmas.List.{take_min}
use Rattle.text.proofs.Lines.{last-wrote}
use Rattle.listing.specs.Listing.{none}
use Rattle.listing.proofs.Payloads.{no-payloads}
use Rattle.listing.proofs.write_read.Goals as goal

pub returns-then-is_empty : goal.returns-then-is_empty
returns-then-is_empty c =
    let a = c.args in
    let p = a.payloads.now in
    let e : eqb (length (take c.min.result p)) 0 ≡ true = sym c.is_empty.ensures ∙ c.if-is_empty.true in
    let t : take c.min.result p ≡ take a.count p = ap (λ (k : ℕ). take k p) c.min.ensures ∙ take_min a.count p in
    let n = no-payloads (take a.count p) (ap (λ (l : List ℕ). eqb (length l) 0) (sym t) ∙ e) in
    (rw n (last-wrote none a.out.now a.at c.write_field.ensures), omega (arith, c.write_field.ensures.0))
