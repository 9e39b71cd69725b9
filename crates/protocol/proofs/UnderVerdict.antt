-- Every entry of a completed prepare's transaction stands under its verdict.
use Prim.Native.Nat.{ℕ, ◌+◌}
use mathlib.Core.Path.{◌≡◌, sym, ap, subst, ◌∙◌}
use mathlib.Core.Bool.{true, true≢false, ◌&&◌}
use mathlib.Core.List.{List}
use mathlib.Core.Option.{none, some}
use native.Mathlib.Omega.{arith}
use lib.Dec.{eqb, leb, ltb}
use lib.ListN.{length}
use borrow.Author.Tests.{leb-true, ltb-true}
use Rattle.numbers.specs.Bytes.{same}
use Rattle.numbers.proofs.Tests.{and_left, and_right}
use Rattle.numbers.proofs.Bytes.{same_true}
use Rattle.catalogue.specs.declared.Catalogue.{Catalogue}
use Rattle.record.specs.Record.{status_code}
use Rattle.search.specs.Search.{found, Each}
use Rattle.search.proofs.Found.{some_same, is_found_lem, found-with}
use Rattle.search.proofs.Members.{In, in-each}
use Rattle.search.proofs.Find.{each-filter}
use Rattle.row.specs.Row.{is_prepare}
use Rattle.row.proofs.Laws.{prepare-code}
use Rattle.runs.specs.History.{History, events_before, prepared_before, number_after, Logged, records_of, next_of, is_completed, completed_prepares, transaction, marker_over}
use Rattle.runs.specs.Demand3.{StandsUnder}
use Rattle.protocol.specs.RecordsOfName.{latest_in, nth_prepare}
use Rattle.protocol.specs.Entries.{Entry, entries_of, ordinal_of, under_of}
use Rattle.protocol.specs.HistoryInvariant.{Stage, begun, prepared, OpenTransaction, Closes, Standing, still_open, closed, InTransaction, HistoryInvariant}
use Rattle.protocol.proofs.AfterPrepare.{latest-last}
use Rattle.protocol.proofs.Ordinals.{nth-below, nth-latest}
use Rattle.protocol.proofs.Consequences.{ordinal-is, standing-now}
use Rattle.protocol.proofs.MarkerOver.{under-over, over-verdict}

-- an entry of a completed prepare's transaction
under-completed : (c : Catalogue) (h : History) → HistoryInvariant c h → (q : Logged) → In q (records_of h) → is_completed h q ≡ true → (p : Entry) → In p (entries_of h) → InTransaction h q p
    → status_code q.content.status ≡ under_of h p + 1
under-completed c h t q i e p j w = go (standing-now c h t p j)
  where
    prepares : is_prepare q.content.status ≡ true
    prepares = and_left (is_prepare q.content.status) _ e

    is : nth_prepare p.what.name (ordinal_of p) (records_of h) ≡ some q
    is = ordinal-is c h t q i prepares p j w

    not-latest : next_of q h ≡ none → ⊥
    not-latest n =
        let k : found (λ (x : Logged). eqb (status_code x.content.status) (status_code q.content.status + 2)) (next_of q h) ≡ true = and_right (is_prepare q.content.status) _ e in
        true≢false (sym (rw n at k))

    latest-q : latest_in p.what.name (records_of h) ≡ some q → ⊥
    latest-q l = not-latest (latest-last q (length h) (records_of h) t.numbered (subst (λ (n : List ℕ). latest_in n (records_of h) ≡ some q) w.name l))

    open-case : (l : Logged) → latest_in p.what.name (records_of h) ≡ some l → Stage p (records_of h) l → ⊥
    open-case l f (begun s v) = let b = nth-below p.what.name (records_of h) (ordinal_of p) q is in omega arith
    open-case l f (prepared s v b) =
        let same : l ≡ q = some_same (sym (nth-latest p.what.name (records_of h) (ordinal_of p) l f s v) ∙ is) in
        latest-q (f ∙ ap some same)

    go : Standing (under_of h p) (records_of h) p → status_code q.content.status ≡ under_of h p + 1
    go (still_open z f) = found-with (OpenTransaction p (records_of h)) (latest_in p.what.name (records_of h)) f (λ l g b. absurd (open-case l g b.stage))
    go (closed f) = (is_found_lem (Closes (under_of h p) p) is f).verdict

pub under-verdict : (c : Catalogue) (h : History) → HistoryInvariant c h → Each (λ (q : Logged). Each (StandsUnder h q.content.status) (transaction q h)) (completed_prepares h)
under-verdict c h t =
    each-filter _ (is_completed h) (records_of h)
    (in-each _ (records_of h) (λ q i e.
    let since = number_after (prepared_before q.content.name (events_before q.number h)) in
    each-filter (StandsUnder h q.content.status) (λ (p : Entry). same p.what.name q.content.name && leb since (length p.before) && ltb (length p.before) q.number) (entries_of h)
    (in-each _ (entries_of h) (λ p j s.
    let within : InTransaction h q p = record {
      name = same_true p.what.name q.content.name (search (and_left, and_right));
      since = leb-true since (length p.before) (search (and_left, and_right));
      before = ltb-true (length p.before) q.number (search (and_left, and_right));
    } in
    let code = prepare-code q.content.status (and_left (is_prepare q.content.status) _ e) in
    over-verdict (status_code q.content.status) (marker_over h p) (omega arith) (under-completed c h t q i e p j within ∙ ap (λ (n : ℕ). n + 1) (under-over h p))))))
