-- What follows a prepare: it is the latest record of its name, or the next one of its name completes it.
use Prim.Native.Nat.{ℕ, ◌<◌}
use mathlib.Core.Path.{◌≡◌, refl, sym, ap, subst, ◌∙◌}
use mathlib.Core.Bool.{Bool, true, false, ◌&&◌, and-false}
use mathlib.Core.List.{List, [], ◌∷◌}
use mathlib.Core.Option.{none, some}
use native.Mathlib.Omega.{arith}
use lib.Dec.{ltb}
use borrow.Author.Tests.{lt-ltb, le-ltb}
use Rattle.numbers.proofs.Signed.{at_least}
use Rattle.numbers.proofs.Bytes.{same_true}
use Rattle.numbers.proofs.Tests.{and_both, either}
use Rattle.catalogue.specs.declared.Catalogue.{Catalogue}
use Rattle.record.specs.Record.{status_code, well_formed}
use Rattle.record.proofs.Bounds.{well-formed-parts}
use Rattle.search.specs.Search.{find_last, Each, Found}
use Rattle.search.proofs.Each.{each-then}
use Rattle.search.proofs.Found.{some_same, found-is, found-with}
use Rattle.search.proofs.Members.{In, in-nil, in-cons, each_in}
use Rattle.search.proofs.Find.{find-nothing, find-hit, find-miss, find-in, last_none, last-here, last-there, last-fails}
use Rattle.row.specs.Row.{is_prepare, held}
use Rattle.row.proofs.Laws.{complete-code}
use Rattle.succession.proofs.Laws.{follows-completes}
use Rattle.table.specs.Next.{may_come}
use Rattle.table.specs.Table.{empty_table}
use Rattle.log_reader.specs.Records.{table_of, all_come}
use Rattle.log_reader.proofs.RecordLaws.{come-parts}
use Rattle.runs.specs.History.{Logged, contents, is_of}
use Rattle.runs.specs.Demand3.{Ends, Completes}
use Rattle.protocol.specs.RecordsOfName.{latest_in, NumberedBelow}
use Rattle.protocol.proofs.Cuts.{is-of, numbered_below}
use Rattle.protocol.proofs.TableOfRecords.{next-follows, come-record}

-- the record that follows a prepare completes it
pub next-completes : (c : Catalogue) (l : List Logged) → all_come c empty_table (contents l) ≡ true → Ends c l → (x : Logged) → well_formed c x.content ≡ true → may_come (table_of c (contents l)) x.content ≡ true
    → (p : Logged) → latest_in x.content.name l ≡ some p → is_prepare p.content.status ≡ true → Completes p x
next-completes c l e h x w m p i prepared =
    let (f, n) = come-record c l e p (find-in (is_of x.content.name) l p i) in
    let (status, k) = follows-completes (table_of c (contents l)).next (held p.content p.end) x.content (next-follows c l e h x.content w m p i) prepared in
    let (pid, pid-is) = (well-formed-parts c p.content f).pid-natural in
    let (epoch, epoch-is, _) = at_least 0 p.content.epoch n.epoch-natural in
    record {
      status = ap status_code status ∙ complete-code p.content.status prepared;
      pid = k.pid-kept ∙ rw pid-is refl;
      epoch = k.epoch-kept ∙ rw epoch-is refl;
    }

-- whether a record is a later one of the same name
abbrev pub is_after : Logged → Logged → Bool
is_after p x = ltb p.number x.number && is_of p.content.name x

-- a prepare is the latest of its name, or the next of its name completes it
pub data After (p : Logged) (l : List Logged) : Type 0 where
  latest : find_last (is_after p) l ≡ none → latest_in p.content.name l ≡ some p → After p l
  completed : Found (Completes p) (find_last (is_after p) l) → After p l

pub after-prepare : (c : Catalogue) (n : ℕ) (l : List Logged) → all_come c empty_table (contents l) ≡ true → Ends c l → NumberedBelow n l → (p : Logged) → In p l
    → is_prepare p.content.status ≡ true → After p l
after-prepare c n [] e h b p i prepared = in-nil i
after-prepare c n (x ∷ l) e (h, hs) (b, bs) p i prepared =
    let (o, w, m) = come-parts c empty_table x.content (contents l) e in
    in-cons i (λ q. newest q) (λ j. older o w m j (after-prepare c x.number l o hs bs p j prepared))
  where
    newest : x ≡ p → After p (x ∷ l)
    newest q =
        let below : Each (λ (y : Logged). y.number < p.number) l = subst (λ (y : Logged). Each (λ (z : Logged). z.number < y.number) l) q (numbered_below x.number l bs) in
        latest
        (last_none (is_after p) x l (subst (λ (y : Logged). is_after p y ≡ false) (sym q) (rw (le-ltb p.number p.number (omega arith))))
        (last-fails (is_after p) l (each-then (λ (y : Logged). y.number < p.number) (λ (y : Logged). is_after p y ≡ false) (λ y k. rw (le-ltb p.number y.number (omega arith))) l below)))
        (find-hit (is_of p.content.name) x l (is-of p.content.name x (ap (λ (y : Logged). y.content.name) q)) ∙ ap some q)

    older : all_come c empty_table (contents l) ≡ true → well_formed c x.content ≡ true → may_come (table_of c (contents l)) x.content ≡ true → In p l → After p l → After p (x ∷ l)
    older o w m j (latest none_after is) =
        let below : p.number < x.number = each_in (λ (y : Logged). y.number < x.number) l p (numbered_below x.number l bs) j in
        either (is_of p.content.name x)
        (λ y.
        let name : x.content.name ≡ p.content.name = same_true x.content.name p.content.name y in
        completed (found-is (Completes p) (last-here (is_after p) x l (and_both (ltb p.number x.number) (is_of p.content.name x) (lt-ltb p.number x.number below) y) none_after)
        (next-completes c l o hs x w m p (rw name is) prepared)))
        (λ y. latest (last_none (is_after p) x l (rw (y, and-false (ltb p.number x.number))) none_after) (find-miss (is_of p.content.name) x l y ∙ is))
    older o w m j (completed k) = found-with (Completes p) (find_last (is_after p) l) k (λ y f g. completed (found-is (Completes p) (last-there (is_after p) x l y f) g))

-- no record of its name comes after the latest
pub latest-last : (p : Logged) (n : ℕ) (l : List Logged) → NumberedBelow n l → latest_in p.content.name l ≡ some p → find_last (is_after p) l ≡ none
latest-last p n [] b e = find-nothing (is_of p.content.name) p e
latest-last p n (x ∷ l) (b, bs) e =
    either (is_of p.content.name x)
    (λ y.
    let q : x ≡ p = some_same (sym (find-hit (is_of p.content.name) x l y) ∙ e) in
    let z : x.number ≡ p.number = ap (λ (y : Logged). y.number) q in
    last_none (is_after p) x l (rw (le-ltb p.number x.number (omega arith)))
    (last-fails (is_after p) l (each-then (λ (y : Logged). y.number < x.number) (λ (y : Logged). is_after p y ≡ false) (λ y k. rw (le-ltb p.number y.number (omega arith))) l (numbered_below x.number l bs))))
    (λ y. last_none (is_after p) x l (rw (y, and-false (ltb p.number x.number))) (latest-last p x.number l bs (sym (find-miss (is_of p.content.name) x l y) ∙ e)))
