-- The start and the timeout of a BEGIN are those of the record with which its transaction began, however often it was widened.
use Prim.Native.Nat.{ℕ}
use mathlib.Core.Path.{◌≡◌, refl, sym, ap, subst, ◌∙◌}
use mathlib.Core.Bool.{true, false}
use mathlib.Core.List.{List, [], ◌∷◌}
use mathlib.Core.Option.{Option, none, some}
use Rattle.numbers.specs.Signed.{to_nat}
use Rattle.numbers.proofs.Bytes.{same_true, same_refl}
use Rattle.numbers.proofs.Tests.{either, not-both}
use Rattle.catalogue.specs.declared.Catalogue.{Catalogue}
use Rattle.record.specs.Record.{well_formed}
use Rattle.record.proofs.Bounds.{formed-starts}
use Rattle.search.specs.Search.{filter, or_else}
use Rattle.search.proofs.Found.{some_same, option-either}
use Rattle.search.proofs.Find.{find-nothing, find-hit, find-miss, filter-hit, filter-miss, filter-found}
use Rattle.row.specs.Row.{is_begin, held}
use Rattle.row.specs.Steps.{complete_of}
use Rattle.row.proofs.Laws.{of-prepare, begin-code, idle-unbegun}
use Rattle.succession.proofs.Laws.{Move, raising, renewing, beginning, widening, committing, aborting, completing, follows-move, first-new}
use Rattle.table.specs.Next.{may_come}
use Rattle.table.specs.Table.{empty_table}
use Rattle.table.proofs.Laws.{come-either}
use Rattle.log_reader.specs.Records.{table_of, all_come}
use Rattle.log_reader.proofs.RecordLaws.{come-parts}
use Rattle.runs.specs.History.{Logged, contents, is_of}
use Rattle.runs.specs.Demand3.{Ends}
use Rattle.protocol.specs.RecordsOfName.{latest_in}
use Rattle.protocol.proofs.TableOfRecords.{table-lacks, next-follows}
use Rattle.runs.specs.Timeouts.{beginning_of}

-- ---- the records of a name

-- of one record more: a BEGIN goes on with what began before it, or begins
begin-more : (x : Logged) (older : List Logged) (o : Option Logged) → is_begin x.content.status ≡ true → beginning_of older ≡ o → beginning_of (x ∷ older) ≡ or_else o (some x)
unfolding beginning_of
begin-more x older o b e = rw (begin-code x.content.status, b, e) refl

other-more : (x : Logged) (older : List Logged) → is_begin x.content.status ≡ false → beginning_of (x ∷ older) ≡ none
unfolding beginning_of
other-more x older b = rw (begin-code x.content.status, b) refl

-- ---- whether a transaction is under way

-- none is where the latest record is no BEGIN
pub unbegun : (name : List ℕ) (l : List Logged) (x : Logged) → latest_in name l ≡ some x → is_begin x.content.status ≡ false → beginning_of (filter (is_of name) l) ≡ none
unbegun name l x e b = let (older, is) = filter-found (is_of name) l x e in ap beginning_of is ∙ other-more x older b

-- one is where it is a BEGIN: the record with which it began has the BEGIN's start as last update, and its timeout
pub record Began (name : List ℕ) (l : List Logged) (x : Logged) : Type 0 where
  pub first : Logged
  pub is : beginning_of (filter (is_of name) l) ≡ some first
  pub started : to_nat x.content.start ≡ to_nat first.content.updated
  pub same-timeout : to_nat x.content.timeout ≡ to_nat first.content.timeout

module _ (c : Catalogue) (x : Logged) (l : List Logged) (come : all_come c empty_table (contents l) ≡ true) (ends : Ends c l) (formed : well_formed c x.content ≡ true)
    (comes : may_come (table_of c (contents l)) x.content ≡ true) (b : is_begin x.content.status ≡ true) where
  abbrev name : List ℕ
  name = x.content.name

  own : is_of name x ≡ true
  own = same_refl name

  over : (o : Option Logged) → beginning_of (filter (is_of name) l) ≡ o → beginning_of (filter (is_of name) (x ∷ l)) ≡ or_else o (some x)
  over o e = ap beginning_of (filter-hit (is_of name) x l own) ∙ begin-more x (filter (is_of name) l) o b e

  -- a BEGIN over an idle record begins, and a widening keeps start and timeout
  begun-after : (r : Logged) → latest_in name l ≡ some r → (is_begin r.content.status ≡ true → Began name l r) → Began name (x ∷ l) x
  begun-after r e before = go (follows-move _ (held r.content r.end) x.content (next-follows c l come ends x.content formed comes r e))
    where
      go : Move (table_of c (contents l)).next (held r.content r.end) x.content → Began name (x ∷ l) x
      go (raising i s m) = not-both (ap is_begin s) b
      go (renewing i s m) = not-both (ap is_begin s) b
      go (beginning i s m) = record { first = x; is = over none (unbegun name l r e (idle-unbegun r.content.status i)); started = ap to_nat m.start-now; same-timeout = refl }
      go (widening i s m) =
          let g = before (ap is_begin i) in
          record { first = g.first; is = over (some g.first) g.is; started = ap to_nat m.start-kept ∙ g.started; same-timeout = ap to_nat m.timeout-kept ∙ g.same-timeout }
      go (committing i s m) = not-both (ap is_begin s) b
      go (aborting i s m) = not-both (ap is_begin s) b
      go (completing i s m) = not-both (ap is_begin s ∙ of-prepare (λ status. is_begin (complete_of status) ≡ false) refl refl r.content.status i) b

  -- the first record of a name is no BEGIN
  begun-newest : ((r : Logged) → latest_in name l ≡ some r → is_begin r.content.status ≡ true → Began name l r) → Began name (x ∷ l) x
  begun-newest before =
      let t = table_of c (contents l) in
      option-either (latest_in name l)
      (λ e. come-either t x.content comes (λ holding f. not-both (table-lacks c l come name (formed-starts c x.content formed) e) holding)
      (λ lacking f room. not-both (ap is_begin (first-new t.next x.content f).0) b))
      (λ r e. begun-after r e (before r e))

-- the latest record of any name
pub begun : (c : Catalogue) (name : List ℕ) (l : List Logged) → all_come c empty_table (contents l) ≡ true → Ends c l → (x : Logged) → latest_in name l ≡ some x → is_begin x.content.status ≡ true
    → Began name l x
begun c name [] e h x i b = find-nothing (is_of name) x i
begun c name (y ∷ l) e (h, hs) x i b =
    let (come, formed, comes) = come-parts c empty_table y.content (contents l) e in
    either (is_of name y)
    (λ t.
    let named : y.content.name ≡ name = same_true y.content.name name t in
    let newest : y ≡ x = some_same (sym (find-hit (is_of name) y l t) ∙ i) in
    let began : is_begin y.content.status ≡ true = ap (λ (z : Logged). is_begin z.content.status) newest ∙ b in
    subst (Began name (y ∷ l)) newest
    (subst (λ (n : List ℕ). Began n (y ∷ l) y) named (begun-newest c y l come hs formed comes began (λ r q. begun c y.content.name l come hs r q))))
    (λ f.
    let g = begun c name l come hs x (sym (find-miss (is_of name) y l f) ∙ i) b in
    record { first = g.first; is = ap beginning_of (filter-miss (is_of name) y l f) ∙ g.is; started = g.started; same-timeout = g.same-timeout })
