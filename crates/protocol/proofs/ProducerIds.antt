-- Producer ids: each one in a log is below the table's next one, and no two names have the same.
use Prim.Native.Nat.{ℕ, ◌+◌, ◌≤◌, ◌<◌, ◌^◌, max}
use mathlib.Core.Path.{◌≡◌, refl, sym, ap, subst, ◌∙◌}
use mathlib.Core.Bool.{true}
use mathlib.Core.List.{List, [], ◌∷◌}
use mathlib.Core.Option.{some}
use native.Mathlib.Omega.{arith}
use lib.IntN.{pos}
use lib.ListN.{length}
use mir.Syntax.{w64}
use Rattle.numbers.specs.Signed.{to_nat}
use Rattle.numbers.proofs.Signed.{natural-below}
use Rattle.numbers.proofs.Tests.{not-both}
use Rattle.catalogue.specs.declared.Catalogue.{Catalogue}
use Rattle.record.specs.Frame.{frame}
use Rattle.record.specs.Record.{well_formed, status_code}
use Rattle.record.specs.declared.Record.{Record}
use Rattle.record.specs.declared.Status.{Status}
use Rattle.record.specs.declared.Status.TheVariants.{Empty, Begin, PrepareCommit, PrepareAbort, CompleteCommit, CompleteAbort}
use Rattle.record.proofs.Bounds.{formed-starts, well-formed-parts}
use Rattle.search.proofs.Members.{In, in-nil, in-cons}
use Rattle.search.proofs.Find.{find-in}
use Rattle.search.proofs.Found.{option-either}
use Rattle.row.specs.Row.{held, is_prepare}
use Rattle.row.specs.Steps.{complete_of}
use Rattle.row.specs.declared.Row.{Row}
use Rattle.row.proofs.Laws.{of-prepare}
use Rattle.succession.specs.Succession.{follows}
use Rattle.succession.proofs.Laws.{Move, raising, renewing, beginning, widening, committing, aborting, completing, first-new, follows-move}
use Rattle.table.specs.Next.{may_come}
use Rattle.table.specs.Table.{empty_table, above}
use Rattle.table.proofs.Laws.{come-either}
use Rattle.table.proofs.Records.{record-next}
use Rattle.log_reader.specs.Records.{table_of, all_come}
use Rattle.log_reader.proofs.RecordLaws.{come-parts, table-newest}
use Rattle.runs.specs.History.{Logged, contents, is_of}
use Rattle.runs.specs.Demand3.{Ends}
use Rattle.runs.specs.InEveryRun.{GivesPid}
use Rattle.protocol.specs.RecordsOfName.{latest_in}
use Rattle.protocol.proofs.Cuts.{latest-name}
use Rattle.protocol.proofs.TableOfRecords.{come-record, table-latest, table-lacks}

-- ---- what a record that may come has for a pid

-- a status with a code above 0 is not EMPTY
not-empty : (s : Status) → 0 < status_code s → s ≡ Empty → ⊥
not-empty s h e = let z : status_code s ≡ 0 = ap status_code e in omega arith

complete-not-empty : (s : Status) → is_prepare s ≡ true → complete_of s ≡ Empty → ⊥
complete-not-empty = of-prepare (λ s. complete_of s ≡ Empty → ⊥) (not-empty CompleteCommit (omega arith)) (not-empty CompleteAbort (omega arith))

-- a pid above all earlier ones, or that of the latest record of its name, with no lower epoch, and a higher one if it is EMPTY
pub data PidFrom (next : ℕ) (x : Record) (l : List Logged) : Type 0 where
  fresh : (pid : ℕ) → x.pid ≡ pos pid → next ≤ pid → PidFrom next x l
  kept : (r : Logged) → latest_in x.name l ≡ some r → x.pid ≡ r.content.pid → to_nat r.content.epoch ≤ to_nat x.epoch
      → (x.status ≡ Empty → 0 < to_nat x.epoch) → PidFrom next x l

pub pid-from : (c : Catalogue) (l : List Logged) → all_come c empty_table (contents l) ≡ true → Ends c l → (x : Record) → well_formed c x ≡ true → may_come (table_of c (contents l)) x ≡ true
    → PidFrom (table_of c (contents l)).next x l
pid-from c l e h x w m =
    let t = table_of c (contents l) in
    option-either (latest_in x.name l)
    (λ i. come-either t x m (λ y f. not-both (table-lacks c l e x.name (formed-starts c x w) i) y) (λ y f k. let n = (first-new t.next x f).1 in fresh n.pid n.pid-is n.pid-above))
    (λ r i.
    let (p, q) = table-latest c l e h x.name (formed-starts c x w) r i in
    let natural = (well-formed-parts c r.content (come-record c l e r (find-in (is_of x.name) l r i)).0).pid-natural in
    come-either t x m (λ y f. go r i natural.0 natural.1 (follows-move t.next (held r.content r.end) x (subst (λ (row : Row). follows t.next row x ≡ true) q f))) (λ y f k. not-both y p))
  where
    go : (r : Logged) → latest_in x.name l ≡ some r → (n : ℕ) → r.content.pid ≡ pos n → Move (table_of c (contents l)).next (held r.content r.end) x → PidFrom (table_of c (contents l)).next x l
    go r i n is (raising a b m) = kept r i (m.pid-kept ∙ rw is refl) (rw m.epoch-next (omega arith)) (λ e. rw m.epoch-next (omega arith))
    go r i n is (renewing a b m) = fresh m.producer.pid m.producer.pid-is m.producer.pid-above
    go r i n is (beginning a b m) = kept r i (m.pid-kept ∙ rw is refl) (rw m.epoch-kept (omega arith)) (λ e. absurd (not-empty Begin (omega arith) (sym b ∙ e)))
    go r i n is (widening a b m) = kept r i (m.pid-kept ∙ rw is refl) (rw m.epoch-kept (omega arith)) (λ e. absurd (not-empty Begin (omega arith) (sym b ∙ e)))
    go r i n is (committing a b m) = kept r i (m.pid-kept ∙ rw is refl) (rw m.epoch-is (omega arith)) (λ e. absurd (not-empty PrepareCommit (omega arith) (sym b ∙ e)))
    go r i n is (aborting a b m) = kept r i (m.prepare.pid-kept ∙ rw is refl) (rw m.prepare.epoch-is m.epoch-least) (λ e. absurd (not-empty PrepareAbort (omega arith) (sym b ∙ e)))
    go r i n is (completing a b m) = kept r i (m.pid-kept ∙ rw is refl) (rw m.epoch-kept (omega arith)) (λ e. absurd (complete-not-empty r.content.status a (sym b ∙ e)))

-- ---- pids of a log

module _ (c : Catalogue) where
  pub pid-below : (l : List Logged) → all_come c empty_table (contents l) ≡ true → (r : Logged) → In r l → to_nat r.content.pid < (table_of c (contents l)).next
  pid-below [] e r i = in-nil i
  pid-below (x ∷ l) e r i =
      let (o, w, m) = come-parts c empty_table x.content (contents l) e in
      let t = table_of c (contents l) in
      let next : (table_of c (contents (x ∷ l))).next ≡ max t.next (above (to_nat x.content.pid)) = rw (table-newest c empty_table x.content (contents l))
      (record-next t x.content (t.end + length (frame c x.content))) in
      let fits : to_nat x.content.pid < 2 ^ 63 = natural-below w64 x.content.pid (well-formed-parts c x.content w).pid-fits in
      in-cons i (λ q. subst (λ (y : Logged). to_nat y.content.pid < (table_of c (contents (x ∷ l))).next) q (rw next (omega arith)))
      (λ j. let b = pid-below l o r j in rw next (omega arith))

  -- who has a pid
  pub pid-owner : (l : List Logged) → all_come c empty_table (contents l) ≡ true → Ends c l → (a b : Logged) → In a l → In b l → a.content.pid ≡ b.content.pid → a.content.name ≡ b.content.name
  pid-owner [] e h a b i j q = in-nil i
  pid-owner (x ∷ l) e (h, hs) a b i j q =
      let (o, w, m) = come-parts c empty_table x.content (contents l) e in
      let from = pid-from c l o hs x.content w m in
      in-cons i
      (λ u. in-cons j (λ v. ap (λ (y : Logged). y.content.name) (sym u ∙ v))
      (λ k. subst (λ (y : Logged). y.content.pid ≡ b.content.pid → y.content.name ≡ b.content.name) u (newest o from b k (λ r s t. pid-owner l o hs r b s k t)) q))
      (λ k. in-cons j
      (λ v. subst (λ (y : Logged). a.content.pid ≡ y.content.pid → a.content.name ≡ y.content.name) v (λ z. sym (newest o from a k (λ r s t. pid-owner l o hs r a s k t) (sym z))) q)
      (λ n. pid-owner l o hs a b k n q))
    where
      -- the newest record has the pid of an older one only if it has its name
      newest : all_come c empty_table (contents l) ≡ true → PidFrom (table_of c (contents l)).next x.content l → (y : Logged) → In y l
          → ((r : Logged) → In r l → r.content.pid ≡ y.content.pid → r.content.name ≡ y.content.name) → x.content.pid ≡ y.content.pid → x.content.name ≡ y.content.name
      newest o (fresh pid is above) y k f z =
          let below = pid-below l o y k in
          let same : to_nat y.content.pid ≡ pid = ap to_nat (sym z ∙ is) in
          absurd (omega arith)
      newest o (kept r s p _ _) y k f z = sym (latest-name x.content.name l r s) ∙ f r (find-in (is_of x.content.name) l r s) (sym p ∙ z)

  -- a pid is given once
  pub pid-given : (l : List Logged) → all_come c empty_table (contents l) ≡ true → Ends c l → (a b : Logged) → In a l → In b l → GivesPid a → GivesPid b → a.content.pid ≡ b.content.pid
      → a.number ≡ b.number
  pid-given [] e h a b i j g k q = in-nil i
  pid-given (x ∷ l) e (h, hs) a b i j g k q =
      let (o, w, m) = come-parts c empty_table x.content (contents l) e in
      let from = pid-from c l o hs x.content w m in
      in-cons i
      (λ u. in-cons j (λ v. ap (λ (y : Logged). y.number) (sym u ∙ v)) (λ n. absurd (newest o from b n (subst GivesPid (sym u) g) (ap (λ (y : Logged). y.content.pid) u ∙ q))))
      (λ n. in-cons j (λ v. absurd (newest o from a n (subst GivesPid (sym v) k) (ap (λ (y : Logged). y.content.pid) v ∙ sym q))) (λ p. pid-given l o hs a b n p g k q))
    where
      -- the newest record does not give the pid of an older one
      newest : all_come c empty_table (contents l) ≡ true → PidFrom (table_of c (contents l)).next x.content l → (y : Logged) → In y l → GivesPid x → x.content.pid ≡ y.content.pid → ⊥
      newest o (fresh pid is above) y k g z =
          let below = pid-below l o y k in
          let same : to_nat y.content.pid ≡ pid = ap to_nat (sym z ∙ is) in
          omega arith
      newest o (kept r s p _ raised) y k g z = let zero : to_nat x.content.epoch ≡ 0 = ap to_nat g.epoch in let h = raised g.status in omega arith
