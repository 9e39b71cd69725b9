-- Acknowledgements and open entries: what is acknowledged is closed, and a prepare waits for some partition.
use Prim.Native.Nat.{ℕ, ◌+◌, ◌<◌, ◌^◌}
use mathlib.Core.Path.{◌≡◌, refl, sym, ap, subst, ◌∙◌}
use mathlib.Core.Logic.{◌≢◌}
use mathlib.Core.Bool.{true, false}
use mathlib.Core.List.{[], ◌∷◌}
use mathlib.Core.Option.{some}
use native.Mathlib.Decide.{ℕ_discrete}
use native.Mathlib.Omega.{arith}
use lib.Dec.{eqb}
use lib.ListN.{length}
use borrow.Author.Tests.{eqb-false}
use Rattle.bits.specs.Bits.{member, insert, difference, count, lowest}
use Rattle.bits.proofs.Laws.{member_is, member-is-not, member-true, member-false, bit-of-none, lowest-member, left_is, count_left, count_none, insert-other, insert-below, member-nothing}
use Rattle.catalogue.specs.declared.Catalogue.{Catalogue}
use Rattle.record.specs.Record.{well_formed}
use Rattle.record.specs.declared.Record.{Record}
use Rattle.record.proofs.Bounds.{some-joined, well-formed-parts}
use Rattle.search.proofs.Each.{but-at}
use Rattle.search.proofs.Members.{in-each}
use Rattle.row.specs.Row.{is_prepare, outstanding, record_of, with_end, with_acknowledged}
use Rattle.row.specs.declared.Row.{Row}
use Rattle.row.proofs.Laws.{prepare-busy}
use Rattle.table.specs.Table.{empty_table, row_at}
use Rattle.table.proofs.Laws.{apply-same, apply-other, with-same, with-other}
use Rattle.log_reader.specs.Records.{all_come}
use Rattle.log_reader.proofs.RecordLaws.{come-newest}
use Rattle.coordinator.specs.Coordinator.{log_end, row_frame, appended, acknowledged}
use Rattle.coordinator.specs.declared.Coordinator.{Coordinator}
use Rattle.runs.specs.History.{Order, Produced, Event, record_appended, marker_written, entry_written, History, produced_in, Logged, records_of, contents}
use Rattle.protocol.specs.Entries.{Entry, entries_of, kind_in, under_of}
use Rattle.protocol.specs.HistoryInvariant.{HistoryInvariant}
use Rattle.protocol.specs.NextEvent.{Appendable}
use Rattle.protocol.proofs.Events.{entry-before, new_record, appended-records, more-entries, entry-records, marker-records, same_entries}
use Rattle.protocol.proofs.Entries.{under_next, first-open, under-each}
use Rattle.protocol.proofs.Consequences.{open-now}
use Rattle.agreement.proofs.Invariant.{place_in, NoneOpen, AcksAgree}
use Rattle.agreement.proofs.Tables.{place_kept}
use Rattle.agreement.proofs.Rows.{none-open-at}

-- ---- nothing open, under an event

pub none-open-kept : (c : Catalogue) (h : History) (e : Event) → produced_in e ≡ [] → ((position pid : ℕ) → kind_in position pid e ≡ 0) → records_of (e ∷ h) ≡ records_of h → (x k : ℕ)
    → NoneOpen c h (records_of h) x k → NoneOpen c (e ∷ h) (records_of (e ∷ h)) x k
none-open-kept c h e p q r x k n =
    rw (r, same_entries e h p) (under-each h e q (λ (m : ℕ) (d : Entry). d.what.position ≡ x → m ≡ 0 → place_in c (records_of h) d.what.name ≡ k → ⊥) n)

pub none-open-marked : (c : Catalogue) (h : History) (o : Order) (x k : ℕ) → NoneOpen c h (records_of h) x k → NoneOpen c (marker_written o ∷ h) (records_of (marker_written o ∷ h)) x k
none-open-marked c h o x k n =
    rw ((marker-records h o).records, same_entries (marker_written o) h refl)
    (in-each _ (entries_of h) (λ d j u z e. none-open-at c h (records_of h) x k n d j u
    (first-open (under_of h d) _ (sym (under_next (marker_written o) h d (entry-before h d j)) ∙ z)) e))

pub none-open-entered : (c : Catalogue) (h : History) (e : Produced) (x k : ℕ) → (e.position ≡ x → place_in c (records_of h) e.name ≡ k → ⊥) → NoneOpen c h (records_of h) x k
    → NoneOpen c (entry_written e ∷ h) (records_of (entry_written e ∷ h)) x k
none-open-entered c h e x k f n =
    rw ((entry-records h e).records, more-entries e h)
    (λ u z i. f u i, under-each h (entry_written e) (λ position pid. refl) (λ (m : ℕ) (d : Entry). d.what.position ≡ x → m ≡ 0 → place_in c (records_of h) d.what.name ≡ k → ⊥) n)

pub none-open-appended : (c : Catalogue) (h : History) → HistoryInvariant c h → (r : Record) (end : ℕ) → Appendable c h r end → (x k : ℕ) → NoneOpen c h (records_of h) x k
    → NoneOpen c (record_appended r end ∷ h) (records_of (record_appended r end ∷ h)) x k
none-open-appended c h t r end w x k n =
    rw ((appended-records h r end).records, same_entries (record_appended r end) h refl)
    (under-each h (record_appended r end) (λ position pid. refl) (λ (m : ℕ) (d : Entry). d.what.position ≡ x → m ≡ 0 → place_in c (new ∷ records_of h) d.what.name ≡ k → ⊥)
    (in-each _ (entries_of h) (λ d j u z e.
    open-now c h t d j z (λ l s g. none-open-at c h (records_of h) x k n d j u z (sym (place_kept c new (records_of h) new-come t.ends d.what.name l s) ∙ e)))))
  where
    new : Logged
    new = new_record h r end

    new-come : all_come c empty_table (contents (new ∷ records_of h)) ≡ true
    new-come = come-newest c empty_table r (contents (records_of h)) t.come w.formed w.comes

-- ---- acknowledgements

-- under an event that closes or keeps what is open
pub acks-kept : (c : Catalogue) (h : History) (s : Coordinator) (e : Event) → ((x k : ℕ) → member (row_at s.table k).acknowledged x ≡ true → NoneOpen c h (records_of h) x k → NoneOpen c (e ∷ h) (records_of (e ∷ h)) x k)
    → AcksAgree c h s → AcksAgree c (e ∷ h) s
acks-kept c h s e f a =
    record { prepared = a.prepared; closed = λ k x m. f x k m (a.closed k x m); small = a.small; waiting = a.waiting }

-- in a state with the same rows
pub acks-rows : (c : Catalogue) (h : History) (s u : Coordinator) → ((k : ℕ) → row_at u.table k ≡ row_at s.table k) → AcksAgree c h s → AcksAgree c h u
acks-rows c h s u e a =
    record {
      prepared = λ k x. subst (λ (r : Row). member r.acknowledged x ≡ true → is_prepare r.status ≡ true) (sym (e k)) (a.prepared k x);
      closed = λ k x. subst (λ (r : Row). member r.acknowledged x ≡ true → NoneOpen c h (records_of h) x k) (sym (e k)) (a.closed k x);
      small = λ k. rw (e k) (a.small k);
      waiting = λ k. subst (λ (r : Row). is_prepare r.status ≡ true → outstanding r ≡ 0 → ⊥) (sym (e k)) (a.waiting k);
    }

-- a prepare of which nothing is acknowledged waits
pub fresh-waits : (c : Catalogue) (row : Row) → well_formed c (record_of row) ≡ true → row.acknowledged ≡ 0 → is_prepare row.status ≡ true → outstanding row ≡ 0 → ⊥
fresh-waits c row f a p z =
    let w = well-formed-parts c (record_of row) f in
    let busy = prepare-busy row.status p in
    let some : 0 < row.joined = some-joined row.status row.joined busy w.joined-status in
    let (low, m, _) = lowest-member row.joined some w.joined-below in
    let none-acked : member row.acknowledged (lowest row.joined) ≡ false = rw a (member-is-not 0 (lowest row.joined) (bit-of-none (lowest row.joined))) in
    member-nothing (lowest row.joined)
    (subst (λ (n : ℕ). member n (lowest row.joined) ≡ true) z
    (left_is 64 row.joined row.acknowledged w.joined-below (rw a (omega arith)) (lowest row.joined) (member_is row.joined (lowest row.joined) m) none-acked))

-- one row changes: what is acknowledged there is closed, and it waits if it is a prepare
acks-changed : (c : Catalogue) (h : History) (s u : Coordinator) (place : ℕ) (row : Row) → row_at u.table place ≡ row → ((k : ℕ) → k ≢ place → row_at u.table k ≡ row_at s.table k)
    → ((x : ℕ) → member row.acknowledged x ≡ true → is_prepare row.status ≡ true) → ((x : ℕ) → member row.acknowledged x ≡ true → NoneOpen c h (records_of h) x place) → row.acknowledged < 2 ^ 64
    → (is_prepare row.status ≡ true → outstanding row ≡ 0 → ⊥) → AcksAgree c h s → AcksAgree c h u
acks-changed c h s u place row here others prepared closed small waiting a =
    record {
      prepared = changed (λ k y. (x : ℕ) → member y.acknowledged x ≡ true → is_prepare y.status ≡ true) prepared a.prepared;
      closed = changed (λ k y. (x : ℕ) → member y.acknowledged x ≡ true → NoneOpen c h (records_of h) x k) closed a.closed;
      small = changed (λ k y. y.acknowledged < 2 ^ 64) small a.small;
      waiting = changed (λ k y. is_prepare y.status ≡ true → outstanding y ≡ 0 → ⊥) waiting a.waiting;
    }
  where
    changed : (P : ℕ → Row → Type 0) → P place row → ((k : ℕ) → P k (row_at s.table k)) → (k : ℕ) → P k (row_at u.table k)
    changed P = but-at (row_at s.table) (row_at u.table) place row here others P

module _ (c : Catalogue) (h : History) (t : HistoryInvariant c h) (s : Coordinator) (a : AcksAgree c h s) where
  -- after a record is appended
  pub acks-appended : (place : ℕ) (row : Row) → place < length s.table.rows → row.acknowledged ≡ 0 → well_formed c (record_of row) ≡ true
      → Appendable c h (record_of row) (log_end s + length (row_frame s row))
      → AcksAgree c (record_appended (record_of row) (log_end s + length (row_frame s row)) ∷ h) (appended s place row)
  unfolding appended
  acks-appended place row inside none-acked formed w =
      let end = log_end s + length (row_frame s row) in
      let event = record_appended (record_of row) end in
      acks-changed c (event ∷ h) s (appended s place row) place (with_end row end) (apply-same s.table place (with_end row end) inside) (apply-other s.table place (with_end row end))
      (λ x m. absurd (none x m)) (λ x m. absurd (none x m)) (omega (arith, none-acked)) (fresh-waits c row formed none-acked)
      (acks-kept c h s event (λ x k m n. none-open-appended c h t (record_of row) end w x k n) a)
    where
      none : (x : ℕ) → member row.acknowledged x ≡ true → ⊥
      none x m = member-nothing x (subst (λ (n : ℕ). member n x ≡ true) none-acked m)

  -- after a position is acknowledged that is closed, and others wait
  pub acks-noted : (place position : ℕ) → place < length s.table.rows → position < 64 → is_prepare (row_at s.table place).status ≡ true → (row_at s.table place).joined < 2 ^ 64
      → member (row_at s.table place).joined position ≡ true → member (row_at s.table place).acknowledged position ≡ false → eqb (count (outstanding (row_at s.table place))) 1 ≡ false
      → NoneOpen c h (records_of h) position place → AcksAgree c h (acknowledged s place position)
  unfolding acknowledged
  acks-noted place position inside below prepares small-joined joins new more_left none_open =
      acks-changed c h s (acknowledged s place position) place noted (with-same s.table place noted inside) (with-other s.table place noted) (λ x m. prepares) (λ x m. closes x (ℕ_discrete x position) m)
      (insert-below 64 old.acknowledged position (a.small place) below) (λ p z. waiting z) a
    where
      old : Row
      old = row_at s.table place

      noted : Row
      noted = with_acknowledged old (insert old.acknowledged position)

      closes : (x : ℕ) → Dec (x ≡ position) → member (insert old.acknowledged position) x ≡ true → NoneOpen c h (records_of h) x place
      closes x (yes i) m = subst (λ (y : ℕ). NoneOpen c h (records_of h) y place) (sym i) none_open
      closes x (no n) m = a.closed place x (member_is old.acknowledged x (sym (insert-other old.acknowledged position x n) ∙ member-true (insert old.acknowledged position) x m))

      waiting : difference old.joined (insert old.acknowledged position) ≡ 0 → ⊥
      waiting z =
          let one = count_left old.joined old.acknowledged position small-joined (a.small place) below (member-true old.joined position joins) (member-false old.acknowledged position new) in
          let zero_left : count (difference old.joined (insert old.acknowledged position)) ≡ 0 = ap count z ∙ count_none in
          eqb-false (count (outstanding old)) 1 more_left (omega arith)
