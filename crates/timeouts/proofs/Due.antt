-- A place is overdue exactly where the records of its name say that its transaction outlived its timeout, so the lowest such place is the same by both.
use Prim.Native.Nat.{ℕ, ◌+◌, ◌≤◌, ◌<◌}
use mathlib.Core.Path.{◌≡◌, refl, sym, ap, ◌∙◌}
use mathlib.Core.Bool.{true, false, ◌&&◌, and-false}
use mathlib.Core.List.{List, []}
use mathlib.Core.Option.{some}
use native.Mathlib.Omega.{arith}
use lib.Dec.{leb, ltb}
use lib.ListN.{length, get_or}
use Rattle.numbers.proofs.Tests.{either, not-ltb, ltb-minus}
use Rattle.catalogue.specs.declared.Catalogue.{Catalogue}
use Rattle.search.specs.Search.{found}
use Rattle.search.proofs.SameFirst.{nowhere-either, found-either, same_first}
use Rattle.answers.specs.Limits.{places}
use Rattle.row.specs.Row.{free_row, free, is_begin, held, with_acknowledged}
use Rattle.row.specs.declared.Row.{Row}
use Rattle.row.proofs.Laws.{idle-unbegun}
use Rattle.table.specs.Table.{row_at}
use Rattle.coordinator.specs.Tick.{overdue, overdue_place}
use Rattle.coordinator.specs.declared.Coordinator.{Coordinator}
use Rattle.runs.specs.History.{History, Logged, records_of, is_flushed, latest_of, names}
use Rattle.protocol.specs.HistoryInvariant.{HistoryInvariant}
use Rattle.agreement.proofs.Invariant.{UpLog}
use Rattle.agreement.proofs.FlushedFirst.{proper}
use Rattle.agreement.proofs.LiveTable.{live-ready, live-record-at, free-lacks, name-at, others-free}
use Rattle.runs.specs.Timeouts.{is_due, due_place}
use Rattle.timeouts.proofs.Beginning.{unbegun, begun}

-- ---- what is overdue, by the numbers of the row

-- a row of another status is not overdue
other-due : (flushed clock : ℕ) (row : Row) → is_begin row.status ≡ false → overdue flushed clock row ≡ false
unfolding overdue
other-due flushed clock row b = rw b refl

begin-due : (flushed clock : ℕ) (row : Row) → is_begin row.status ≡ true → overdue flushed clock row ≡ (leb row.end flushed && ltb (row.start + row.timeout) clock)
unfolding overdue
begin-due flushed clock row b = rw (b, not-ltb flushed row.end, ltb-minus row.start row.timeout clock) refl

-- what is acknowledged does not count
same-due : (flushed clock : ℕ) (row : Row) → overdue flushed clock (with_acknowledged row 0) ≡ overdue flushed clock row
unfolding overdue
same-due flushed clock row = refl

-- ---- a place and the records of its name

module _ (c : Catalogue) (log : List ℕ) (s : Coordinator) (h : History) (u : UpLog c log s h) (t : HistoryInvariant c h) (clock : ℕ) where
  -- the row of a latest record
  latest-due : (name : List ℕ) (x : Logged) → latest_of name h ≡ some x → overdue s.flushed clock (held x.content x.end) ≡ is_due clock h name
  latest-due name x e =
      either (is_begin x.content.status)
      (λ b.
      let g = begun c name (records_of h) t.come t.ends x e b in
      begin-due s.flushed clock (held x.content x.end) b ∙ rw (e, g.is, u.flushed, g.started, g.same-timeout) refl)
      (λ b. other-due s.flushed clock (held x.content x.end) b ∙ rw (unbegun name (records_of h) x e b) (sym (and-false (found (is_flushed h) (latest_of name h)))))

  free-due : (k : ℕ) → free (row_at s.table k) ≡ true → overdue s.flushed clock (row_at s.table k) ≡ false
  free-due k f =
      let row = row_at s.table k in
      other-due s.flushed clock row (idle-unbegun row.status ((proper s (live-ready c log s h u t)).each k f))

  place-due : (k : ℕ) → overdue s.flushed clock (row_at s.table k) ≡ is_due clock h (row_at s.table k).name
  place-due k =
      let row = row_at s.table k in
      either (free row) (λ f. free-due k f ∙ rw (free-lacks c log s h u t k f) refl)
      (λ f.
      let at = live-record-at c log s h u t k f in
      sym (same-due s.flushed clock row) ∙ ap (overdue s.flushed clock) at.row ∙ latest-due row.name at.latest at.is)

  -- ---- the names in their order

  named-due : (k : ℕ) → k < length (names h) → overdue s.flushed clock (row_at s.table k) ≡ is_due clock h (get_or (names h) k [])
  named-due k b = place-due k ∙ ap (is_due clock h) (name-at c log s h u t k b)

  others-due : (k : ℕ) → length (names h) ≤ k → overdue s.flushed clock (row_at s.table k) ≡ false
  others-due k b = free-due k (others-free c log s h u t k b)

  -- ---- the lowest place

  pub whole : length s.table.rows ≡ places
  whole = (proper s (live-ready c log s h u t)).all

  pub due-nowhere : length (names h) ≤ due_place clock h → places ≤ overdue_place s clock
  unfolding overdue_place
  due-nowhere n =
      let m = nowhere-either (is_due clock h) (overdue s.flushed clock) (names h) s.table.rows [] free_row named-due others-due (other-due s.flushed clock free_row refl) n in
      omega (arith, whole)

  pub due-within : due_place clock h < length (names h) → overdue_place s clock < places
  unfolding overdue_place
  due-within n =
      let m = found-either (is_due clock h) (overdue s.flushed clock) (names h) s.table.rows [] free_row named-due others-due (other-due s.flushed clock free_row refl) n in
      omega (arith, whole)

  pub due-there : due_place clock h < length (names h) → overdue_place s clock ≡ due_place clock h
  unfolding overdue_place
  due-there n = same_first (is_due clock h) (overdue s.flushed clock) (names h) s.table.rows [] free_row named-due others-due (other-due s.flushed clock free_row refl) n
