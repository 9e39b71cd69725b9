-- What the display shows of a place is what its name's latest record has left by the history.
use Prim.Native.Nat.{ℕ}
use mathlib.Core.Path.{◌≡◌, refl, sym, ap, subst, ◌∙◌}
use mathlib.Core.Bool.{true, cond}
use mathlib.Core.List.{List, []}
use mathlib.Core.Option.{none, some}
use lib.Dec.{ltb}
use lib.ListN.{length, get_or-map, get_or-eq_default}
use borrow.Author.Tests.{ltb-true, ltb-false}
use Rattle.numbers.proofs.Tests.{either}
use Rattle.bits.specs.Bits.{count}
use Rattle.catalogue.specs.declared.Catalogue.{Catalogue}
use Rattle.search.proofs.Found.{option-either}
use Rattle.row.specs.Row.{free, is_prepare, outstanding}
use Rattle.row.specs.declared.Row.{Row}
use Rattle.row.proofs.Laws.{idle-unprepared}
use Rattle.table.specs.Table.{row_at, place_of}
use Rattle.coordinator.specs.Left.{left}
use Rattle.coordinator.specs.declared.Coordinator.{Coordinator}
use Rattle.runs.specs.History.{History, Logged, latest_of, names, name_at}
use Rattle.runs.specs.World.{up, World, catalogue_of}
use Rattle.runs.specs.ExactOrders.{not_acknowledged, shown_of, shown_at}
use Rattle.agreement.proofs.Invariant.{Invariant, UpLog}
use Rattle.agreement.proofs.FlushedFirst.{proper}
use Rattle.agreement.proofs.LiveTable.{starts-of, live-record-at, RecordAt, free-lacks, name-at, others-free}
use Rattle.agreement.proofs.Preserves.{log-of, ready_of, place-of}
use Rattle.restart.proofs.TotalOrders.{left_of}
use Rattle.exact_orders.proofs.Acknowledged.{Acknowledged}
use Rattle.exact_orders.proofs.NotAcknowledged.{left_is}

module _ (w : World) (i : Invariant w) (a : Acknowledged w.phase w.history) (s : Coordinator) (u : w.phase ≡ up s) where
  abbrev c : Catalogue
  c = catalogue_of w

  abbrev h : History
  h = w.history

  log : UpLog c w.log s h
  log = log-of w i s u

  -- ---- a place and the name that its row has

  free-left : (k : ℕ) → free (row_at s.table k) ≡ true → left s k ≡ 0
  free-left k f = let row = row_at s.table k in unfold left in rw (idle-unprepared row.status ((proper s (ready_of w i s u)).each k f)) refl

  -- a place whose row holds a record
  module _ (k : ℕ) (at : RecordAt c w.log s h log i.of-history k) where
    abbrev row : Row
    row = row_at s.table k

    abbrev p : Logged
    p = at.latest

    same_name : row.name ≡ p.content.name
    same_name = ap (λ (y : Row). y.name) at.row

    latest : latest_of p.content.name h ≡ some p
    latest = subst (λ (name : List ℕ). latest_of name h ≡ some p) same_name at.is

    own-place : place_of s.table p.content.name ≡ k
    own-place = ap (place_of s.table) (sym same_name) ∙ place-of w i s u row.name ∙ at.place

    prepare-left : is_prepare p.content.status ≡ true → not_acknowledged p h ≡ count (outstanding row)
    prepare-left prepares =
        left_is w i a p latest prepares ∙ ap (left_of p) u ∙ ap (λ (j : ℕ). count (outstanding (row_at s.table j))) own-place

    record-left : left s k ≡ shown_of h (some p)
    unfolding left
    record-left =
        ap (λ (y : Row). cond (is_prepare y.status) (count (outstanding row)) 0) at.row
        ∙ either (is_prepare p.content.status) (λ e. rw e (sym (prepare-left e))) (λ e. rw e refl)

  place-left : (k : ℕ) → left s k ≡ shown_of h (latest_of (row_at s.table k).name h)
  place-left k =
      either (free (row_at s.table k)) (λ f. free-left k f ∙ rw (free-lacks c w.log s h log i.of-history k f) refl)
      (λ f. let at = live-record-at c w.log s h log i.of-history k f in record-left k at ∙ ap (shown_of h) (sym at.is))

  -- ---- the names in their order

  -- no record has the empty name
  empty-lacks : latest_of [] h ≡ none
  empty-lacks = option-either (latest_of [] h) (λ e. e) (λ x e. absurd (starts-of c w.log s h log i.of-history [] x e refl))

  pub named-left : (k : ℕ) → left s k ≡ shown_of h (latest_of (name_at h k) h)
  named-left k =
      either (ltb k (length (names h)))
      (λ t. place-left k ∙ ap (λ (name : List ℕ). shown_of h (latest_of name h)) (name-at c w.log s h log i.of-history k (ltb-true k (length (names h)) t)))
      (λ t.
      let behind = ltb-false k (length (names h)) t in
      free-left k (others-free c w.log s h log i.of-history k behind) ∙ rw (get_or-eq_default (names h) [] behind, empty-lacks) refl)

  pub shows-place : (k : ℕ) → left s k ≡ shown_at h k
  shows-place k =
      let shown : List ℕ → ℕ = λ name. shown_of h (latest_of name h) in
      named-left k ∙ sym (get_or-map shown (names h) k []) ∙ rw empty-lacks refl
