-- The row of a name's latest record: a record of another name leaves it as it is, and an Ack changes the one that its order is for.
use Prim.Native.Nat.{ℕ, ◌+◌, ◌<◌}
use mathlib.Core.Path.{◌≡◌, refl, sym, ap, subst, ◌∙◌}
use mathlib.Core.Logic.{◌≢◌}
use mathlib.Core.Bool.{true}
use mathlib.Core.List.{List, ◌∷◌}
use mathlib.Core.Option.{some}
use native.Mathlib.Omega.{arith}
use lib.Dec.{eqb}
use lib.ListN.{length}
use borrow.Author.Tests.{eqb-true}
use Rattle.numbers.proofs.Bytes.{same_false}
use Rattle.bits.specs.Bits.{insert}
use Rattle.catalogue.specs.declared.Catalogue.{Catalogue}
use Rattle.search.proofs.Found.{some_same}
use Rattle.search.proofs.Members.{In}
use Rattle.search.proofs.Find.{find-miss, find-passes}
use Rattle.row.specs.Row.{with_end, with_acknowledged}
use Rattle.row.specs.declared.Row.{Row}
use Rattle.table.specs.Table.{row_at, place_of, apply, with_row, empty_table}
use Rattle.table.specs.declared.Table.{Table}
use Rattle.table.proofs.Laws.{apply-same, apply-other, with-other}
use Rattle.table.proofs.Unacknowledged.{plain-place, plain-with}
use Rattle.log_reader.specs.Records.{all_come}
use Rattle.coordinator.specs.Coordinator.{log_end, row_frame, appended, acknowledged}
use Rattle.coordinator.specs.declared.Coordinator.{Coordinator}
use Rattle.coordinator.proofs.AckCases.{acknowledged-row}
use Rattle.runs.specs.History.{Order, History, Logged, records_of, contents, is_of, latest_of}
use Rattle.runs.specs.World.{up, World, catalogue_of}
use Rattle.protocol.specs.RecordsOfName.{latest_in}
use Rattle.protocol.specs.HistoryInvariant.{HistoryInvariant}
use Rattle.protocol.proofs.Cuts.{numbered-same}
use Rattle.protocol.proofs.Consequences.{number-below, for-latest}
use Rattle.agreement.proofs.Invariant.{UpLog, place_in, UnderWay, Invariant}
use Rattle.agreement.proofs.LiveTable.{live-place, live-latest}
use Rattle.agreement.proofs.Tables.{place_kept, place-name}
use Rattle.agreement.proofs.Preserves.{place-of, rows_of}
use Rattle.agreement.proofs.Delivers.{prepare-of, place-below}
use Rattle.agreement.proofs.Acknowledges.{row_is}

-- the row of a name
abbrev pub row_of_name : Coordinator → List ℕ → Row
row_of_name s name = row_at s.table (place_of s.table name)

-- ---- a record is appended

module _ (s : Coordinator) (place : ℕ) (row : Row) where
  abbrev end : ℕ
  end = log_end s + length (row_frame s row)

  table : (appended s place row).table ≡ apply s.table place (with_end row end)
  table = unfold appended in refl

  pub appended-here : place < length s.table.rows → row_at (appended s place row).table place ≡ with_end row end
  appended-here inside = ap (λ (y : Table). row_at y place) table ∙ apply-same s.table place (with_end row end) inside

  appended-there : (k : ℕ) → k ≢ place → row_at (appended s place row).table k ≡ row_at s.table k
  appended-there k n = ap (λ (y : Table). row_at y k) table ∙ apply-other s.table place (with_end row end) k n

-- the row of another name
pub row_appended : (c : Catalogue) (log log' : List ℕ) (s : Coordinator) (h : History) (place : ℕ) (row : Row) → UpLog c log s h → HistoryInvariant c h
    → (v : History) → UpLog c log' (appended s place row) v → HistoryInvariant c v → (x : Logged) → records_of v ≡ x ∷ records_of h → place < length s.table.rows
    → (p : Logged) → latest_of p.content.name h ≡ some p → (row.name ≡ p.content.name → ⊥) → (x.content.name ≡ p.content.name → ⊥)
    → row_of_name (appended s place row) p.content.name ≡ row_of_name s p.content.name
row_appended c log log' s h place row u t v u' t' x r inside p e d d' =
    let name = p.content.name in
    let new = appended s place row in
    let e' : latest_of name v ≡ some p = ap (latest_in name) r ∙ find-miss (is_of name) x (records_of h) (same_false x.content.name name d') ∙ e in
    let same_place : place_of new.table name ≡ place_of s.table name =
    live-place c log' new v u' t' name ∙ ap (λ (l : List Logged). place_in c l name) r
    ∙ place_kept c x (records_of h) (subst (λ (l : List Logged). all_come c empty_table (contents l) ≡ true) r t'.come) t.ends name p e ∙ sym (live-place c log s h u t name) in
    let named : (row_at new.table (place_of s.table name)).name ≡ name = ap (λ (k : ℕ). (row_at new.table k).name) (sym same_place)
    ∙ ap (λ (y : Row). y.name) (live-latest c log' new v u' t' name p e') in
    let not-here : place_of s.table name ≡ place → ⊥ = λ z. d (sym (ap (λ (y : Row). y.name) (appended-here s place row inside)) ∙ ap (λ (k : ℕ). (row_at new.table k).name) (sym z) ∙ named) in
    ap (λ (k : ℕ). row_at new.table k) same_place ∙ appended-there s place row (place_of s.table name) not-here

-- ---- an order under way

-- after an acknowledgement every name is where it was
place-acknowledged : (s : Coordinator) (place position : ℕ) (name : List ℕ) → place_of (acknowledged s place position).table name ≡ place_of s.table name
unfolding acknowledged
place-acknowledged s place position name =
    let t = with_row s.table place (with_acknowledged (row_at s.table place) (insert (row_at s.table place).acknowledged position)) in
    sym (plain-place t name) ∙ ap (λ (y : Table). place_of y name) (plain-with s.table place (insert (row_at s.table place).acknowledged position)) ∙ plain-place s.table name

module _ (w : World) (i : Invariant w) (s : Coordinator) (u : w.phase ≡ up s) (o : Order) (way : UnderWay (catalogue_of w) w.history s o) where
  abbrev c : Catalogue
  c = catalogue_of w

  abbrev h : History
  h = w.history

  abbrev row : Row
  row = row_at s.table o.place

  abbrev noted : Coordinator
  noted = acknowledged s o.place o.position

  -- its prepare
  abbrev r : Logged
  r = (prepare-of w i s u o way).prepare

  number_is : r.number ≡ o.for
  number_is = eqb-true r.number o.for (find-passes (λ (y : Logged). eqb y.number o.for) (records_of h) r (prepare-of w i s u o way).found)

  pub ordered-below : o.for < length h
  ordered-below = let b = number-below c h i.of-history r (prepare-of w i s u o way).there in omega (arith, number_is)

  latest-is : latest_of r.content.name h ≡ some r
  latest-is = for-latest c h i.of-history o r (prepare-of w i s u o way).there (prepare-of w i s u o way).is-for

  pub row-name : row.name ≡ r.content.name
  row-name = ap (λ (y : Row). y.name) (row_is w i s u o way)

  pub ordered-inside : o.place < length s.table.rows
  ordered-inside = let b = place-below w i s u o way in omega (arith, rows_of w i s u)

  -- a record is the one that it is for, and stands at its place
  module _ (p : Logged) (stands : In p (records_of h)) (e : o.for ≡ p.number) where
    pub same-prepare : r ≡ p
    same-prepare = numbered-same (length h) (records_of h) i.of-history.numbered r p (prepare-of w i s u o way).there stands (number_is ∙ e)

    ordered-place : place_of s.table p.content.name ≡ o.place
    ordered-place = place-of w i s u p.content.name ∙ ap (λ (y : Logged). place_in c (records_of h) y.content.name) (sym same-prepare) ∙ (prepare-of w i s u o way).place

    pub ordered-row : row_of_name s p.content.name ≡ row
    ordered-row = ap (λ (k : ℕ). row_at s.table k) ordered-place

    pub row-noted : row_of_name noted p.content.name ≡ with_acknowledged row (insert row.acknowledged o.position)
    row-noted = ap (λ (k : ℕ). row_at noted.table k) (place-acknowledged s o.place o.position p.content.name ∙ ordered-place) ∙ acknowledged-row s o.place o.position ordered-inside

  -- or it is of another name, and its row stays
  module _ (p : Logged) (d : o.for ≡ p.number → ⊥) (e : latest_of p.content.name h ≡ some p) where
    pub other_name : row.name ≡ p.content.name → ⊥
    other_name q = d (sym number_is ∙ ap (λ (y : Logged). y.number) (some_same (sym latest-is ∙ ap (λ (m : List ℕ). latest_of m h) (sym row-name ∙ q) ∙ e)))

    other_place_lem : place_of s.table p.content.name ≡ o.place → ⊥
    other_place_lem z =
        other_name (row-name ∙ sym (place-name c (records_of h) i.of-history.come i.of-history.ends p.content.name r.content.name p r e latest-is
        (sym (place-of w i s u p.content.name) ∙ z ∙ sym (prepare-of w i s u o way).place)))

    pub row-unnoted : row_of_name noted p.content.name ≡ row_of_name s p.content.name
    row-unnoted =
        let k = place_of s.table p.content.name in
        ap (λ (j : ℕ). row_at noted.table j) (place-acknowledged s o.place o.position p.content.name) ∙ (unfold acknowledged in with-other s.table o.place _ k other_place_lem)
