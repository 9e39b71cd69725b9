-- The total of carried orders of a prepare: those carried and those left, and what keeps their sum.
use Prim.Native.Nat.{ℕ, ◌+◌, ◌<◌}
use mathlib.Core.Path.{◌≡◌, refl, sym, ap, ◌∙◌}
use mathlib.Core.Bool.{true, cond, true≢false}
use mathlib.Core.List.{◌∷◌}
use mathlib.Core.Option.{Option, none, some}
use lib.Dec.{eqb, ltb}
use lib.ListN.{length}
use borrow.Author.Tests.{eq-eqb, lt-ltb}
use Rattle.numbers.proofs.Tests.{and_left, and_right, and_both}
use Rattle.numbers.proofs.Bytes.{same_false}
use Rattle.bits.specs.Bits.{count}
use Rattle.catalogue.specs.declared.Catalogue.{Catalogue}
use Rattle.record.specs.Record.{status_code}
use Rattle.search.specs.Search.{find_last, found, count_where}
use Rattle.search.proofs.Find.{find-miss, last-there, last-here}
use Rattle.row.specs.Row.{is_prepare, outstanding}
use Rattle.runs.specs.History.{Order, order_carried, History, carried_in, collect, Logged, records_of, is_of, latest_of, next_of, listed, is_completed, carried_for}
use Rattle.runs.specs.World.{Phase, up, down}
use Rattle.protocol.specs.RecordsOfName.{latest_in}
use Rattle.protocol.specs.HistoryInvariant.{HistoryInvariant}
use Rattle.protocol.proofs.Cuts.{is-of}
use Rattle.protocol.proofs.AfterPrepare.{is_after, latest-last}
use Rattle.agreement.proofs.LatestRows.{row_of_name}

-- ---- what is left

-- how many orders a prepare still needs; after a restart nothing is acknowledged
abbrev pub left_of : Logged → Phase → ℕ
left_of p (up s) = count (outstanding (row_of_name s p.content.name))
left_of p (down n before) = listed p

-- a prepare is completed and has had n orders carried, or it is its name's latest record and these and what is left are n
pub data TotalOrders (p : Logged) (n : ℕ) (phase : Phase) (h : History) : Type 0 where
  finished : is_completed h p ≡ true → carried_for p h ≡ n → TotalOrders p n phase h
  unfinished : latest_of p.content.name h ≡ some p → carried_for p h + left_of p phase ≡ n → TotalOrders p n phase h

-- nothing of it changes
pub total-same : (p : Logged) (n : ℕ) (a b : Phase) (h v : History) → records_of v ≡ records_of h → collect carried_in v ≡ collect carried_in h → left_of p b ≡ left_of p a → TotalOrders p n a h → TotalOrders p n b v
total-same p n a b h v r k l (finished e f) = finished (rw r e) (rw k f)
total-same p n a b h v r k l (unfinished e f) = unfinished (rw r e) (rw (k, l) f)

-- ---- a record is appended

-- what completes a prepare stays
completed-more : (p x : Logged) (h v : History) → records_of v ≡ x ∷ records_of h → is_completed h p ≡ true → is_completed v p ≡ true
completed-more p x h v r e =
    let prepares = and_left (is_prepare p.content.status) _ e in
    let f : found (λ (y : Logged). eqb (status_code y.content.status) (status_code p.content.status + 2)) (next_of p h) ≡ true = and_right (is_prepare p.content.status) _ e in
    and_both (is_prepare p.content.status) _ prepares (go (next_of p h) refl f)
  where
    go : (o : Option Logged) → next_of p h ≡ o → found (λ (y : Logged). eqb (status_code y.content.status) (status_code p.content.status + 2)) o ≡ true
        → found (λ (y : Logged). eqb (status_code y.content.status) (status_code p.content.status + 2)) (next_of p v) ≡ true
    go none q f = absurd (true≢false (sym f))
    go (some y) q f = let z : next_of p v ≡ some y = ap (find_last (is_after p)) r ∙ last-there (is_after p) x (records_of h) y q in rw z f

-- of another name
pub total-other : (p x : Logged) (n : ℕ) (a b : Phase) (h v : History) → records_of v ≡ x ∷ records_of h → (x.content.name ≡ p.content.name → ⊥) → collect carried_in v ≡ collect carried_in h → left_of p b ≡ left_of p a
    → TotalOrders p n a h → TotalOrders p n b v
total-other p x n a b h v r d k l (finished e f) = finished (completed-more p x h v r e) (rw k f)
total-other p x n a b h v r d k l (unfinished e f) =
    unfinished (ap (latest_in p.content.name) r ∙ find-miss (is_of p.content.name) x (records_of h) (same_false x.content.name p.content.name d) ∙ e) (rw (k, l) f)

-- a record of any name leaves a completed prepare completed
pub total-over : (p x : Logged) (n : ℕ) (b : Phase) (h v : History) → records_of v ≡ x ∷ records_of h → collect carried_in v ≡ collect carried_in h → is_completed h p ≡ true → carried_for p h ≡ n → TotalOrders p n b v
total-over p x n b h v r k e f = finished (completed-more p x h v r e) (rw k f)

-- the complete record itself
pub completed-now : (c : Catalogue) (p x : Logged) (h v : History) → records_of v ≡ x ∷ records_of h → HistoryInvariant c h → latest_of p.content.name h ≡ some p → is_prepare p.content.status ≡ true
    → p.number < x.number → x.content.name ≡ p.content.name → status_code x.content.status ≡ status_code p.content.status + 2 → is_completed v p ≡ true
completed-now c p x h v r t e prepares b name code =
    let none_after = latest-last p (length h) (records_of h) t.numbered e in
    let test : is_after p x ≡ true = and_both (ltb p.number x.number) (is_of p.content.name x) (lt-ltb p.number x.number b) (is-of p.content.name x name) in
    let z : next_of p v ≡ some x = ap (find_last (is_after p)) r ∙ last-here (is_after p) x (records_of h) test none_after in
    and_both (is_prepare p.content.status) _ prepares (rw z (eq-eqb (status_code x.content.status) (status_code p.content.status + 2) code))

-- ---- carried orders

pub carried-more : (p : Logged) (o : Order) (h : History) → carried_for p (order_carried o ∷ h) ≡ cond (eqb o.for p.number) 1 0 + carried_for p h
unfolding collect count_where
carried-more p o h = refl
