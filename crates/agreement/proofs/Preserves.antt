-- A step preserves the invariant if its history grows by events that may come next and the invariant holds after it (`Preserves`). Every action of the
-- coordinator does, and every event that writes nothing.
use Prim.Native.Nat.{ℕ, ◌+◌, ◌≤◌, ◌<◌}
use mathlib.Core.Option.{some}
use mathlib.Core.Path.{◌≡◌, refl, sym, ap, subst, ◌∙◌}
use mathlib.Core.Bool.{true, false}
use mathlib.Core.List.{List, [], ◌∷◌}
use native.Mathlib.Omega.{arith}
use lib.ListN.{length}
use borrow.Author.Tests.{ltb-true}
use Rattle.numbers.proofs.Tests.{not-both}
use Rattle.catalogue.specs.declared.Catalogue.{Catalogue}
use Rattle.record.specs.Record.{well_formed}
use Rattle.answers.specs.Limits.{places}
use Rattle.row.specs.Row.{record_of, with_acknowledged, held}
use Rattle.row.specs.declared.Row.{Row}
use Rattle.table.specs.Table.{place_for, place_of, row_at}
use Rattle.table.proofs.Records.{come-place}
use Rattle.table.proofs.Unacknowledged.{unacknowledged, plain-place-for}
use Rattle.coordinator.specs.Coordinator.{log_end, row_frame, Action, keep, advance, append, acknowledge as acknowledge_at, flush_to, acknowledged, after}
use Rattle.coordinator.specs.declared.Coordinator.{Coordinator}
use Rattle.coordinator.specs.Calls.{CoordinatorCall, call_typed, action_of}
use Rattle.writable_logs.proofs.Decisions.{Decided, by_call}
use Rattle.writable_logs.proofs.Lawful.{Lawful, decided-lawful, Ready, ComesNext}
use Rattle.runs.specs.History.{Event, record_appended, log_flushed, History, records_of, contents, flushed_of, words_in, Logged, latest_of}
use Rattle.runs.specs.World.{Leader, Phase, up, down, nothing, World, catalogue_of, leader_at, with_carrying, history_after, coordinator_does, is_ack, Carrying}
use Rattle.runs.proofs.Epochs.{epoch-kept}
use Rattle.runs.proofs.Admitted.{Own}
use Rattle.protocol.specs.Entries.{entries_of}
use Rattle.protocol.specs.HistoryInvariant.{HistoryInvariant}
use Rattle.protocol.specs.NextEvent.{MayBeNext}
use Rattle.protocol.proofs.Events.{flush-records, same_entries}
use Rattle.protocol.proofs.WritesNothing.{WritesNothing, flush-writes-nothing}
use Rattle.protocol.proofs.Extends.{Extends, still, extends-keeps, more}
use Rattle.agreement.proofs.Invariant.{UpLog, LogSide, LeaderAgrees, epoch_of, AcksAgree, AcksSide, CarryingSide, Invariant, place_in}
use Rattle.agreement.proofs.FlushedFirst.{FlushedFirst, call-flushed-first, proper}
use Rattle.agreement.proofs.LiveTable.{live-ready, append-may, live-holds, live-latest, live-place}
use Rattle.agreement.proofs.LogSteps.{MayAppend, up-acts, up-extends}
use Rattle.agreement.proofs.Rows.{rows-unwritten, rows_append}
use Rattle.agreement.proofs.Acknowledgements.{none-open-kept, acks-kept, acks-rows, acks-appended}
use Rattle.agreement.proofs.Words.{words_same}

pub record Preserves (w v : World) : Type 0 where
  pub same_text : v.text ≡ w.text
  pub extends : Extends (catalogue_of w) w.history v.history
  pub holds : Own v → Invariant v

-- ---- the same records

pub log-same : (c : Catalogue) (log : List ℕ) (p : Phase) (h v : History) → records_of v ≡ records_of h → flushed_of v ≡ flushed_of h → LogSide c log p h → LogSide c log p v
log-same c log (up s) h v r f l = record { written = rw r l.written; flushed = l.flushed ∙ sym f }
log-same c log (down n before) h v r f l =
    record {
      state = l.state;
      records = l.records;
      written = l.written;
      low = l.low;
      high = l.high;
      left = ap contents r ∙ l.left;
      flushed = f ∙ l.flushed;
      within = rw r l.within;
    }

-- ---- events

-- while nothing is carried nothing is asked
pub none-carried : (c : Catalogue) (h : History) (p : Phase) → CarryingSide c h p nothing
none-carried c h (up s) = tt
none-carried c h (down n before) = tt

-- an event that writes no entry
pub leader-unwritten : (c : Catalogue) (h : History) → HistoryInvariant c h → (e : Event) → WritesNothing h e → ((x : ℕ) → words_in x e ≡ []) → (epoch x : ℕ) (l : Leader) → LeaderAgrees c h epoch x l
    → LeaderAgrees c (e ∷ h) epoch x l
leader-unwritten c h t e q n epoch x l a =
    record { words = a.words ∙ sym (words_same x e h (n x)); rows = rows-unwritten c h t x l.partition a.rows e q; coordinator = a.coordinator }

-- an event that writes nothing, with the phase and what is carried after it
pub unwritten-preserves : (w : World) → Invariant w → (e : Event) (p : Phase) (k : Carrying) → WritesNothing w.history e → ((x : ℕ) → words_in x e ≡ []) → MayBeNext (catalogue_of w) w.history e
    → LogSide (catalogue_of w) w.log p (e ∷ w.history) → AcksSide (catalogue_of w) p (e ∷ w.history) → epoch_of w.phase ≤ epoch_of p → CarryingSide (catalogue_of w) (e ∷ w.history) p k
    → Preserves w (record { text = w.text; log = w.log; phase = p; leaders = w.leaders; carrying = k; history = e ∷ w.history })
unwritten-preserves w i e p k n no_words may log-side acks rises carried =
    let c = catalogue_of w in
    let h = w.history in
    record {
      same_text = refl;
      extends = more still may;
      holds = λ o. record {
        parsed = i.parsed;
        of-history = extends-keeps c h i.of-history (more still may);
        offsets = rw (same_entries e h n.no-entry) i.offsets;
        log-side = log-side;
        acks = acks;
        own = o;
        count = i.count;
        leaders = λ x.
            let a = leader-unwritten c h i.of-history e n no_words (epoch_of w.phase) x (leader_at w x) (i.leaders x) in
            record { words = a.words; rows = a.rows; coordinator = omega (arith, a.coordinator) };
        carried = carried;
      };
    }

entries-after : (a : Action) (s : Coordinator) (h : History) → entries_of (history_after a s h) ≡ entries_of h
entries-after keep s h = refl
entries-after (advance clock) s h = refl
entries-after (append place row) s h = same_entries (record_appended (record_of row) (log_end s + length (row_frame s row))) h refl
entries-after (acknowledge_at place position) s h = refl
entries-after (flush_to n) s h = same_entries (log_flushed n) h refl

-- what is acknowledged is closed
abbrev pub AcknowledgesClosed : Catalogue → Coordinator → History → Action → Type 0
AcknowledgesClosed c s h keep = Unit {0}
AcknowledgesClosed c s h (advance clock) = Unit {0}
AcknowledgesClosed c s h (append place row) = Unit {0}
AcknowledgesClosed c s h (acknowledge_at place position) = AcksAgree c h (acknowledged s place position)
AcknowledgesClosed c s h (flush_to n) = Unit {0}

module _ (w : World) (i : Invariant w) where
  abbrev c : Catalogue
  c = catalogue_of w

  abbrev h : History
  h = w.history

  pub same : Preserves w w
  same = record { same_text = refl; extends = still; holds = λ o. i }

  -- nothing is carried any more
  pub carries-nothing-preserves : Preserves w (with_carrying w nothing)
  carries-nothing-preserves =
      record {
        same_text = refl;
        extends = still;
        holds = λ o. record {
          parsed = i.parsed;
          of-history = i.of-history;
          offsets = i.offsets;
          log-side = i.log-side;
          acks = i.acks;
          own = o;
          count = i.count;
          leaders = i.leaders;
          carried = none-carried c h w.phase;
        };
      }

  module _ (s : Coordinator) (u : w.phase ≡ up s) where
    pub log-of : UpLog c w.log s h
    log-of = subst (λ (p : Phase). LogSide c w.log p h) u i.log-side

    pub acks-of : AcksAgree c h s
    acks-of = subst (λ (p : Phase). AcksSide c p h) u i.acks

    pub leaders-of : (x : ℕ) → LeaderAgrees c h s.epoch x (leader_at w x)
    leaders-of x = subst (λ (p : Phase). LeaderAgrees c h (epoch_of p) x (leader_at w x)) u (i.leaders x)

    -- what is carried
    pub carrying-of : (k : Carrying) → w.carrying ≡ k → CarryingSide c h (up s) k
    carrying-of k e = subst (λ (p : Phase). CarryingSide c h p k) u (subst (CarryingSide c h w.phase) e i.carried)

    -- the table: its rows, and the row, place and record of a name
    pub ready_of : Ready s
    ready_of = live-ready c w.log s h log-of i.of-history

    pub rows_of : length s.table.rows ≡ places
    rows_of = (proper s ready_of).all

    pub place-of : (name : List ℕ) → place_of s.table name ≡ place_in c (records_of h) name
    place-of name = live-place c w.log s h log-of i.of-history name

    pub row-of : (name : List ℕ) (x : Logged) → latest_of name h ≡ some x → with_acknowledged (row_at s.table (place_of s.table name)) 0 ≡ held x.content x.end
    row-of name x e = live-latest c w.log s h log-of i.of-history name x e

    pub place_inside : (name : List ℕ) (x : Logged) → latest_of name h ≡ some x → place_of s.table name < places
    place_inside name x e = ltb-true (place_of s.table name) places (live-holds c w.log s h log-of i.of-history name x e)

    -- a record that comes next has a place
    pub append-inside : (place : ℕ) (row : Row) → ComesNext s place row → place < length s.table.rows
    append-inside place row l =
        let at : place_for (unacknowledged s.table) row.name ≡ place = plain-place-for s.table row.name ∙ l.place_is in
        omega (arith, come-place (unacknowledged s.table) (record_of row) l.comes, rows_of)

    leaders-after : (a : Action) → Lawful s a → MayAppend s h a → (x : ℕ) → LeaderAgrees c (history_after a s h) s.epoch x (leader_at w x)
    leaders-after keep l k x = leaders-of x
    leaders-after (advance clock) l k x = leaders-of x
    leaders-after (append place row) l m x =
        let end = log_end s + length (row_frame s row) in
        let a = leaders-of x in
        record {
          words = a.words ∙ sym (words_same x (record_appended (record_of row) end) h refl);
          rows = rows_append c h i.of-history x (leader_at w x).partition a.rows (record_of row) end (append-may c w.log s h log-of i.of-history place row l m.flushed m.nothing-open);
          coordinator = a.coordinator;
        }
    leaders-after (acknowledge_at place position) l k x = leaders-of x
    leaders-after (flush_to n) (rises, within) k x =
        leader-unwritten c h i.of-history (log_flushed n) (flush-writes-nothing h n (subst (λ (m : ℕ). m ≤ n) log-of.flushed rises)) (λ y. refl) s.epoch x (leader_at w x) (leaders-of x)

    acks-after : (a : Action) → Lawful s a → MayAppend s h a → AcknowledgesClosed c s h a → AcksAgree c (history_after a s h) (after a s)
    acks-after keep l k n = acks-of
    acks-after (advance clock) l k n = acks-rows c h s (after (advance clock) s) (λ j. refl) acks-of
    acks-after (append place row) l m n =
        acks-appended c h i.of-history s acks-of place row (append-inside place row l) l.none-acknowledged
        (subst (λ (y : Catalogue). well_formed y (record_of row) ≡ true) log-of.written.catalogue-is l.formed) (append-may c w.log s h log-of i.of-history place row l m.flushed m.nothing-open)
    acks-after (acknowledge_at place position) l k n = n
    acks-after (flush_to n) l k m =
        acks-rows c (log_flushed n ∷ h) s (after (flush_to n) s) (λ j. refl)
        (acks-kept c h s (log_flushed n) (λ x k b o. none-open-kept c h (log_flushed n) refl (λ position pid. refl) (flush-records h n) x k o) acks-of)

    -- an action, lent the log buffer
    pub action-preserves : (a : Action) → Decided s (length w.log) a → MayAppend s h a → AcknowledgesClosed c s h a → Preserves w (coordinator_does a s w)
    action-preserves a d k n =
        let l = decided-lawful s (ready_of) (length w.log) a d in
        let g = up-extends c w.log s h log-of i.of-history a l k in
        record {
          same_text = refl;
          extends = g;
          holds = λ o. record {
            parsed = i.parsed;
            of-history = extends-keeps c h i.of-history g;
            offsets = rw (entries-after a s h) i.offsets;
            log-side = up-acts c w.log s h log-of i.of-history a d;
            acks = acks-after a l k n;
            own = o;
            count = i.count;
            leaders = λ x. rw (epoch-kept a s) (leaders-after a l k x);
            carried = tt;
          };
        }

    -- every call but Ack
    flushed-first-may-append : (a : Action) → FlushedFirst s a → MayAppend s h a
    flushed-first-may-append keep k = tt
    flushed-first-may-append (advance clock) k = tt
    flushed-first-may-append (append place row) k = record { flushed = k.flushed; nothing-open = λ p. not-both k.unprepared p }
    flushed-first-may-append (acknowledge_at place position) k = tt
    flushed-first-may-append (flush_to n) k = tt

    flushed-first-acknowledges : (a : Action) → FlushedFirst s a → AcknowledgesClosed c s h a
    flushed-first-acknowledges keep k = tt
    flushed-first-acknowledges (advance clock) k = tt
    flushed-first-acknowledges (append place row) k = tt
    flushed-first-acknowledges (acknowledge_at place position) k = absurd k
    flushed-first-acknowledges (flush_to n) k = tt

    pub call-preserves : (call : CoordinatorCall) → call_typed call ≡ true → is_ack call ≡ false → Preserves w (coordinator_does (action_of call s (length w.log)) s w)
    call-preserves call t b =
        let k = call-flushed-first s (ready_of) (length w.log) call b in
        action-preserves (action_of call s (length w.log)) (by_call call t refl) (flushed-first-may-append (action_of call s (length w.log)) k) (flushed-first-acknowledges (action_of call s (length w.log)) k)
