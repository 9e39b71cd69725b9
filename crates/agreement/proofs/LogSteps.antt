-- The log and the history: what calls, cuts and openings do to them, that the bytes are the records' frames, and that what a cut leaves opens again.
use Prim.Native.Nat.{ℕ, ◌≤◌}
use mathlib.Core.Path.{◌≡◌, refl, sym, ap, subst, ◌∙◌}
use mathlib.Core.Bool.{true, false}
use mathlib.Core.List.{List, ◌∷◌}
use native.Mathlib.Omega.{arith}
use lib.IntN.{ℤ, pos}
use lib.ListN.{length, take}
use Rattle.catalogue.specs.Catalogue.{parse}
use Rattle.catalogue.specs.declared.Catalogue.{Catalogue}
use Rattle.record.specs.declared.Record.{Record}
use Rattle.answers.specs.Answers.{open_reply}
use Rattle.answers.specs.OpenAnswer.{Opened}
use Rattle.row.specs.Row.{is_prepare}
use Rattle.table.specs.Table.{row_at, place_of}
use Rattle.log_reader.specs.Records.{frames_of, table_of, whole_in}
use Rattle.log_reader.specs.Read.{log_read}
use Rattle.log_reader.proofs.RecordLaws.{table-length}
use Rattle.coordinator.specs.Coordinator.{log_end, unflushed, Action, keep, advance, append, acknowledge as acknowledge_at, flush_to, appended, acknowledged, after, log_after}
use Rattle.coordinator.specs.Open.{opening, taken_over}
use Rattle.coordinator.specs.declared.Coordinator.{Coordinator}
use Rattle.coordinator.specs.OpenedLog.{OpenedLog}
use Rattle.coordinator.proofs.OpenCases.{open-number, opening-taken}
use Rattle.writable_logs.specs.Writer.{opening_typed, out_of_order}
use Rattle.writable_logs.proofs.Decisions.{Decided}
use Rattle.writable_logs.proofs.Lawful.{Lawful}
use Rattle.writable_logs.proofs.Written.{Written, records_after, written-acts, written-end}
use Rattle.writable_logs.proofs.Reopening.{written-taken, written-opens, written-restarts}
use Rattle.runs.specs.History.{History, log_flushed, log_cut, log_opened, records_of, contents, end_of, flushed_of}
use Rattle.runs.specs.World.{history_after}
use Rattle.protocol.specs.HistoryInvariant.{HistoryInvariant}
use Rattle.protocol.specs.NextEvent.{NothingOpen, MayBeNext}
use Rattle.protocol.proofs.Cuts.{ending-end, ending-whole, ends-length}
use Rattle.protocol.proofs.Events.{opened-flushed, opened-records}
use Rattle.protocol.proofs.Extends.{Extends, still, more}
use Rattle.agreement.proofs.Invariant.{UpLog, DownLog}
use Rattle.agreement.proofs.LiveTable.{live_end, append-may}

-- ---- an action

contents-after : (a : Action) (s : Coordinator) (h : History) → contents (records_of (history_after a s h)) ≡ records_after a (contents (records_of h))
unfolding records_of
contents-after keep s h = refl
contents-after (advance clock) s h = refl
contents-after (append place row) s h = refl
contents-after (acknowledge_at place position) s h = refl
contents-after (flush_to n) s h = refl

flushed-after : (a : Action) (s : Coordinator) (h : History) → s.flushed ≡ flushed_of h → (after a s).flushed ≡ flushed_of (history_after a s h)
unfolding flushed_of appended acknowledged
flushed-after keep s h e = e
flushed-after (advance clock) s h e = e
flushed-after (append place row) s h e = e
flushed-after (acknowledge_at place position) s h e = e
flushed-after (flush_to n) s h e = refl

-- a record of a name may be appended: its latest one is flushed, and if that is a prepare nothing of the name is open
pub record MayAppendOf (s : Coordinator) (h : History) (name : List ℕ) : Type 0 where
  pub flushed : unflushed s.flushed (row_at s.table (place_of s.table name)) ≡ false
  pub nothing-open : is_prepare (row_at s.table (place_of s.table name)).status ≡ true → NothingOpen name h

abbrev pub MayAppend : Coordinator → History → Action → Type 0
MayAppend s h keep = Unit {0}
MayAppend s h (advance clock) = Unit {0}
MayAppend s h (append place row) = MayAppendOf s h row.name
MayAppend s h (acknowledge_at place position) = Unit {0}
MayAppend s h (flush_to n) = Unit {0}

module _ (c : Catalogue) (log : List ℕ) (s : Coordinator) (h : History) (u : UpLog c log s h) (t : HistoryInvariant c h) where
  pub up-acts : (a : Action) → Decided s (length log) a → UpLog c (log_after a s log) (after a s) (history_after a s h)
  up-acts a d =
      record {
        written = rw (contents-after a s h) (written-acts c log s (contents (records_of h)) u.written a d);
        flushed = flushed-after a s h u.flushed;
      }

  pub up-extends : (a : Action) → Lawful s a → MayAppend s h a → Extends c h (history_after a s h)
  up-extends keep l w = still
  up-extends (advance clock) l w = still
  up-extends (append place row) l m = more still (append-may c log s h u t place row l m.flushed m.nothing-open)
  up-extends (acknowledge_at place position) l w = still
  up-extends (flush_to n) (rises, within) w = more {e = log_flushed n} still (subst (λ (k : ℕ). k ≤ n) u.flushed rises)

  -- ---- a cut

  pub cut-may : (n : ℕ) → s.flushed ≤ n → MayBeNext c h (log_cut n)
  cut-may n f = rw (← u.flushed) f

  pub cut_down : (n : ℕ) → s.flushed ≤ n → n ≤ log_end s → DownLog c log n (log_cut n ∷ h)
  unfolding records_of flushed_of
  cut_down n f l =
      record {
        state = s;
        records = contents (records_of h);
        written = u.written;
        low = f;
        high = l;
        left = ending-whole c n (records_of h) t.ends;
        flushed = refl;
        within = ending-end n (records_of h);
      }

  pub up-agrees : take (end_of (records_of h)) log ≡ frames_of c (contents (records_of h))
  up-agrees = rw (← live_end c log s h u t) u.written.stands

  pub up-lengths : (log_end s ≡ end_of (records_of h)) × (s.flushed ≡ flushed_of h) × (flushed_of h ≤ end_of (records_of h))
  up-lengths = (live_end c log s h u t, u.flushed, omega (arith, u.flushed, live_end c log s h u t, u.written.flushed-within))

-- ---- an opening after a cut

module _ (text log : List ℕ) (p : (parse text).refusal ≡ 0) (n : ℕ) (h : History) (d : DownLog (parse text).catalogue log n h) (t : HistoryInvariant (parse text).catalogue h) where
  abbrev c : Catalogue
  c = (parse text).catalogue

  pub opened-may : (epoch : ℤ) → MayBeNext c h (log_opened epoch)
  opened-may epoch = omega (arith, d.flushed, d.within)

  pub opened_up : (epoch first last : ℤ) → opening_typed epoch first last ≡ true → (open_reply (opening text log n epoch first last).answer).number ≡ 0
      → UpLog c log (opening text log n epoch first last).state (log_opened epoch ∷ h)
  opened_up epoch first last typed accepted =
      record { written = rw (opened-records h epoch, d.left) w; flushed = is-flushed }
    where
      w : Written c log (opening text log n epoch first last).state (whole_in c n d.records)
      w = written-restarts text log d.state d.records p d.written n epoch first last d.low d.high typed accepted

      taken : opening text log n epoch first last ≡ record { answer = Opened; state = taken_over c (log_read text log n).table (length log) epoch first last }
      taken = opening-taken text log n epoch first last (sym (open-number text log n epoch first last) ∙ accepted)

      is-flushed : (opening text log n epoch first last).state.flushed ≡ flushed_of (log_opened epoch ∷ h)
      is-flushed =
          ap (λ (o : OpenedLog). o.state.flushed) taken ∙ sym (ap (λ (o : OpenedLog). log_end o.state) taken)
          ∙ written-end c log (opening text log n epoch first last).state (whole_in c n d.records) w ∙ ap (λ (l : List Record). length (frames_of c l)) (sym d.left)
          ∙ sym (ends-length c (records_of h) t.ends) ∙ sym (opened-flushed h epoch)

  -- what the cut left opens again
  pub down-restarts : (epoch first last : ℤ) → out_of_order epoch first last ≡ false → (open_reply (opening text log n epoch first last).answer).number ≡ 0
  down-restarts epoch first last o = rw (written-opens text log d.state d.records p d.written n epoch first last d.low d.high o) refl

  pub down-agrees : take (end_of (records_of h)) log ≡ frames_of c (contents (records_of h))
  down-agrees =
      let w = written-taken c log d.state d.records d.written n (pos 0) (pos 0) (pos 0) d.low refl in
      let at : (table_of c (whole_in c n d.records)).end ≡ end_of (records_of h) = table-length c (whole_in c n d.records) ∙ ap (λ (l : List Record). length (frames_of c l)) (sym d.left)
      ∙ sym (ends-length c (records_of h) t.ends) in
      rw (← at, d.left) w.stands
