-- The invariant holds at the start: the history of an accepted opening is that of the records that stand in the log.
use Prim.Native.Nat.{ℕ, zero, suc, ◌+◌, ◌-◌, ◌≤◌}
use mathlib.Core.Path.{◌≡◌, refl, sym, ap, subst, ◌∙◌}
use mathlib.Core.Bool.{true, true≢false}
use mathlib.Core.List.{List, [], ◌∷◌, ◌++◌, append_assoc}
use native.Mathlib.Omega.{arith}
use lib.ListN.{length, take, get_or, length-append, length-take}
use lib.Seq.{drop-append_seam}
use borrow.Author.Tests.{not-false}
use Rattle.catalogue.specs.Catalogue.{Distinct, parse}
use Rattle.catalogue.specs.Limits.{positions}
use Rattle.catalogue.specs.declared.Catalogue.{Catalogue}
use Rattle.catalogue.proofs.Laws.{parsed-distinct}
use Rattle.record.specs.Frame.{frame}
use Rattle.record.specs.Reading.{is_torn_rest}
use Rattle.record.specs.Record.{well_formed}
use Rattle.record.specs.declared.Record.{Record}
use Rattle.record.proofs.Frames.{reads-longer, short-torn}
use Rattle.record.proofs.Lengths.{frame-length}
use Rattle.record.proofs.RoundTrip.{reads-alone}
use Rattle.search.specs.Search.{Each}
use Rattle.search.proofs.Laws.{repeated}
use Rattle.search.proofs.Members.{in-each}
use Rattle.answers.specs.Limits.{places}
use Rattle.answers.specs.Refusals.{numbers_of, among}
use Rattle.answers.proofs.Laws.{none-applies}
use Rattle.table.specs.Table.{empty_table}
use Rattle.log_reader.specs.Read.{log_read, read_tests}
use Rattle.log_reader.specs.Records.{frames_of}
use Rattle.log_reader.proofs.RecordLaws.{come-formed, frames-newest, frames-none}
use Rattle.log_reader.proofs.RecordsRead.{Says, scan-records, says-torn}
use Rattle.coordinator.specs.Coordinator.{log_end}
use Rattle.coordinator.specs.Open.{take_over_tests, open_tests, opening}
use Rattle.coordinator.specs.OpenedLog.{OpenedLog}
use Rattle.coordinator.proofs.OpenCases.{open-number, opening-taken}
use Rattle.writable_logs.specs.Writer.{AcceptedOpening}
use Rattle.writable_logs.proofs.Reached.{opened-catalogue}
use Rattle.writable_logs.proofs.Reopening.{written-opened}
use Rattle.writable_logs.proofs.Written.{written-end}
use Rattle.partition.specs.Partition.{open_partition, producer_at, no_producer}
use Rattle.partition.specs.declared.Producer.{Producer}
use Rattle.runs.specs.History.{record_appended, log_opened, History, orders_in, markers_in, collect, collect_with_before, records_of, contents, end_of, words_of}
use Rattle.runs.specs.World.{open_leader, open_leaders, records_read, up, nothing, FirstOpening, Accepted, start, World}
use Rattle.runs.specs.Demand3.{Ends}
use Rattle.runs.proofs.Admitted.{start-own}
use Rattle.protocol.specs.RecordsOfName.{NumberedBelow}
use Rattle.protocol.specs.Entries.{entries_of}
use Rattle.protocol.specs.HistoryInvariant.{HistoryInvariant}
use Rattle.protocol.proofs.Cuts.{numbered_more}
use Rattle.protocol.proofs.Events.{collect-before-same, collect-same, opened-flushed, same_entries, opened-records}
use Rattle.agreement.proofs.Invariant.{UpLog, LeaderAgrees, Invariant}
use Rattle.agreement.proofs.Words.{words_same}
use Rattle.agreement.proofs.Restarts.{fresh-acks, opening-valid}

-- ---- the events of records

unfoldable events_for : Catalogue → List Record → History
events_for c [] = []
events_for c (r ∷ records) = record_appended r (length (frames_of c (r ∷ records))) ∷ events_for c records

module _ (c : Catalogue) where
  for-contents : (records : List Record) → contents (records_of (events_for c records)) ≡ records
  unfolding events_for records_of
  for-contents [] = refl
  for-contents (r ∷ records) = ap (λ (l : List Record). r ∷ l) (for-contents records)

  for-end : (records : List Record) → end_of (records_of (events_for c records)) ≡ length (frames_of c records)
  unfolding events_for records_of
  for-end [] = ap length (sym (frames-none c))
  for-end (r ∷ records) = refl

  for-ends : (records : List Record) → Ends c (records_of (events_for c records))
  unfolding events_for records_of
  for-ends [] = tt
  for-ends (r ∷ records) = (ap length (frames-newest c r records) ∙ length-append (frames_of c records) (frame c r) ∙ ap (λ (n : ℕ). n + length (frame c r)) (sym (for-end records)), for-ends records)

  for-numbered : (records : List Record) → NumberedBelow (length (events_for c records)) (records_of (events_for c records))
  unfolding events_for records_of
  for-numbered [] = tt
  for-numbered (r ∷ records) = (omega arith, for-numbered records)

  for-no-marker : (records : List Record) → collect markers_in (events_for c records) ≡ []
  unfolding events_for collect
  for-no-marker [] = refl
  for-no-marker (r ∷ records) = for-no-marker records

  for-no-entry : (records : List Record) → entries_of (events_for c records) ≡ []
  unfolding events_for collect_with_before
  for-no-entry [] = refl
  for-no-entry (r ∷ records) = for-no-entry records

  for-no-order : (records : List Record) → collect_with_before orders_in (events_for c records) ≡ []
  unfolding events_for collect_with_before
  for-no-order [] = refl
  for-no-order (r ∷ records) = for-no-order records

  for-no-words : (x : ℕ) (records : List Record) → words_of x (events_for c records) ≡ []
  unfolding events_for words_of
  for-no-words x [] = refl
  for-no-words x (r ∷ records) = rw (for-no-words x records) refl

  -- ---- reading them

  torn-end : (fuel at : ℕ) (rest : List ℕ) (h : History) → is_torn_rest rest ≡ true → records_read c fuel at rest h ≡ h
  unfolding records_read
  torn-end zero at rest h e = refl
  torn-end (suc fuel) at rest h e = rw (short-torn c at rest e) refl

  read_one : (d : Distinct c) (fuel at : ℕ) (r : Record) (rest : List ℕ) (h : History) → well_formed c r ≡ true
      → records_read c (suc fuel) at (frame c r ++ rest) h ≡ records_read c fuel (at + length (frame c r)) rest (record_appended r (at + length (frame c r)) ∷ h)
  unfolding records_read
  read_one d fuel at r rest h w =
      let size : at + length (frame c r) - at ≡ length (frame c r) = omega arith in
      rw (reads-longer c at r rest (reads-alone c r at d w), size, drop-append_seam (frame c r) rest) refl

  read_all : (d : Distinct c) (records : List Record) → Each (λ (r : Record). well_formed c r ≡ true) records → (fuel : ℕ) → length records ≤ fuel → (rest : List ℕ)
      → records_read c fuel 0 (frames_of c records ++ rest) [] ≡ records_read c (fuel - length records) (length (frames_of c records)) rest (events_for c records)
  read_all d [] w fuel b rest = let z : fuel - 0 ≡ fuel = omega arith in rw (frames-none c, z) (unfold events_for in refl)
  read_all d (r ∷ records) (w, ws) fuel b rest =
      let left = fuel - length (r ∷ records) in
      let more : fuel - length records ≡ suc left = omega arith in
      let size : length (frames_of c records) + length (frame c r) ≡ length (frames_of c (r ∷ records)) = sym (ap length (frames-newest c r records) ∙ length-append (frames_of c records) (frame c r)) in
      ap (λ (s : List ℕ). records_read c fuel 0 s []) (ap (λ (s : List ℕ). s ++ rest) (frames-newest c r records) ∙ append_assoc (frames_of c records) (frame c r) rest)
      ∙ read_all d records ws fuel (omega arith) (frame c r ++ rest)
      ∙ ap (λ (n : ℕ). records_read c n (length (frames_of c records)) (frame c r ++ rest) (events_for c records)) more
      ∙ read_one d left (length (frames_of c records)) r rest (events_for c records) w
      ∙ ap (λ (n : ℕ). records_read c left n rest (record_appended r n ∷ events_for c records)) size
      ∙ ap (records_read c left (length (frames_of c (r ∷ records))) rest) (unfold events_for in refl)

  frames-least : (records : List Record) → length records ≤ length (frames_of c records)
  frames-least [] = omega arith
  frames-least (r ∷ records) = let i = frames-least records in omega (arith, ap length (frames-newest c r records) ∙ length-append (frames_of c records) (frame c r), frame-length c r)

-- ---- a first opening

module _ (o : FirstOpening) (a : Accepted o) where
  abbrev c : Catalogue
  c = (parse o.text).catalogue

  abbrev says : Says c (take o.length o.log) empty_table
  says = scan-records c (take o.length o.log) empty_table

  accepting : AcceptedOpening o.text o.length
  accepting = record { log = o.log; epoch = o.epoch; first = o.first; last = o.last; typed = a.1; accepted = a.0 }

  parsed : (parse o.text).refusal ≡ 0
  parsed = opened-catalogue o.text o.length accepting

  good : (log_read o.text o.log o.length).good ≡ true
  unfolding open_tests read_tests take_over_tests numbers_of among
  good =
      let (_, (_, (whole, _))) = none-applies (open_tests o.text o.log o.length o.epoch o.first o.last) refl (sym (open-number o.text o.log o.length o.epoch o.first o.last) ∙ a.0) in
      not-false _ whole

  -- what the history starts with
  first-events : records_read c o.length 0 (take o.length o.log) [] ≡ events_for c says.records
  first-events =
      let bytes : length (frames_of c says.records) ≤ o.length = omega (arith, ap length says.bytes ∙ length-append (frames_of c says.records) says.rest, length-take o.length o.log) in
      ap (λ (s : List ℕ). records_read c o.length 0 s []) says.bytes
      ∙ read_all c (parsed-distinct o.text parsed) says.records (come-formed c empty_table says.records says.come) o.length (let l = frames-least c says.records in omega arith) says.rest
      ∙ torn-end c _ _ says.rest (events_for c says.records) (says-torn c (take o.length o.log) empty_table says good)

  abbrev h : History
  h = log_opened o.epoch ∷ events_for c says.records

  records : records_of h ≡ records_of (events_for c says.records)
  records = opened-records (events_for c says.records) o.epoch

  no-entries : entries_of h ≡ []
  no-entries = same_entries (log_opened o.epoch) (events_for c says.records) refl ∙ for-no-entry c says.records

  no-orders : collect_with_before orders_in h ≡ []
  no-orders = collect-before-same orders_in (log_opened o.epoch) (events_for c says.records) refl ∙ for-no-order c says.records

  no-markers : collect markers_in h ≡ []
  no-markers = collect-same markers_in (log_opened o.epoch) (events_for c says.records) refl ∙ for-no-marker c says.records

  of-history : HistoryInvariant c h
  of-history =
      record {
        come = rw (records, for-contents c says.records) says.come;
        ends = rw records (for-ends c says.records);
        numbered = rw records (numbered_more (length (events_for c says.records)) (suc (length (events_for c says.records))) (records_of (events_for c says.records)) (omega arith) (for-numbered c says.records));
        entitled = rw no-entries tt;
        standing = λ k b. rw no-entries tt;
        by-ordinal = rw no-entries (in-each _ (records_of h) (λ q i p. tt));
        for-prepare = rw no-orders tt;
        marks = rw no-markers tt;
        already-closed = λ k b. rw no-markers tt;
        one-marker = rw no-markers tt;
      }

  log-side : UpLog c o.log (opening o.text o.log o.length o.epoch o.first o.last).state h
  log-side =
      let w = written-opened o.text o.log o.length o.epoch o.first o.last a.1 a.0 in
      let taken = opening-taken o.text o.log o.length o.epoch o.first o.last (sym (open-number o.text o.log o.length o.epoch o.first o.last) ∙ a.0) in
      record {
        written = rw (records, for-contents c says.records) w;
        flushed =
            ap (λ (x : OpenedLog). x.state.flushed) taken ∙ sym (ap (λ (x : OpenedLog). log_end x.state) taken)
            ∙ written-end c o.log (opening o.text o.log o.length o.epoch o.first o.last).state says.records w ∙ sym (for-end c says.records)
            ∙ sym (opened-flushed (events_for c says.records) o.epoch);
      }

  -- a partition that is just opened
  no-producer : (n k : ℕ) → producer_at (open_partition n) k ≡ no_producer
  unfolding open_partition
  no-producer n k = repeated places k no_producer

  fresh-leader : (epoch x : ℕ) (l : List ℕ) → LeaderAgrees c h epoch x (open_leader l)
  unfolding open_partition
  fresh-leader epoch x l =
      record {
        words = sym (words_same x (log_opened o.epoch) (events_for c says.records) refl ∙ for-no-words c x says.records);
        rows =
            record {
              entry_row = λ k b. rw no-entries tt;
              row-entry = λ k b j s n. true≢false (sym s ∙ ap (λ (y : Producer). y.ongoing) (no-producer (length l) j));
              epochs = λ k b j f e. rw (no-producer (length l) j) (omega arith);
              firsts = λ j s. absurd (true≢false (sym s ∙ ap (λ (y : Producer). y.ongoing) (no-producer (length l) j)));
              pids = λ k b j n. absurd (n (ap (λ (y : Producer). y.pid) (no-producer (length l) j)));
            };
        coordinator = omega arith;
      }

  opened-at : (n : ℕ) (words : List (List ℕ)) (x : ℕ) → (l : List ℕ) × (get_or (open_leaders n words) x (open_leader []) ≡ open_leader l)
  unfolding open_leaders
  opened-at zero words x = ([], refl)
  opened-at (suc n) [] zero = ([], refl)
  opened-at (suc n) [] (suc x) = opened-at n [] x
  opened-at (suc n) (l ∷ words) zero = (l, refl)
  opened-at (suc n) (l ∷ words) (suc x) = opened-at n words x

  opened-count : (n : ℕ) (words : List (List ℕ)) → length (open_leaders n words) ≡ n
  unfolding open_leaders
  opened-count zero words = refl
  opened-count (suc n) [] = ap suc (opened-count n [])
  opened-count (suc n) (l ∷ words) = ap suc (opened-count n words)

  -- the world that a history starts
  abbrev start_with : History → World
  start_with v =
      record {
        text = o.text;
        log = o.log;
        phase = up (opening o.text o.log o.length o.epoch o.first o.last).state;
        leaders = open_leaders positions o.words;
        carrying = nothing;
        history = v;
      }

  start-agrees : Invariant (start_with h)
  start-agrees =
      record {
        parsed = parsed;
        of-history = of-history;
        offsets = rw no-entries tt;
        log-side = log-side;
        acks = fresh-acks c h _ (opening-valid o.text o.log o.length o.epoch o.first o.last a.0).0;
        own = record { of-log = (start-own o a).of-log; of_words = (start-own o a).of_words };
        count = opened-count positions o.words;
        leaders = λ x. let (l, is) = opened-at positions o.words x in rw is (fresh-leader _ x l);
        carried = tt;
      }

  pub start-invariant : Invariant (start o)
  start-invariant = subst (λ (v : History). Invariant (start_with v)) (sym (ap (λ (y : History). log_opened o.epoch ∷ y) first-events)) start-agrees
