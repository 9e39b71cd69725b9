-- Produce: the entry that it writes is for a name whose latest record is a flushed BEGIN of its producer, and the state agrees after it.
use Prim.Native.Nat.{ℕ, ◌+◌, ◌*◌, ◌≤◌, ◌<◌}
use mathlib.Core.Path.{◌≡◌, refl, sym, ap, subst, ◌∙◌}
use mathlib.Core.Logic.{◌≢◌}
use mathlib.Core.Bool.{true, true≢false}
use mathlib.Core.List.{List, [], ◌∷◌, ◌++◌}
use mathlib.Core.Option.{some}
use native.Mathlib.Decide.{ℕ_discrete}
use native.Mathlib.Omega.{arith}
use lib.IntN.{ℤ, pos}
use lib.ListN.{length, take, get_or, set, length-set}
use lib.Seq.{length-take-le, get_or-set_same, get_or-set_other, set-get_or}
use borrow.Author.Tests.{ltb-true, ltb-false, le-leb, eq-eqb, ne_eqb}
use Rattle.numbers.specs.Signed.{to_nat}
use Rattle.numbers.specs.Bytes.{overwrite}
use Rattle.numbers.specs.Padded.{padded}
use Rattle.numbers.proofs.Signed.{at_least, natural-pos}
use Rattle.numbers.proofs.Bytes.{take-through}
use Rattle.numbers.proofs.Tests.{by_cases}
use Rattle.bits.specs.Bits.{member}
use Rattle.bits.proofs.Laws.{member_below}
use Rattle.catalogue.specs.declared.Catalogue.{Catalogue}
use Rattle.catalogue.proofs.Laws.{all-bound, not-refused}
use Rattle.record.specs.Limits.{name_max}
use Rattle.record.proofs.Bounds.{well-formed-parts}
use Rattle.search.specs.Search.{Each}
use Rattle.search.proofs.Each.{each_at}
use Rattle.search.proofs.Found.{found-is}
use Rattle.search.proofs.Find.{find-in}
use Rattle.answers.specs.Limits.{places}
use Rattle.answers.specs.Refusals.{first_refusal}
use Rattle.answers.specs.ProduceAnswer.{Refused}
use Rattle.answers.proofs.Laws.{unless-does}
use Rattle.row.specs.Row.{is_prepare}
use Rattle.row.specs.declared.Row.{Row}
use Rattle.row.proofs.Laws.{is-begin}
use Rattle.table.specs.Table.{row_at}
use Rattle.coordinator.specs.Coordinator.{place_of_name, row_of}
use Rattle.coordinator.specs.declared.Coordinator.{Coordinator}
use Rattle.coordinator.proofs.Held.{held-name, held-row}
use Rattle.partition.specs.Append.{produced, data_entry}
use Rattle.partition.specs.Limits.{entry_words}
use Rattle.partition.specs.Partition.{producer_at, no_producer, entry, Action as PartitionAction, keep as keep_partition, write, after as partition_after}
use Rattle.partition.specs.declared.Partition.{Partition}
use Rattle.partition.specs.declared.Producer.{Producer}
use Rattle.partition.proofs.Fits.{data-fits}
use Rattle.partition.proofs.Reserve.{opened-reserved, opened-room}
use Rattle.server.specs.Produce.{producer_then, produce_tests, produce}
use Rattle.server.proofs.ProduceCases.{ProducePassed, produce-passed}
use Rattle.runs.specs.History.{Produced, entry_written, History, Logged, records_of, flushed_of, latest_of, is_of, words_of, words_in}
use Rattle.runs.specs.World.{Leader, open_leader, Phase, up, Carrying, nothing, World, catalogue_of, leader_at, with_leader, leader_does}
use Rattle.runs.specs.Demand3.{Entitled}
use Rattle.runs.proofs.Admitted.{Own, OwnWords}
use Rattle.protocol.specs.Entries.{Entry, entries_of}
use Rattle.protocol.specs.NextEvent.{MayBeNext}
use Rattle.protocol.proofs.TableOfRecords.{come-record}
use Rattle.protocol.proofs.Events.{entry-records, more-entries}
use Rattle.protocol.proofs.Extends.{Extends, still, more, extends-keeps}
use Rattle.agreement.proofs.Invariant.{LogSide, LeaderAgrees, epoch_of, place_in, NoneOpen, AcksSide, CarryingSide, Invariant}
use Rattle.agreement.proofs.LiveTable.{live-record-at, RecordAt}
use Rattle.agreement.proofs.RowsAfterProduce.{rows-entered, rows-entered-elsewhere}
use Rattle.agreement.proofs.Acknowledgements.{none-open-entered, acks-kept}
use Rattle.agreement.proofs.Words.{words-next, words_same}
use Rattle.agreement.proofs.Preserves.{Preserves, log-same, none-carried, log-of, acks-of, carries-nothing-preserves, rows_of}

-- ---- a leader

pub own_at : (w : World) → Own w → (x : ℕ) → OwnWords (leader_at w x)
own_at w o x = each_at OwnWords w.leaders (open_leader []) x o.of_words (record { reserved = opened-reserved 0; room = opened-room 0 })

-- how many words its entries have
pub words-length : (w : World) → Invariant w → (x : ℕ) → entry_words * (leader_at w x).partition.end ≡ length (words_of x w.history)
words-length w i x =
    let o = own_at w i.own x in
    let l = leader_at w x in
    let fits : entry_words * l.partition.end ≤ length l.words = omega (arith, o.reserved.within, o.room) in
    sym (length-take-le (entry_words * l.partition.end) l.words fits) ∙ ap length (i.leaders x).words

-- one leader changes, and the history
pub leader-preserves : (w : World) → Invariant w → (x : ℕ) → x < length w.leaders → (l : Leader) (k : Carrying) (v : History) → Extends (catalogue_of w) w.history v
    → Each (λ (p : Entry). entry_words * p.what.offset ≡ length (words_of p.what.position p.before)) (entries_of v)
    → LogSide (catalogue_of w) w.log w.phase v → AcksSide (catalogue_of w) w.phase v → LeaderAgrees (catalogue_of w) v (epoch_of w.phase) x l
    → ((y : ℕ) → y ≢ x → LeaderAgrees (catalogue_of w) v (epoch_of w.phase) y (leader_at w y)) → CarryingSide (catalogue_of w) v w.phase k
    → Preserves w (with_leader w x l k v)
leader-preserves w i x b l k v g offsets log-side acks here others carried =
    record {
      same_text = refl;
      extends = g;
      holds = λ o. record {
        parsed = i.parsed;
        of-history = extends-keeps (catalogue_of w) w.history i.of-history g;
        offsets = offsets;
        log-side = log-side;
        acks = acks;
        own = o;
        count = length-set w.leaders x l ∙ i.count;
        leaders = λ y. go y (ℕ_discrete y x);
        carried = carried;
      };
    }
  where
    go : (y : ℕ) → Dec (y ≡ x) → LeaderAgrees (catalogue_of w) v (epoch_of w.phase) y (get_or (set w.leaders x l) y (open_leader []))
    go y (yes e) = rw (e, get_or-set_same w.leaders x l (open_leader []) b) here
    go y (no n) = rw (get_or-set_other w.leaders x y l (open_leader []) n) (others y n)

-- a leader that does nothing
pub same-leader-preserves : (w : World) → Invariant w → (x : ℕ) → Preserves w (with_leader w x (leader_at w x) nothing w.history)
same-leader-preserves w i x =
    subst (λ (ls : List Leader). Preserves w (record { text = w.text; log = w.log; phase = w.phase; leaders = ls; carrying = nothing; history = w.history }))
    (sym (set-get_or w.leaders x (open_leader []))) (carries-nothing-preserves w i)

-- a position of the catalogue has a leader
pub position-below : (w : World) → Invariant w → (position : ℕ) → member (catalogue_of w).all position ≡ true → position < length w.leaders
position-below w i position m =
    let b = member_below 64 (catalogue_of w).all position (all-bound w.text (catalogue_of w) (not-refused w.text i.parsed)) m in
    omega (arith, i.count)

-- ---- Produce

module _ (w : World) (i : Invariant w) (s : Coordinator) (u : w.phase ≡ up s) (name : List ℕ) (pid epoch : ℤ) (x : ℕ) (sequence : ℤ) (payload : ℕ) where
  abbrev c : Catalogue
  c = catalogue_of w

  abbrev h : History
  h = w.history

  abbrev p : Partition
  p = (leader_at w x).partition

  abbrev words : List ℕ
  words = (leader_at w x).words

  abbrev e : Produced
  e = record { name = padded name_max name; pid = pid; epoch = epoch; position = x; sequence = sequence; payload = payload; offset = p.end }

  module _ (t : ProducePassed s p (length words) name pid epoch x sequence payload) where
    abbrev k0 : ℕ
    k0 = place_of_name s name

    abbrev row : Row
    row = row_of s name

    abbrev q : Producer
    q = producer_then p k0 row sequence

    all : length s.table.rows ≡ places
    all = rows_of w i s u

    st : RecordAt c w.log s h (log-of w i s u) i.of-history k0
    st = live-record-at c w.log s h (log-of w i s u) i.of-history k0 (held-row s all name t.named t.held)

    abbrev l : Logged
    l = st.latest

    is : latest_of (padded name_max name) h ≡ some l
    is = subst (λ (n : List ℕ). latest_of n h ≡ some l) (held-name s all name t.held) st.is

    at : place_in c (records_of h) (padded name_max name) ≡ k0
    at = subst (λ (n : List ℕ). place_in c (records_of h) n ≡ k0) (held-name s all name t.held) st.place

    entitled : Entitled e h l
    entitled =
        let (formed, natural) = come-record c (records_of h) i.of-history.come l (find-in (is_of (padded name_max name)) (records_of h) l is) in
        let (n, n-is) = (well-formed-parts c l.content formed).pid-natural in
        let (m, m-is, _) = at_least 0 l.content.epoch natural.epoch-natural in
        record {
          status = sym (ap (λ (r : Row). r.status) st.row) ∙ is-begin row.status t.begins;
          flushed = le-leb l.end (flushed_of h) (let z : row.end ≡ l.end = ap (λ (r : Row). r.end) st.row in let f = ltb-false s.flushed row.end t.flushed in omega (arith, (log-of w i s u).flushed));
          pid = sym (natural-pos l.content.pid n n-is) ∙ ap pos (sym (ap (λ (r : Row). r.pid) st.row)) ∙ sym t.same-pid;
          epoch = sym (natural-pos l.content.epoch m m-is) ∙ ap pos (sym (ap (λ (r : Row). r.epoch) st.row)) ∙ sym t.same-epoch;
          joined = subst (λ (n : ℕ). member n x ≡ true) (ap (λ (r : Row). r.joined) st.row) t.joins;
        }

    may : MayBeNext c h (entry_written e)
    may = record { entitled = found-is (Entitled e h) is entitled }

    below : x < length w.leaders
    below = position-below w i x (subst (λ (y : Catalogue). member y.all x ≡ true) (log-of w i s u).written.catalogue-is t.listed)

    -- the words of the entry
    abbrev four : List ℕ
    four = entry q.pid 0 q.epoch q.sequence payload

    four_is : words_in x (entry_written e) ≡ four
    unfolding produced
    four_is = rw (eq-eqb x x refl) (rw (t.same-pid, t.same-epoch) refl)

    new-words : take (entry_words * (p.end + 1)) (overwrite words (entry_words * p.end) four) ≡ words_of x (entry_written e ∷ h)
    new-words =
        let fits : entry_words * p.end + length four ≤ length words = data-fits p (length words) t.admitted k0 q payload t.room in
        let size : entry_words * (p.end + 1) ≡ entry_words * p.end + length four = omega arith in
        ap (λ (n : ℕ). take n (overwrite words (entry_words * p.end) four)) size ∙ take-through words (entry_words * p.end) four fits
        ∙ ap (λ (a : List ℕ). a ++ four) (i.leaders x).words ∙ ap (λ (b : List ℕ). words_of x h ++ b) (sym four_is) ∙ sym (words-next x (entry_written e) h)

    -- the rows
    place_inside : k0 < length p.producers
    place_inside = let o = own_at w i.own x in let b = holding in omega (arith, o.reserved.all)
      where
        holding : k0 < places
        holding = ltb-true k0 places t.held

    abbrev p' : Partition
    p' = partition_after (write p.coordinator k0 q four) p

    rows-here : producer_at p' k0 ≡ q
    rows-here = get_or-set_same p.producers k0 q no_producer place_inside

    rows-there : (k : ℕ) → k ≢ k0 → producer_at p' k ≡ producer_at p k
    rows-there k n = get_or-set_other p.producers k0 k q no_producer n

    first-is : q.first ≤ p.end
    unfolding produced
    first-is = by_cases (λ (n : ℕ). n ≤ p.end) (producer_at p k0).ongoing (λ o. (i.leaders x).rows.firsts k0 o) (λ o. omega arith)

    first-kept : (producer_at p k0).ongoing ≡ true → q.first ≡ (producer_at p k0).first
    unfolding produced
    first-kept o = rw o

    writes : Preserves w (leader_does x (data_entry p k0 q payload) (entry_written e) nothing w)
    unfolding produced
    writes =
        leader-preserves w i x below (record { partition = p'; words = overwrite words (entry_words * p.end) four }) nothing (entry_written e ∷ h) (more still may)
        (rw (more-entries e h) (words-length w i x, i.offsets))
        (log-same c w.log w.phase h (entry_written e ∷ h) (entry-records h e).records (entry-records h e).flushed i.log-side)
        (subst (λ (y : Phase). AcksSide c y (entry_written e ∷ h)) (sym u) (acks-kept c h s (entry_written e) kept (acks-of w i s u)))
        (record {
          words = new-words;
          rows = rows-entered c h i.of-history x p (i.leaders x).rows p' k0 q rows-here rows-there e l is entitled at refl (sym (ap to_nat t.same-pid))
              (sym (ap to_nat t.same-epoch)) first-is first-kept (let b = first-is in omega arith) (omega arith) refl;
          coordinator = (i.leaders x).coordinator;
        })
        (λ y n. record {
          words = (i.leaders y).words ∙ sym (words_same y (entry_written e) h (rw (ne_eqb x y (λ z. n (sym z))) refl));
          rows = rows-entered-elsewhere c h i.of-history y (leader_at w y).partition (i.leaders y).rows e (λ z. n (sym z));
          coordinator = (i.leaders y).coordinator;
        })
        (none-carried c (entry_written e ∷ h) w.phase)
      where
        kept : (y k : ℕ) → member (row_at s.table k).acknowledged y ≡ true → NoneOpen c h (records_of h) y k → NoneOpen c (entry_written e ∷ h) (records_of (entry_written e ∷ h)) y k
        kept y k m n = none-open-entered c h e y k (λ a b. true≢false (sym (subst (λ (j : ℕ). is_prepare (row_at s.table j).status ≡ true) (sym b ∙ at) ((acks-of w i s u).prepared k y m))
            ∙ ap is_prepare (is-begin row.status t.begins))) n

  pub produce-preserves : Preserves w (leader_does x (produce s p (length words) name pid epoch x sequence payload).action (entry_written e) nothing w)
  unfolding produce
  produce-preserves =
      unless-does (first_refusal (produce_tests s p (length words) name pid epoch x sequence)) Refused keep_partition _
      (λ (a : PartitionAction). Preserves w (leader_does x a (entry_written e) nothing w)) (same-leader-preserves w i x) (λ z. writes (produce-passed s p (length words) name pid epoch x sequence payload z))
