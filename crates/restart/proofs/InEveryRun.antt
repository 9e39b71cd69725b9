-- Read in every run: it answers exactly the payloads of the entries that stand under COMMIT, up to the stable end.
use Prim.Native.Nat.{ℕ, zero, suc, ◌+◌, ◌-◌, ◌*◌, ◌≤◌, ◌<◌, min}
use mathlib.Core.Path.{◌≡◌, refl, sym, ap, ◌∙◌}
use mathlib.Core.Bool.{Bool, true, false}
use mathlib.Core.List.{List, [], ◌∷◌, ◌++◌, map, reverse, reverse-append, map-map}
use native.Mathlib.Omega.{arith}
use lib.Dec.{eqb, leb}
use lib.IntN.{pos}
use lib.ListN.{length, take, get_or, length-take, length-map}
use lib.Seq.{get_or-take, take-nil}
use borrow.Author.Tests.{eqb-true, eq-eqb, ne_eqb, leb-true, le-ltb, ltb-true}
use Rattle.numbers.proofs.Tests.{and_left, and_right, either}
use Rattle.search.specs.Search.{is_found, found, filter, Each}
use Rattle.search.proofs.Members.{In, in-each}
use Rattle.search.proofs.Find.{each-filter, filter_same, reverse-map, filter_map, each-reverse, filter-join, filter-miss, filter_none, filter-hit}
use Rattle.search.proofs.Each.{each-place}
use Rattle.answers.specs.Refusals.{first_refusal}
use Rattle.answers.specs.Answers.{accepted}
use Rattle.answers.proofs.Laws.{none_is}
use Rattle.partition.specs.Limits.{entry_words}
use Rattle.partition.specs.Partition.{admits, kind_at, payload_at, stable_end}
use Rattle.partition.specs.Read.{stands_under, committed, copy, read_tests, copied, read_answer, read_out}
use Rattle.partition.proofs.Reading.{oldest-most, oldest-row}
use Rattle.partition.proofs.Reserve.{admits-length}
use Rattle.runs.specs.History.{Order, Produced, History, records_of, produced_in, collect, collect_with_before, flushed_of, marker_over, words_of}
use Rattle.runs.specs.World.{Leader, open_leader, World, catalogue_of, leader_at, start, run}
use Rattle.runs.specs.InEveryRun.{entries_between, committed_between, offsets, payloads, ReadsFrom, ReadsCommitted, PidsOnce, InEveryRun}
use Rattle.runs.proofs.Admitted.{admits-exactly}
use Rattle.protocol.specs.Entries.{Entry, entries_of, under_of}
use Rattle.protocol.proofs.ProducerIds.{pid-owner, pid-given}
use Rattle.protocol.proofs.MarkerOver.{under-over, over-commit, over-some}
use Rattle.agreement.proofs.Invariant.{Invariant}
use Rattle.agreement.proofs.Rows.{open-owns}
use Rattle.agreement.proofs.Produces.{own_at, words-length}
use Rattle.agreement.proofs.Steps.{always}
use Rattle.restart.proofs.HoldsAt.{stands-under}
use Rattle.restart.proofs.Offsets.{in_range, range_split, data_in, falling, AtOffset, data_at, marker_at, moved, at_offset}

-- ---- what Read copies

-- the kind of the marker that an entry of a leader stands under, in the words
abbrev kind_over : Leader → Produced → ℕ
kind_over l e = stands_under l.words l.partition.end e.offset

-- the entries that stand under COMMIT in the words
abbrev committed_data : Leader → ℕ → ℕ → ℕ → History → List Produced
committed_data l x from end h = filter (λ (e : Produced). eqb (kind_over l e) 1) (reverse (filter (in_range x from end) (data_in h)))

-- no offset is in an empty range
empty-range : (x o end : ℕ) → end ≤ o → (l : List Produced) → Each (λ (e : Produced). in_range x o end e ≡ false) l
empty-range x o end b [] = tt
empty-range x o end b (e ∷ l) = (
  either (eqb e.position x)
      (λ p. either (leb o e.offset) (λ t. let z = leb-true o e.offset t in rw (p, t, le-ltb e.offset end (omega arith)) refl) (λ t. rw (p, t) refl))
      (λ p. rw p refl),
  empty-range x o end b l,
)

module _ (w : World) (i : Invariant w) (x : ℕ) where
  abbrev l : Leader
  l = leader_at w x

  abbrev h : History
  h = w.history

  abbrev end : ℕ
  end = l.partition.end

  size : entry_words * end ≡ length (words_of x h)
  size = words-length w i x

  -- the words of the leader are those of the history, at every offset below the end
  at-real : (o : ℕ) → o < end → AtOffset x l.words (data_in h) o
  at-real o b =
      moved x o (words_of x h) l.words (data_in h) (data_in h) refl (agree (entry_words * o + 1) (omega arith)) (agree (entry_words * o + 3) (omega arith)) (at_offset x o h i.offsets end size b)
    where
      agree : (j : ℕ) → j < entry_words * end → get_or l.words j 0 ≡ get_or (words_of x h) j 0
      agree j b = sym (get_or-take (entry_words * end) l.words j 0 b) ∙ ap (λ (m : List ℕ). get_or m j 0) (i.leaders x).words

  abbrev is_committed : Produced → Bool
  is_committed e = eqb (kind_over l e) 1

  abbrev from-to : ℕ → ℕ → List Produced
  from-to o n = committed_data l x o (o + n) h

  -- one offset and the rest
  split : (o n : ℕ) → from-to o (suc n) ≡ filter is_committed (reverse (filter (in_range x o (o + 1)) (data_in h))) ++ from-to (o + 1) n
  split o n =
      let z : o + suc n ≡ o + 1 + n = omega arith in
      ap (λ (k : ℕ). committed_data l x o k h) z
      ∙ ap (λ (m : List Produced). filter is_committed (reverse m)) (range_split x end o (o + 1 + n) (omega arith) (data_in h) (falling x h i.offsets end size))
      ∙ ap (filter is_committed) (reverse-append (filter (in_range x (o + 1) (o + 1 + n)) (data_in h)) (filter (in_range x o (o + 1)) (data_in h)))
      ∙ filter-join is_committed (reverse (filter (in_range x o (o + 1)) (data_in h))) (reverse (filter (in_range x (o + 1) (o + 1 + n)) (data_in h)))

  -- an offset that is committed, or not
  data Here (o n : ℕ) : Type 0 where
    copies : (e : Produced) → from-to o (suc n) ≡ e ∷ from-to (o + 1) n → e.offset ≡ o → payload_at l.words o ≡ e.payload → committed l.words end o ≡ true → Here o n
    passes : from-to o (suc n) ≡ from-to (o + 1) n → committed l.words end o ≡ false → Here o n

  there-is : (o n : ℕ) → o < end → Here o n
  there-is o n b = go (at-real o b)
    where
      not-here : List Produced → Type 0
      not-here m = filter is_committed (reverse m) ≡ []

      go : AtOffset x l.words (data_in h) o → Here o n
      go (data_at e q at k y) =
          let kind : kind_over l e ≡ stands_under l.words end o = ap (stands_under l.words end) at in
          either (eqb (stands_under l.words end o) 1)
          (λ t. copies e (split o n ∙ ap (λ (m : List Produced). filter is_committed (reverse m) ++ from-to (o + 1) n) q
          ∙ ap (λ (m : List Produced). m ++ from-to (o + 1) n) (filter-hit is_committed e [] (ap (λ (u : ℕ). eqb u 1) kind ∙ t) ∙ ap (λ (m : List Produced). e ∷ m) filter-empty)) at y (test k t))
          (λ t. passes (split o n ∙ ap (λ (m : List Produced). filter is_committed (reverse m) ++ from-to (o + 1) n) q
          ∙ ap (λ (m : List Produced). m ++ from-to (o + 1) n) (filter-miss is_committed e [] (ap (λ (u : ℕ). eqb u 1) kind ∙ t) ∙ filter-empty)) (test k t))
        where
          filter-empty : filter is_committed [] ≡ []
          filter-empty = unfold filter in refl

          test : {b : Bool} → kind_at l.words o ≡ 0 → eqb (stands_under l.words end o) 1 ≡ b → committed l.words end o ≡ b
          test k t = unfold committed in rw (eq-eqb (kind_at l.words o) 0 k) t
      go (marker_at q k) = passes (split o n ∙ ap (λ (m : List Produced). filter is_committed (reverse m) ++ from-to (o + 1) n) q ∙ none_first) (unfold committed in rw (ne_eqb (kind_at l.words o) 0 k) refl)
        where
          none_first : filter is_committed [] ++ from-to (o + 1) n ≡ from-to (o + 1) n
          none_first = ap (λ (m : List Produced). m ++ from-to (o + 1) n) (filter_none is_committed [] tt)

  abbrev payloads_of : List Produced → List ℕ
  payloads_of m = map (λ (e : Produced). e.payload) m

  abbrev offsets_of : List Produced → List ℕ
  offsets_of m = map (λ (e : Produced). e.offset) m

  pub record CopiedSo (o n room : ℕ) : Type 0 where
    pub values : (copy l.words end o n room).payloads ≡ take room (payloads_of (from-to o n))
    pub next : (copy l.words end o n room).next ≡ get_or (offsets_of (from-to o n)) room (o + n)

  copy_step : (o n room : ℕ) → Here o n → ((r : ℕ) → CopiedSo (o + 1) n r) → CopiedSo o (suc n) room
  unfolding copy
  copy_step o n zero (copies e q at y t) i = record { values = rw t refl; next = rw (t, q) (sym at) }
  copy_step o n (suc room) (copies e q at y t) i =
      let z : o + 1 + n ≡ o + suc n = omega arith in
      record { values = rw (t, q, y) (ap (λ (m : List ℕ). e.payload ∷ m) (i room).values); next = rw (t, q) ((i room).next ∙ ap (get_or (offsets_of (from-to (o + 1) n)) room) z) }
  copy_step o n zero (passes q t) i = let z : o + 1 + n ≡ o + suc n = omega arith in record { values = rw t (i zero).values; next = rw (t, q) ((i zero).next ∙ ap (get_or (offsets_of (from-to (o + 1) n)) zero) z) }
  copy_step o n (suc room) (passes q t) i =
      let z : o + 1 + n ≡ o + suc n = omega arith in record { values = rw (t, q) (i (suc room)).values; next = rw (t, q) ((i (suc room)).next ∙ ap (get_or (offsets_of (from-to (o + 1) n)) (suc room)) z) }

  copy_is : (n o : ℕ) → o + n ≤ end → (room : ℕ) → CopiedSo o n room
  copy_is zero o b room =
      let none_left : from-to o 0 ≡ [] = ap (λ (m : List Produced). filter is_committed (reverse m)) (filter_none (in_range x o (o + 0)) (data_in h) (empty-range x o (o + 0) (omega arith) (data_in h)))
      ∙ filter_none is_committed [] tt in
      record {
        values = copy-zero o room ∙ sym (ap (λ (m : List Produced). take room (payloads_of m)) none_left ∙ take-nil room);
        next = (copy-next o room ∙ (let z : o ≡ o + 0 = omega arith in z))
            ∙ sym (ap (λ (m : List Produced). get_or (offsets_of m) room (o + 0)) none_left);
      }
    where
      copy-zero : (o room : ℕ) → (copy l.words end o zero room).payloads ≡ []
      copy-zero o zero = unfold copy in refl
      copy-zero o (suc room) = unfold copy in refl

      copy-next : (o room : ℕ) → (copy l.words end o zero room).next ≡ o
      copy-next o zero = unfold copy in refl
      copy-next o (suc room) = unfold copy in refl
  copy_is (suc n) o b room = copy_step o n room (there-is o n (omega arith)) (λ r. copy_is n (o + 1) (omega arith) r)

-- ---- the entries with the events before them

abbrev what_of : Entry → Produced
what_of e = e.what

what-split : (h : History) (l : List Produced) (m : List Entry) → map what_of (map (λ (a : Produced). record { what = a; before = h }) l ++ m) ≡ l ++ map what_of m
what-split h [] m = refl
what-split h (x ∷ l) m = ap (λ (k : List Produced). x ∷ k) (what-split h l m)

data-entries : (h : History) → data_in h ≡ map what_of (entries_of h)
unfolding collect collect_with_before
data-entries [] = refl
data-entries (e ∷ h) = ap (λ (l : List Produced). produced_in e ++ l) (data-entries h) ∙ sym (what-split h (produced_in e) (entries_of h))

-- those that stand under COMMIT in the words are those of the history
module _ (w : World) (i : Invariant w) (x from end : ℕ) where
  abbrev between : List Entry
  between = entries_between x from end w.history

  same-kinds : Each (λ (e : Entry). eqb (kind_over (leader_at w x) e.what) 1 ≡ found (λ (m : Order). eqb m.verdict 0) (marker_over w.history e)) between
  same-kinds =
      each-reverse _ (filter (λ (e : Entry). in_range x from end e.what) (entries_of w.history)) []
      (each-filter _ (λ (e : Entry). in_range x from end e.what) (entries_of w.history)
      (in-each _ (entries_of w.history) (λ e j t.
      let at : e.what.position ≡ x = eqb-true e.what.position x (search (and_left, and_right)) in
      ap (λ (k : ℕ). eqb k 1) (ap (λ (y : ℕ). kind_over (leader_at w y) e.what) (sym at) ∙ stands-under w i e j) ∙ over-commit (marker_over w.history e)))) tt

  committed-entries : committed_data (leader_at w x) x from end w.history ≡ map what_of (committed_between x from end w.history)
  committed-entries =
      let E = entries_of w.history in
      let inside : Entry → Bool = λ e. in_range x from end e.what in
      let under : Produced → Bool = λ e. eqb (kind_over (leader_at w x) e) 1 in
      ap (λ (l : List Produced). filter under (reverse (filter (in_range x from end) l))) (data-entries w.history)
      ∙ ap (λ (l : List Produced). filter under (reverse l)) (filter_map what_of (in_range x from end) E)
      ∙ ap (filter under) (reverse-map what_of (filter inside E) [])
      ∙ filter_map what_of under between
      ∙ ap (map what_of) (filter_same (λ (e : Entry). under e.what) (λ (e : Entry). found (λ (m : Order). eqb m.verdict 0) (marker_over w.history e)) between same-kinds)

module _ (w : World) (i : Invariant w) (x : ℕ) where
  abbrev leader : Leader
  leader = leader_at w x

  abbrev stable : ℕ
  stable = stable_end leader.partition

  -- below the stable end every entry stands under a marker
  settled_at : Each (λ (e : Entry). is_found (marker_over w.history e) ≡ true) (entries_between x 0 stable w.history)
  settled_at =
      each-reverse _ (filter (λ (e : Entry). in_range x 0 stable e.what) (entries_of w.history)) []
      (each-filter _ (λ (e : Entry). in_range x 0 stable e.what) (entries_of w.history)
      (in-each _ (entries_of w.history) (λ d j t. over-some (marker_over w.history d) (λ z. go d j t (under-over w.history d ∙ z))))) tt
    where
      go : (d : Entry) → In d (entries_of w.history) → in_range x 0 stable d.what ≡ true → under_of w.history d ≡ 0 → ⊥
      go d j t z =
          let h = w.history in
          let at : d.what.position ≡ x = eqb-true d.what.position x (search (and_left, and_right)) in
          let low : d.what.offset < stable = ltb-true d.what.offset stable (search (and_left, and_right)) in
          let owns = open-owns (catalogue_of w) h x leader.partition (i.leaders x).rows (flushed_of h) (omega arith) d j at z in
          let row = oldest-row leader.partition.end leader.partition.producers _ owns.ongoing in
          omega (arith, owns.first)

  -- ---- Read

  module _ (from : ℕ) (b : from ≤ stable) (out : List ℕ) where
    passes-read : first_refusal (read_tests leader.partition (length leader.words) from) ≡ 0
    unfolding read_tests
    passes-read =
        let o = own_at w i.own x in
        let admitted : admits leader.partition (length leader.words) ≡ true = admits-length leader.partition o.reserved (length leader.words)
        ∙ eq-eqb (length leader.words) leader.partition.room o.room in
        none_is (read_tests leader.partition (length leader.words) from) (rw admitted refl, (le-ltb stable from b, tt))

    whole : from + (stable - from) ≡ stable
    whole = omega arith

    abbrev entries : List Entry
    entries = committed_between x from stable w.history

    is : CopiedSo w i x from (stable - from) (length out)
    is = copy_is w i x (stable - from) from (let m = oldest-most leader.partition.end leader.partition.producers in omega arith) (length out)

    -- the entries up to the stable end
    data_is : committed_data leader x from (from + (stable - from)) w.history ≡ map what_of entries
    data_is = ap (λ (n : ℕ). committed_data leader x from n w.history) whole ∙ committed-entries w i x from stable

    values-is : (copied leader.partition leader.words from (length out)).payloads ≡ take (length out) (payloads entries)
    values-is = is.values ∙ ap (λ (l : List Produced). take (length out) (map (λ (e : Produced). e.payload) l)) data_is ∙ ap (take (length out)) (map-map (λ (e : Produced). e.payload) what_of entries)

    next-is : (copied leader.partition leader.words from (length out)).next ≡ get_or (offsets entries) (length out) stable
    next-is =
        is.next ∙ ap (λ (l : List Produced). get_or (map (λ (e : Produced). e.offset) l) (length out) (from + (stable - from))) data_is
        ∙ ap (λ (l : List ℕ). get_or l (length out) (from + (stable - from))) (map-map (λ (e : Produced). e.offset) what_of entries)
        ∙ ap (get_or (offsets entries) (length out)) whole

    reads_at : ReadsFrom w x leader from out
    unfolding read_answer read_out
    reads_at =
        record {
          answers = rw (eq-eqb (first_refusal (read_tests leader.partition (length leader.words) from)) 0 passes-read, values-is, next-is)
              (ap (λ (n : ℕ). accepted (pos n ∷ pos (get_or (offsets entries) (length out) stable) ∷ []))
              (length-take (length out) (payloads entries) ∙ ap (min (length out)) (length-map entries (λ (e : Entry). e.what.payload))));
          copies = rw (eq-eqb (first_refusal (read_tests leader.partition (length leader.words) from)) 0 passes-read, values-is) refl;
        }

-- ---- in every run

pub reads-committed : (w : World) → Invariant w → ReadsCommitted w
reads-committed w i =
    record {
      stands-under = in-each _ (entries_of w.history) (λ e j. stands-under w i e j);
      settled = each-place (λ x (l : Leader). Each (λ (e : Entry). is_found (marker_over w.history e) ≡ true) (entries_between x 0 (stable_end l.partition) w.history)) (open_leader []) 0
          w.leaders (λ x. let z : 0 + x ≡ x = omega arith in rw z (settled_at w i x));
      reads = each-place (λ x (l : Leader). (from : ℕ) → from ≤ stable_end l.partition → (out : List ℕ) → ReadsFrom w x l from out) (open_leader []) 0 w.leaders
          (λ x. let z : 0 + x ≡ x = omega arith in rw z (reads_at w i x));
    }

-- ---- producer ids

pub pids-once : (w : World) → Invariant w → PidsOnce w
pids-once w i =
    let h = i.of-history in
    let l = records_of w.history in
    let c = catalogue_of w in
    record {
      one_name = in-each _ l (λ x j. in-each _ l (λ y k. pid-owner c l h.come h.ends x y j k));
      given-once = in-each _ l (λ x j. in-each _ l (λ y k. pid-given c l h.come h.ends x y j k));
    }

-- ---- the theorem

pub in-every-run : InEveryRun
in-every-run =
    record {
      admits-exactly = admits-exactly;
      reads-committed = λ o a items. reads-committed (run items (start o)) (always o a items);
      pids-once = λ o a items. pids-once (run items (start o)) (always o a items);
    }
