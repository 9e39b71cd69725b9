-- The words of a partition and the history: the marker that Read finds over an entry in the words is the one that the history says.
use Prim.Native.Nat.{ℕ, zero, suc, ◌+◌, ◌-◌, ◌*◌, ◌^◌, ◌≤◌, ◌<◌}
use mathlib.Core.Path.{◌≡◌, refl, sym, ap, subst, ◌∙◌}
use mathlib.Core.Bool.{Bool, true, false, cond, ◌&&◌}
use mathlib.Core.List.{List, [], ◌∷◌, ◌++◌, append-nil, append_assoc}
use native.Mathlib.Omega.{arith}
use lib.Dec.{eqb, leb}
use lib.ListN.{length, take, get_or, length-append, get_or-append}
use lib.Seq.{get_or-take, get_or-append-add}
use borrow.Author.Tests.{eq-eqb, leb-true, leb-false}
use Rattle.numbers.specs.Signed.{to_nat}
use Rattle.numbers.proofs.Tests.{by_cases, and_right, either}
use Rattle.search.specs.Search.{Each}
use Rattle.search.proofs.Members.{In, in-nil, in-cons}
use Rattle.partition.specs.Limits.{entry_words}
use Rattle.partition.specs.Partition.{pid_at, kind_at}
use Rattle.partition.specs.Read.{is_marker, next_marker, stands_under}
use Rattle.partition.proofs.Reading.{next_agree}
use Rattle.runs.specs.History.{Order, Event, record_appended, log_flushed, log_cut, log_opened, order_given, marker_written, order_carried, entry_written, History, events_before, markers_in, collect, collect_with_before, words_in, words_of}
use Rattle.protocol.specs.Entries.{Entry, entries_of, kind_in, first_of, marked_from, under_of}
use Rattle.protocol.proofs.Events.{events-before, entry-before}
use Rattle.protocol.proofs.Entries.{marked_next, marked-new, first-kept, first-zero}

-- ---- the next marker of a pid, of one entry more

abbrev mark_at : List ℕ → ℕ → ℕ → ℕ
mark_at words pid offset = cond (eqb (pid_at words offset) pid && is_marker (kind_at words offset)) (kind_at words offset) 0

marker-some : (k : ℕ) → is_marker k ≡ true → k ≡ 0 → ⊥
marker-some k e z = let q : is_marker 0 ≡ true = rw z at e in let y : ◌≡◌ {A = ℕ} 0 1 = cc in omega arith

next-one-more : (words : List ℕ) (pid n offset : ℕ) → next_marker words pid offset (suc n) ≡ first_of (next_marker words pid offset n) (mark_at words pid (offset + n))
unfolding next_marker
next-one-more words pid zero offset = let z : offset + 0 ≡ offset = omega arith in rw z refl
next-one-more words pid (suc n) offset =
    let z : offset + 1 + n ≡ offset + suc n = omega arith in
    let i = next-one-more words pid n (offset + 1) in
    go (eqb (pid_at words offset) pid && is_marker (kind_at words offset)) refl (i ∙ ap (λ (k : ℕ). first_of (next_marker words pid (offset + 1) n) (mark_at words pid k)) z)
  where
    go : (b : Bool) → (eqb (pid_at words offset) pid && is_marker (kind_at words offset)) ≡ b → next_marker words pid (offset + 1) (suc n) ≡ first_of (next_marker words pid (offset + 1) n) (mark_at words pid (offset + suc n))
        → cond b (kind_at words offset) (next_marker words pid (offset + 1) (suc n)) ≡ first_of (cond b (kind_at words offset) (next_marker words pid (offset + 1) n)) (mark_at words pid (offset + suc n))
    go true e i = sym (first-kept (kind_at words offset) _ (marker-some (kind_at words offset) (and_right (eqb (pid_at words offset) pid) (is_marker (kind_at words offset)) e)))
    go false e i = i

-- ---- the words of a history

pub words-next : (x : ℕ) (e : Event) (h : History) → words_of x (e ∷ h) ≡ words_of x h ++ words_in x e
unfolding words_of
words-next x e h = refl

pub words_same : (x : ℕ) (e : Event) (h : History) → words_in x e ≡ [] → words_of x (e ∷ h) ≡ words_of x h
words_same x e h q = words-next x e h ∙ ap (λ (l : List ℕ). words_of x h ++ l) q ∙ append-nil (words_of x h)

-- what was written before stands in front
words-front : (x n : ℕ) (h : History) → (rest : List ℕ) × (words_of x h ≡ words_of x (events_before n h) ++ rest)
words-front x n [] = let z : 0 - n ≡ 0 = omega arith in rw z ([], sym (append-nil (words_of x [])))
words-front x n (e ∷ h) =
    either (leb n (length h))
    (λ q. let (rest, is) = words-front x n h in
    rw (events-before n e h (leb-true n (length h) q)) (rest ++ words_in x e, words-next x e h ∙ ap (λ (l : List ℕ). l ++ words_in x e) is ∙ append_assoc (words_of x (events_before n h)) rest (words_in x e)))
    (λ q. let b = leb-false n (length h) q in let z : suc (length h) - n ≡ 0 = omega arith in rw z ([], sym (append-nil (words_of x (e ∷ h)))))

pub front_length : (x n : ℕ) (h : History) → length (words_of x (events_before n h)) ≤ length (words_of x h)
front_length x n h = let (rest, is) = words-front x n h in omega (arith, ap length is ∙ length-append (words_of x (events_before n h)) rest)

abbrev pub MarkersFit : History → Type 0
MarkersFit h = Each (λ (o : Order). o.verdict ≤ 1) (collect markers_in h)

-- ---- what an event adds at a position

data Adds (x : ℕ) (e : Event) : Type 0 where
  nothing : words_in x e ≡ [] → ((pid : ℕ) → kind_in x pid e ≡ 0) → Adds x e
  an_entry : (p k s y : ℕ) → words_in x e ≡ p ∷ k ∷ s ∷ y ∷ [] → ((pid : ℕ) → kind_in x pid e ≡ cond (eqb p pid && is_marker k) k 0) → Adds x e

marker-kind : (v : ℕ) → v ≤ 1 → is_marker (v + 1) ≡ true
marker-kind zero h = refl
marker-kind (suc zero) h = refl
marker-kind (suc (suc v)) h = absurd (omega arith)

and-true-right : (b : Bool) → (b && true) ≡ b
and-true-right true = refl
and-true-right false = refl

adds : (x : ℕ) (e : Event) → Each (λ (o : Order). o.verdict ≤ 1) (markers_in e) → Adds x e
adds x (record_appended r end) i = nothing refl (λ pid. refl)
adds x (log_flushed n) i = nothing refl (λ pid. refl)
adds x (log_cut n) i = nothing refl (λ pid. refl)
adds x (log_opened epoch) i = nothing refl (λ pid. refl)
adds x (order_given o) i = nothing refl (λ pid. refl)
adds x (marker_written o) (i, is) =
    either (eqb o.position x)
    (λ e. an_entry (to_nat o.pid) (o.verdict + 1) (to_nat o.epoch * 2 ^ 32 + to_nat o.coordinator) 0 (rw e) (λ pid. rw (e, marker-kind o.verdict i, and-true-right (eqb (to_nat o.pid) pid)) refl))
    (λ e. nothing (rw e) (λ pid. rw e))
adds x (order_carried o) i = nothing refl (λ pid. refl)
adds x (entry_written p) i =
    either (eqb p.position x)
    (λ e. an_entry (to_nat p.pid) 0 (to_nat p.epoch * 2 ^ 32 + to_nat p.sequence) p.payload (rw e) (λ pid. by_cases (λ (k : ℕ). 0 ≡ k) (eqb (to_nat p.pid) pid && is_marker 0) (λ t. refl) (λ t. refl)))
    (λ e. nothing (rw e) (λ pid. refl))

fit-split : (e : Event) (h : History) → MarkersFit (e ∷ h) → Each (λ (o : Order). o.verdict ≤ 1) (markers_in e) × MarkersFit h
unfolding collect
fit-split (record_appended r end) h i = (tt, i)
fit-split (log_flushed n) h i = (tt, i)
fit-split (log_cut n) h i = (tt, i)
fit-split (log_opened epoch) h i = (tt, i)
fit-split (order_given o) h i = (tt, i)
fit-split (marker_written o) h (i, is) = ((i, tt), is)
fit-split (order_carried o) h i = (tt, i)
fit-split (entry_written e) h i = (tt, i)

-- ---- the next marker in the words is the next one of the history

module _ (x pid : ℕ) where
  step_words : (e : Event) (h : History) → Adds x e → (n m : ℕ) → n ≤ length h → entry_words * m ≡ length (words_of x (events_before n h))
      → ((end : ℕ) → entry_words * end ≡ length (words_of x h) → next_marker (words_of x h) pid m (end - m) ≡ marked_from x pid n h)
      → (end : ℕ) → entry_words * end ≡ length (words_of x (e ∷ h)) → next_marker (words_of x (e ∷ h)) pid m (end - m) ≡ first_of (marked_from x pid n h) (kind_in x pid e)
  step_words e h (nothing w k) n m b q i end r =
      let same : words_of x (e ∷ h) ≡ words_of x h = words-next x e h ∙ ap (λ (l : List ℕ). words_of x h ++ l) w ∙ append-nil (words_of x h) in
      ap (λ (l : List ℕ). next_marker l pid m (end - m)) same ∙ i end (r ∙ ap length same) ∙ sym (first-zero (marked_from x pid n h)) ∙ ap (first_of (marked_from x pid n h)) (sym (k pid))
  step_words e h (an_entry p k s y w f) n m b q i end r =
      let l = words_of x h in
      let four = p ∷ k ∷ s ∷ y ∷ [] in
      let same : words_of x (e ∷ h) ≡ l ++ four = words-next x e h ∙ ap (λ (v : List ℕ). l ++ v) w in
      let size : entry_words * end ≡ length l + 4 = r ∙ ap length same ∙ length-append l four in
      let before : length (words_of x (events_before n h)) ≤ length l = front_length x n h in
      let last = end - 1 in
      let one : entry_words * last ≡ length l = omega arith in
      let more : end - m ≡ suc (last - m) = omega arith in
      let at : m + (last - m) ≡ last = omega arith in
      let pid-is : pid_at (l ++ four) last ≡ p = ap (λ (j : ℕ). get_or (l ++ four) j 0) (one ∙ zero_more (length l)) ∙ get_or-append-add l four 0 0 in
      let kind-is : kind_at (l ++ four) last ≡ k = ap (λ (j : ℕ). get_or (l ++ four) (j + 1) 0) one ∙ get_or-append-add l four 1 0 in
      ap (λ (v : List ℕ). next_marker v pid m (end - m)) same ∙ ap (next_marker (l ++ four) pid m) more ∙ next-one-more (l ++ four) pid (last - m) m
      ∙ ap (λ (j : ℕ). first_of (next_marker (l ++ four) pid m (last - m)) (mark_at (l ++ four) pid j)) at
      ∙ ap (λ (u : ℕ). first_of u (mark_at (l ++ four) pid last)) (next_agree (l ++ four) l pid (last - m) m (λ j d. get_or-append l four 0 j (omega arith)) ∙ i last one)
      ∙ ap (first_of (marked_from x pid n h)) (rw (pid-is, kind-is) (sym (f pid)))
    where
      zero_more : (a : ℕ) → a ≡ a + 0
      zero_more a = omega arith

  next-words : (h : History) → MarkersFit h → (n m : ℕ) → n ≤ length h → entry_words * m ≡ length (words_of x (events_before n h)) → (end : ℕ) → entry_words * end ≡ length (words_of x h)
      → next_marker (words_of x h) pid m (end - m) ≡ marked_from x pid n h
  next-words [] i n m b q end r =
      let none : length (words_of x []) ≡ 0 = unfold words_of in refl in
      let z : end - m ≡ 0 = omega arith in
      rw z (unfold next_marker marked_from in refl)
  next-words (e ∷ h) i n m b q end r =
      let (now, old) = fit-split e h i in
      either (leb n (length h))
      (λ t.
      let low = leb-true n (length h) t in
      let q' : entry_words * m ≡ length (words_of x (events_before n h)) = q ∙ ap (λ (v : History). length (words_of x v)) (events-before n e h low) in
      step_words e h (adds x e now) n m low q' (λ end' r'. next-words h old n m low q' end' r') end r ∙ sym (marked_next x pid n e h low))
      (λ t.
      let high = leb-false n (length h) t in
      let z : suc (length h) - n ≡ 0 = omega arith in
      let q' : entry_words * m ≡ length (words_of x (e ∷ h)) = rw z at q in
      let d : end - m ≡ 0 = omega arith in
      rw (d, marked-new x pid n e h high) (unfold next_marker in refl))

-- ---- an entry in the words

pub entry-events : (h : History) (p : Entry) → In p (entries_of h) → events_before (suc (length p.before)) h ≡ entry_written p.what ∷ p.before
unfolding collect_with_before
entry-events [] p i = in-nil i
entry-events (record_appended r end ∷ h) p i = events-before (suc (length p.before)) (record_appended r end) h (entry-before h p i) ∙ entry-events h p i
entry-events (log_flushed n ∷ h) p i = events-before (suc (length p.before)) (log_flushed n) h (entry-before h p i) ∙ entry-events h p i
entry-events (log_cut n ∷ h) p i = events-before (suc (length p.before)) (log_cut n) h (entry-before h p i) ∙ entry-events h p i
entry-events (log_opened epoch ∷ h) p i = events-before (suc (length p.before)) (log_opened epoch) h (entry-before h p i) ∙ entry-events h p i
entry-events (order_given o ∷ h) p i = events-before (suc (length p.before)) (order_given o) h (entry-before h p i) ∙ entry-events h p i
entry-events (marker_written o ∷ h) p i = events-before (suc (length p.before)) (marker_written o) h (entry-before h p i) ∙ entry-events h p i
entry-events (order_carried o ∷ h) p i = events-before (suc (length p.before)) (order_carried o) h (entry-before h p i) ∙ entry-events h p i
entry-events (entry_written e ∷ h) p i =
    in-cons i
    (λ q. subst (λ (y : Entry). events_before (suc (length y.before)) (entry_written e ∷ h) ≡ entry_written y.what ∷ y.before) q (let z : suc (length h) - suc (length h) ≡ 0 = omega arith in rw z refl))
    (λ j. events-before (suc (length p.before)) (entry_written e) h (entry-before h p j) ∙ entry-events h p j)

-- the marker that it stands under, in the words and in the history
pub under-words : (h : History) → MarkersFit h → (p : Entry) → In p (entries_of h) → entry_words * p.what.offset ≡ length (words_of p.what.position p.before)
    → (words : List ℕ) (end : ℕ) → take (entry_words * end) words ≡ words_of p.what.position h → entry_words * end ≡ length (words_of p.what.position h)
    → stands_under words end p.what.offset ≡ under_of h p
under-words h fit p i at words end is size =
    let x = p.what.position in
    let o = p.what.offset in
    let pid = to_nat p.what.pid in
    let n = suc (length p.before) in
    let before = words_of x p.before in
    let four = pid ∷ 0 ∷ (to_nat p.what.epoch * 2 ^ 32 + to_nat p.what.sequence) ∷ p.what.payload ∷ [] in
    let (rest, front) = words-front x n h in
    let up_to : words_of x (events_before n h) ≡ before ++ four = ap (words_of x) (entry-events h p i) ∙ words-next x (entry_written p.what) p.before ∙ rw (eq-eqb x x refl) refl in
    let whole : words_of x h ≡ before ++ (four ++ rest) = front ∙ ap (λ (l : List ℕ). l ++ rest) up_to ∙ append_assoc before four rest in
    let long : entry_words * (o + 1) ≡ length (words_of x (events_before n h)) = omega (arith, ap length up_to ∙ length-append before four) in
    let most : length (words_of x (events_before n h)) ≤ length (words_of x h) = front_length x n h in
    let agree : (j : ℕ) → j < entry_words * end → get_or words j 0 ≡ get_or (words_of x h) j 0 = λ j b. sym (get_or-take (entry_words * end) words j 0 b) ∙ ap (λ (l : List ℕ). get_or l j 0) is in
    let here-pid : pid_at words o ≡ pid =
    agree (entry_words * o) (omega arith) ∙ ap (λ (l : List ℕ). get_or l (entry_words * o) 0) whole ∙ ap (λ (j : ℕ). get_or (before ++ (four ++ rest)) j 0) (at ∙ zero_more (length before))
    ∙ get_or-append-add before (four ++ rest) 0 0 in
    ap (λ (q : ℕ). next_marker words q (o + 1) (end - (o + 1))) here-pid
    ∙ next_agree words (words_of x h) pid (end - (o + 1)) (o + 1) (λ j b. agree j (omega arith))
    ∙ next-words x pid h fit n (o + 1) (entry-before h p i) long end size
  where
    zero_more : (a : ℕ) → a ≡ a + 0
    zero_more a = omega arith
