-- What stands at an offset of a partition: the entries of a position by their offsets, and its words there.
use Prim.Native.Nat.{ℕ, ◌+◌, ◌-◌, ◌*◌, ◌^◌, ◌≤◌, ◌<◌}
use mathlib.Core.Path.{◌≡◌, refl, sym, ap, ap₂, ◌∙◌}
use mathlib.Core.Bool.{Bool, true, false, cond, ◌&&◌, and-false}
use mathlib.Core.List.{List, [], ◌∷◌, ◌++◌}
use native.Mathlib.Omega.{arith}
use lib.Dec.{eqb, leb, ltb}
use lib.ListN.{length, length-append}
use borrow.Author.Tests.{eqb-true, eqb-false, eq-eqb, leb-true, leb-false, le-leb, lt-leb, lt-ltb, le-ltb, ltb-true, ltb-false}
use Rattle.numbers.specs.Signed.{to_nat}
use Rattle.numbers.proofs.Tests.{either}
use Rattle.search.specs.Search.{filter, Each}
use Rattle.search.proofs.Find.{filter-miss, filter_none, filter-hit}
use Rattle.partition.specs.Limits.{entry_words}
use Rattle.partition.specs.Partition.{kind_at, payload_at}
use Rattle.partition.proofs.Reading.{entry-behind, entry-last}
use Rattle.runs.specs.History.{Order, Produced, record_appended, log_flushed, log_cut, log_opened, order_given, marker_written, order_carried, entry_written, History, produced_in, collect, collect_with_before, words_of}
use Rattle.protocol.specs.Entries.{Entry, entries_of}
use Rattle.agreement.proofs.Words.{words-next, words_same}

-- ---- the entries of a position by their offsets

abbrev pub in_range : ℕ → ℕ → ℕ → Produced → Bool
in_range x from end e = eqb e.position x && leb from e.offset && ltb e.offset end

-- offsets at a position fall from the newest to the oldest, below a number
abbrev pub Falling : ℕ → ℕ → List Produced → Type 0
Falling x n [] = Unit {0}
Falling x n (e ∷ l) = (e.position ≡ x → e.offset < n) × Falling x (cond (eqb e.position x) e.offset n) l

falling-more : (x m n : ℕ) → m ≤ n → (l : List Produced) → Falling x m l → Falling x n l
falling-more x m n b [] h = tt
falling-more x m n b (e ∷ l) (h, hs) =
    (λ q. let k = h q in omega arith, by_both (eqb e.position x) (λ k. falling-more x m n b l k) hs)
  where
    by_both : (t : Bool) → (Falling x m l → Falling x n l) → Falling x (cond t e.offset m) l → Falling x (cond t e.offset n) l
    by_both true f k = k
    by_both false f k = f k

-- none is in a range that starts at or past the number
falling-none : (x n from end : ℕ) → n ≤ from → (l : List Produced) → Falling x n l → Each (λ (e : Produced). in_range x from end e ≡ false) l
falling-none x n from end b [] h = tt
falling-none x n from end b (e ∷ l) (h, hs) =
    either (eqb e.position x)
    (λ t.
    let low = h (eqb-true e.position x t) in
    (rw (t, lt-leb from e.offset (omega arith)) refl, falling-none x e.offset from end (omega arith) l (rw t at hs)))
    (λ t. (rw t refl, falling-none x n from end b l (rw t at hs)))

-- a range is its first offset and the rest
pub range_split : (x n from end : ℕ) → from < end → (l : List Produced) → Falling x n l → filter (in_range x from end) l ≡ filter (in_range x (from + 1) end) l ++ filter (in_range x from (from + 1)) l
range_split x n from end b [] h = unfold filter in refl
range_split x n from end b (e ∷ l) (h, hs) =
    either (eqb e.position x)
    (λ t.
    let hs' : Falling x e.offset l = rw t at hs in
    either (eqb e.offset from)
    (λ q.
    let is = eqb-true e.offset from q in
    filter-hit (in_range x from end) e l (rw (t, le-leb from e.offset (omega arith), lt-ltb e.offset end (omega arith)) refl)
    ∙ ap (λ (m : List Produced). e ∷ m) (filter_none (in_range x from end) l (falling-none x e.offset from end (omega arith) l hs'))
    ∙ sym (ap (λ (m : List Produced). m ++ filter (in_range x from (from + 1)) (e ∷ l))
    (filter-miss (in_range x (from + 1) end) e l (rw (t, lt-leb (from + 1) e.offset (omega arith)) refl) ∙ filter_none (in_range x (from + 1) end) l (falling-none x e.offset (from + 1) end (omega arith) l hs'))
    ∙ filter-hit (in_range x from (from + 1)) e l (rw (t, le-leb from e.offset (omega arith), lt-ltb e.offset (from + 1) (omega arith)) refl)
    ∙ ap (λ (m : List Produced). e ∷ m) (filter_none (in_range x from (from + 1)) l (falling-none x e.offset from (from + 1) (omega arith) l hs'))))
    (λ q.
    let differs = eqb-false e.offset from q in
    let i = range_split x e.offset from end b l hs' in
    let not-one : in_range x from (from + 1) e ≡ false = either (leb from e.offset) (λ y. let z = leb-true from e.offset y in rw (t, y, le-ltb e.offset (from + 1) (omega arith)) refl) (λ y. rw (t, y) refl) in
    let same : in_range x from end e ≡ in_range x (from + 1) end e = either (leb from e.offset)
    (λ y. let z = leb-true from e.offset y in rw (t, y, le-leb (from + 1) e.offset (omega arith)) refl) (λ y. let z = leb-false from e.offset y in rw (t, y, lt-leb (from + 1) e.offset (omega arith)) refl) in
    either (in_range x (from + 1) end e)
    (λ y. filter-hit (in_range x from end) e l (same ∙ y) ∙ ap (λ (m : List Produced). e ∷ m) i
    ∙ sym (ap₂ (λ (a b : List Produced). a ++ b) (filter-hit (in_range x (from + 1) end) e l y) (filter-miss (in_range x from (from + 1)) e l not-one)))
    (λ y. filter-miss (in_range x from end) e l (same ∙ y) ∙ i ∙ sym (ap₂ (λ (a b : List Produced). a ++ b) (filter-miss (in_range x (from + 1) end) e l y) (filter-miss (in_range x from (from + 1)) e l not-one)))))
    (λ t.
    let i = range_split x n from end b l (rw t at hs) in
    filter-miss (in_range x from end) e l (rw t refl) ∙ i ∙ sym (ap₂ (λ (a b : List Produced). a ++ b) (filter-miss (in_range x (from + 1) end) e l (rw t refl)) (filter-miss (in_range x from (from + 1)) e l (rw t refl))))

-- ---- the words at an offset

abbrev pub Placed : History → Type 0
Placed h = Each (λ (p : Entry). entry_words * p.what.offset ≡ length (words_of p.what.position p.before)) (entries_of h)

abbrev pub data_in : History → List Produced
data_in h = collect produced_in h

-- the words of a position that an event adds: none, or four with a kind and a payload
entry-words : (x : ℕ) (e : Produced) (h : History) → e.position ≡ x → (a b : ℕ) × (words_of x (entry_written e ∷ h) ≡ words_of x h ++ (a ∷ 0 ∷ b ∷ e.payload ∷ []))
entry-words x e h q = (to_nat e.pid, to_nat e.epoch * 2 ^ 32 + to_nat e.sequence, words-next x (entry_written e) h ∙ rw (eq-eqb e.position x q) refl)

marker-words : (x : ℕ) (o : Order) (h : History) → o.position ≡ x → (a b : ℕ) × (words_of x (marker_written o ∷ h) ≡ words_of x h ++ (a ∷ (o.verdict + 1) ∷ b ∷ 0 ∷ []))
marker-words x o h q = (to_nat o.pid, to_nat o.epoch * 2 ^ 32 + to_nat o.coordinator, words-next x (marker_written o) h ∙ rw (eq-eqb o.position x q) refl)

no-entry-words : (x : ℕ) (e : Produced) (h : History) → eqb e.position x ≡ false → words_of x (entry_written e ∷ h) ≡ words_of x h
no-entry-words x e h q = words_same x (entry_written e) h (rw q refl)

no-marker-words : (x : ℕ) (o : Order) (h : History) → eqb o.position x ≡ false → words_of x (marker_written o ∷ h) ≡ words_of x h
no-marker-words x o h q = words_same x (marker_written o) h (rw q refl)

four-more : (l m : List ℕ) (a b d e : ℕ) → m ≡ l ++ (a ∷ b ∷ d ∷ e ∷ []) → length m ≡ length l + 4
four-more l m a b d e q = ap length q ∙ length-append l (a ∷ b ∷ d ∷ e ∷ [])

pub falling : (x : ℕ) (h : History) → Placed h → (n : ℕ) → entry_words * n ≡ length (words_of x h) → Falling x n (data_in h)
unfolding collect collect_with_before
falling x [] i n q = tt
falling x (record_appended r end ∷ h) i n q = falling x h i n (q ∙ ap length (words_same x (record_appended r end) h refl))
falling x (log_flushed m ∷ h) i n q = falling x h i n (q ∙ ap length (words_same x (log_flushed m) h refl))
falling x (log_cut m ∷ h) i n q = falling x h i n (q ∙ ap length (words_same x (log_cut m) h refl))
falling x (log_opened epoch ∷ h) i n q = falling x h i n (q ∙ ap length (words_same x (log_opened epoch) h refl))
falling x (order_given o ∷ h) i n q = falling x h i n (q ∙ ap length (words_same x (order_given o) h refl))
falling x (marker_written o ∷ h) i n q =
    either (eqb o.position x)
    (λ t.
    let (a, b, w) = marker-words x o h (eqb-true o.position x t) in
    let z = four-more (words_of x h) (words_of x (marker_written o ∷ h)) a (o.verdict + 1) b 0 w in
    falling-more x (n - 1) n (omega arith) (data_in h) (falling x h i (n - 1) (omega arith)))
    (λ t. falling x h i n (q ∙ ap length (no-marker-words x o h t)))
falling x (order_carried o ∷ h) i n q = falling x h i n (q ∙ ap length (words_same x (order_carried o) h refl))
falling x (entry_written e ∷ h) (i, is) n q =
    either (eqb e.position x)
    (λ t.
    let same = eqb-true e.position x t in
    let (a, b, w) = entry-words x e h same in
    let z = four-more (words_of x h) (words_of x (entry_written e ∷ h)) a 0 b e.payload w in
    let at : entry_words * e.offset ≡ length (words_of x h) = i ∙ ap (λ (y : ℕ). length (words_of y h)) same in
    (λ _. omega arith, rw t (falling x h is e.offset at)))
    (λ t. (λ y. absurd (eqb-false e.position x t y), rw t (falling x h is n (q ∙ ap length (no-entry-words x e h t)))))

-- what stands at an offset: the one data entry, or a marker
pub data AtOffset (x : ℕ) (words : List ℕ) (data-entries : List Produced) (o : ℕ) : Type 0 where
  data_at : (e : Produced) → filter (in_range x o (o + 1)) data-entries ≡ e ∷ [] → e.offset ≡ o → kind_at words o ≡ 0 → payload_at words o ≡ e.payload → AtOffset x words data-entries o
  marker_at : filter (in_range x o (o + 1)) data-entries ≡ [] → (kind_at words o ≡ 0 → ⊥) → AtOffset x words data-entries o

pub moved : (x o : ℕ) (v w : List ℕ) (d f : List Produced) → filter (in_range x o (o + 1)) f ≡ filter (in_range x o (o + 1)) d → kind_at w o ≡ kind_at v o → payload_at w o ≡ payload_at v o → AtOffset x v d o → AtOffset x w f o
moved x o v w d f l k y (data_at e q at a b) = data_at e (l ∙ q) at (k ∙ a) (y ∙ b)
moved x o v w d f l k y (marker_at q a) = marker_at (l ∙ q) (λ z. a (sym k ∙ z))

same_at : (x o : ℕ) (h v : History) → words_of x v ≡ words_of x h → data_in v ≡ data_in h → AtOffset x (words_of x h) (data_in h) o → AtOffset x (words_of x v) (data_in v) o
same_at x o h v e f a = rw (e, f) a

pub at_offset : (x o : ℕ) (h : History) → Placed h → (n : ℕ) → entry_words * n ≡ length (words_of x h) → o < n → AtOffset x (words_of x h) (data_in h) o
unfolding collect collect_with_before
at_offset x o [] i n q b = absurd (let z : length (words_of x []) ≡ 0 = none x in omega arith)
  where
    none : (x : ℕ) → length (words_of x []) ≡ 0
    none x = unfold words_of in refl
at_offset x o (record_appended r end ∷ h) i n q b = let w = words_same x (record_appended r end) h refl in same_at x o h (record_appended r end ∷ h) w refl (at_offset x o h i n (q ∙ ap length w) b)
at_offset x o (log_flushed m ∷ h) i n q b = let w = words_same x (log_flushed m) h refl in same_at x o h (log_flushed m ∷ h) w refl (at_offset x o h i n (q ∙ ap length w) b)
at_offset x o (log_cut m ∷ h) i n q b = let w = words_same x (log_cut m) h refl in same_at x o h (log_cut m ∷ h) w refl (at_offset x o h i n (q ∙ ap length w) b)
at_offset x o (log_opened epoch ∷ h) i n q b = let w = words_same x (log_opened epoch) h refl in same_at x o h (log_opened epoch ∷ h) w refl (at_offset x o h i n (q ∙ ap length w) b)
at_offset x o (order_given y ∷ h) i n q b = let w = words_same x (order_given y) h refl in same_at x o h (order_given y ∷ h) w refl (at_offset x o h i n (q ∙ ap length w) b)
at_offset x o (order_carried y ∷ h) i n q b = let w = words_same x (order_carried y) h refl in same_at x o h (order_carried y ∷ h) w refl (at_offset x o h i n (q ∙ ap length w) b)
at_offset x o (marker_written m ∷ h) i n q b =
    either (eqb m.position x)
    (λ t.
    let (c, d, w) = marker-words x m h (eqb-true m.position x t) in
    let z = four-more (words_of x h) (words_of x (marker_written m ∷ h)) c (m.verdict + 1) d 0 w in
    let before : entry_words * (n - 1) ≡ length (words_of x h) = omega arith in
    either (ltb o (n - 1))
    (λ l. let low = ltb-true o (n - 1) l in let (k, y) = entry-behind (words_of x h) c (m.verdict + 1) d 0 o (words_of x (marker_written m ∷ h)) w (omega arith) in moved x o (words_of x h)
    (words_of x (marker_written m ∷ h)) (data_in h) (data_in h) refl k y (at_offset x o h i (n - 1) before low))
    (λ l. let high = ltb-false o (n - 1) l in let (k, y) = entry-last (words_of x h) c (m.verdict + 1) d 0 o (words_of x (marker_written m ∷ h)) w (omega arith) in
    marker_at (filter_none (in_range x o (o + 1)) (data_in h) (falling-none x (n - 1) o (o + 1) high (data_in h) (falling x h i (n - 1) before))) (λ e. omega arith)))
    (λ t. let w = no-marker-words x m h t in same_at x o h (marker_written m ∷ h) w refl (at_offset x o h i n (q ∙ ap length w) b))
at_offset x o (entry_written e ∷ h) (i, is) n q b =
    either (eqb e.position x)
    (λ t.
    let same = eqb-true e.position x t in
    let (c, d, w) = entry-words x e h same in
    let z = four-more (words_of x h) (words_of x (entry_written e ∷ h)) c 0 d e.payload w in
    let at : entry_words * e.offset ≡ length (words_of x h) = i ∙ ap (λ (y : ℕ). length (words_of y h)) same in
    either (ltb o e.offset)
    (λ l. let low = ltb-true o e.offset l in let (k, y) = entry-behind (words_of x h) c 0 d e.payload o (words_of x (entry_written e ∷ h)) w (omega arith) in
    moved x o (words_of x h) (words_of x (entry_written e ∷ h)) (data_in h) (e ∷ data_in h)
    (filter-miss (in_range x o (o + 1)) e (data_in h) (rw (t, le-ltb e.offset (o + 1) (omega arith), and-false (leb o e.offset)) refl)) k y (at_offset x o h is e.offset at low))
    (λ l. let high = ltb-false o e.offset l in let here : e.offset ≡ o = omega arith in let (k, y) = entry-last (words_of x h) c 0 d e.payload o (words_of x (entry_written e ∷ h)) w (omega arith) in
    data_at e (filter-hit (in_range x o (o + 1)) e (data_in h) (rw (t, le-leb o e.offset (omega arith), lt-ltb e.offset (o + 1) (omega arith)) refl)
    ∙ ap (λ (m : List Produced). e ∷ m) (filter_none (in_range x o (o + 1)) (data_in h) (falling-none x e.offset o (o + 1) (omega arith) (data_in h) (falling x h is e.offset at)))) here k y))
    (λ t. let w = no-entry-words x e h t in moved x o (words_of x h) (words_of x (entry_written e ∷ h)) (data_in h) (e ∷ data_in h) (filter-miss (in_range x o (o + 1)) e (data_in h) (rw t refl))
    (rw w refl) (rw w refl) (at_offset x o h is n (q ∙ ap length w) b))
