-- A Tick ends a transaction in time: whatever the history, `EndsInTime` follows from `Ticks`.
use Prim.Native.Nat.{ℕ, ◌+◌, ◌<◌}
use mathlib.Core.Path.{◌≡◌, refl}
use mathlib.Core.Bool.{true, false}
use mathlib.Core.List.{List, [], ◌∷◌, ◌++◌}
use mathlib.Core.Option.{none, some}
use native.Mathlib.Omega.{arith}
use borrow.Author.Tests.{lt-ltb}
use Rattle.numbers.proofs.Tests.{not-both}
use Rattle.search.specs.Search.{found, Each}
use Rattle.search.proofs.Laws.{first_found, first-before}
use Rattle.answers.specs.Answers.{Reply}
use Rattle.runs.specs.History.{History, Logged, is_flushed, latest_of, names, name_at}
use Rattle.runs.specs.Timeouts.{is_begin, beginning_of, is_due, due_place, Ticks, BeganAt, EndsInTime}

-- a record of another status begins nothing
none-under-way : (older : List Logged) → ((x : Logged) (rest : List Logged) → older ≡ x ∷ rest → is_begin x ≡ false) → beginning_of older ≡ none
unfolding beginning_of
none-under-way [] other = refl
none-under-way (x ∷ rest) other = rw (other x rest refl) refl

-- however many widenings stand before it, the transaction began with the oldest of the BEGINs
beginning-is : (widenings : List Logged) (first : Logged) (older : List Logged) → Each (λ (x : Logged). is_begin x ≡ true) (widenings ++ (first ∷ []))
    → ((x : Logged) (rest : List Logged) → older ≡ x ∷ rest → is_begin x ≡ false) → beginning_of (widenings ++ (first ∷ older)) ≡ some first
unfolding beginning_of
beginning-is [] first older (begins, _) other = rw (begins, none-under-way older other) refl
beginning-is (x ∷ widenings) first older (begins, more) other = rw (begins, beginning-is widenings first older more other) refl

module _ (clock : ℕ) (h : History) where
  due : (name : List ℕ) (a d : ℕ) → BeganAt h name a d → found (is_flushed h) (latest_of name h) ≡ true → a + d < clock → is_due clock h name ≡ true
  due name a d b flushed above =
      rw (flushed, b.records, beginning-is b.widenings b.first b.older b.begins b.before, b.at, b.timeout) (lt-ltb (a + d) clock above)

  pub in-time : (answer : Reply) (after : History) → Ticks clock h answer after → EndsInTime clock h answer after
  in-time answer after t place a d named b flushed above =
      let passes : is_due clock h (name_at h place) ≡ true = due (name_at h place) a d b flushed above in
      let low : place < due_place clock h → ⊥ = λ l. not-both (first-before (is_due clock h) (names h) [] place l) passes in
      let (answers, appends) = t.aborts (omega arith) in
      record {
        lowest = due_place clock h;
        up_to = omega arith;
        due = first_found (is_due clock h) (names h) [] (omega arith);
        answers = answers;
        appends = appends;
      }
