-- Laws of tests in order and of what is decided by them.
use Prim.Native.Nat.{ℕ}
use mathlib.Core.Path.{◌≡◌, refl, sym, ap, ◌∙◌}
use mathlib.Core.Bool.{Bool, true, false, cond, ◌&&◌, ◌||◌, and-true, true≢false}
use mathlib.Core.List.{List, [], ◌∷◌, ◌++◌}
use lib.Dec.{eqb}
use borrow.Author.Tests.{eqb-true, eqb-false, eq-eqb, ne_eqb}
use Rattle.answers.specs.Refusals.{Test, refuse, first_refusal, or_refuse, numbers_of, among, Decision, unless}

-- ---- the first test that applies

-- one that applies, and one that does not
pub first-applies : (number : ℕ) (applies : Bool) (tests : List Test) → applies ≡ true → first_refusal (refuse number applies ∷ tests) ≡ number
unfolding first_refusal
first-applies number applies tests e = rw e

pub first_passes : (number : ℕ) (applies : Bool) (tests : List Test) → applies ≡ false → first_refusal (refuse number applies ∷ tests) ≡ first_refusal tests
unfolding first_refusal
first_passes number applies tests e = rw e

-- none of the tests applies
abbrev pub NoneApplies : List Test → Type 0
NoneApplies [] = Unit {0}
NoneApplies (refuse number applies ∷ tests) = (applies ≡ false) × NoneApplies tests

-- where a refusal that has two tests does not apply, neither test does
pub or-false-left : (a b : Bool) → (a || b) ≡ false → a ≡ false
or-false-left true b e = e
or-false-left false b e = refl

pub or-false-right : (a b : Bool) → (a || b) ≡ false → b ≡ false
or-false-right true b e = cc
or-false-right false b e = e

-- where no test has the number 0, a first refusal of 0 says that none applies
pub none-applies : (tests : List Test) → among 0 (numbers_of tests) ≡ false → first_refusal tests ≡ 0 → NoneApplies tests
unfolding first_refusal numbers_of among
none-applies [] h e = tt
none-applies (refuse number true ∷ tests) h e = absurd (eqb-false 0 number (or-false-left _ _ h) (sym e))
none-applies (refuse number false ∷ tests) h e = (refl, none-applies tests (or-false-right (eqb 0 number) _ h) e)

pub none_is : (tests : List Test) → NoneApplies tests → first_refusal tests ≡ 0
unfolding first_refusal
none_is [] h = refl
none_is (refuse number applies ∷ tests) (h, hs) = rw h (none_is tests hs)

-- tests behind others count where none of the others applies; that the first refusal is 0 says so, where none of the others has the number 0
pub first-append : (tests behind : List Test) → among 0 (numbers_of tests) ≡ false
    → first_refusal (tests ++ behind) ≡ cond (eqb (first_refusal tests) 0) (first_refusal behind) (first_refusal tests)
unfolding first_refusal numbers_of among
first-append [] behind h = refl
first-append (refuse number true ∷ tests) behind h = rw (ne_eqb number 0 (λ z. eqb-false 0 number (or-false-left _ _ h) (sym z)))
first-append (refuse number false ∷ tests) behind h = first-append tests behind (or-false-right (eqb 0 number) _ h)

-- ---- the first refusal, test by test

-- of tests behind others, by the first refusal of those
unfoldable pub refusal_after : ℕ → List Test → ℕ
refusal_after before tests = cond (eqb before 0) (first_refusal tests) before

pub after_none : (tests : List Test) → first_refusal tests ≡ refusal_after 0 tests
unfolding refusal_after
after_none tests = refl

pub after_next_lem : (before number : ℕ) (applies : Bool) (tests : List Test) {r : ℕ} {a : Bool} → eqb number 0 ≡ false → a ≡ applies → r ≡ or_refuse before number a
    → refusal_after before (refuse number applies ∷ tests) ≡ refusal_after r tests
unfolding refusal_after first_refusal or_refuse
after_next_lem before number applies tests {r} {a} h e q = rw (q, e) (go (eqb before 0) refl applies)
  where
    go : (b : Bool) → eqb before 0 ≡ b → (t : Bool)
        → cond b (cond t number (first_refusal tests)) before ≡ cond (eqb (cond b (cond t number 0) before) 0) (first_refusal tests) (cond b (cond t number 0) before)
    go true z true = rw h
    go true z false = refl
    go false z t = rw z

pub after-all : (r : ℕ) → refusal_after r [] ≡ r
unfolding refusal_after first_refusal
after-all r = go (eqb r 0) refl
  where
    go : (b : Bool) → eqb r 0 ≡ b → cond b 0 r ≡ r
    go true z = sym (eqb-true r 0 z)
    go false z = refl

-- ---- which numbers there can be

or_right : (a b : Bool) → b ≡ true → (a || b) ≡ true
or_right true b e = refl
or_right false b e = e

skip-one : (a b c : Bool) → (a || c) ≡ true → (a || (b || c)) ≡ true
skip-one true b c e = refl
skip-one false true c e = refl
skip-one false false c e = e

pub first-among : (tests : List Test) → among (first_refusal tests) (0 ∷ numbers_of tests) ≡ true
unfolding first_refusal numbers_of among
first-among [] = refl
first-among (refuse number true ∷ tests) = or_right (eqb number 0) _ (rw (eq-eqb number number refl))
first-among (refuse number false ∷ tests) = skip-one (eqb (first_refusal tests) 0) (eqb (first_refusal tests) number) _ (first-among tests)

-- a number other than 0 that no test has is not the first refusal
pub first-other : (k : ℕ) (tests : List Test) → among k (0 ∷ numbers_of tests) ≡ false → first_refusal tests ≡ k → ⊥
first-other k tests h e = true≢false (sym (first-among tests) ∙ ap (λ (n : ℕ). among n (0 ∷ numbers_of tests)) e ∙ h)

-- no test of this number applies
abbrev pub NoneOf : ℕ → List Test → Type 0
NoneOf k [] = eqb 0 k ≡ false
NoneOf k (refuse number applies ∷ tests) = ((eqb number k && applies) ≡ false) × NoneOf k tests

-- so it is not the first refusal
pub first-none-of : (k : ℕ) (tests : List Test) → NoneOf k tests → first_refusal tests ≡ k → ⊥
unfolding first_refusal
first-none-of k [] h e = eqb-false 0 k h e
first-none-of k (refuse number true ∷ tests) (h, hs) e = eqb-false number k (sym (and-true (eqb number k)) ∙ h) e
first-none-of k (refuse number false ∷ tests) (h, hs) e = first-none-of k tests hs e

-- ---- what is decided

module _ {Answer Action : Type 0} (k : ℕ) (refused : ℕ → Answer) (nothing : Action) (d : Decision Answer Action) where
  pub unless-accepted : k ≡ 0 → unless k refused nothing d ≡ d
  unless-accepted e = rw (eq-eqb k 0 e)

  pub unless-refused : (k ≡ 0 → ⊥) → unless k refused nothing d ≡ record { answer = refused k; action = nothing }
  unless-refused h = go (eqb k 0) refl
    where
      go : (b : Bool) → eqb k 0 ≡ b → ◌≡◌ {A = Decision Answer Action} (cond b d (record { answer = refused k; action = nothing })) (record { answer = refused k; action = nothing })
      go true e = absurd (h (eqb-true k 0 e))
      go false e = refl

  -- what holds of doing nothing, and of the action where no refusal is the first
  pub unless-does : (P : Action → Type 0) → P nothing → (k ≡ 0 → P d.action) → P (unless k refused nothing d).action
  unless-does P n f = go (eqb k 0) refl
    where
      go : (b : Bool) → eqb k 0 ≡ b → P (cond b d (record { answer = refused k; action = nothing })).action
      go true e = f (eqb-true k 0 e)
      go false e = n

module _ {Answer Action : Type 0} (number : Answer → ℕ) (k : ℕ) (refused : ℕ → Answer) (nothing : Action) (d : Decision Answer Action) where
  -- a decision whose answer is a refusal does nothing, if the answer to an accepted call is none
  pub unless-keeps : number d.answer ≡ 0 → (number (unless k refused nothing d).answer ≡ 0 → ⊥) → (unless k refused nothing d).action ≡ nothing
  unless-keeps done = go (eqb k 0)
    where
      go : (b : Bool)
          → (number (cond b d (record { answer = refused k; action = nothing })).answer ≡ 0 → ⊥)
          → (cond b d (record { answer = refused k; action = nothing })).action ≡ nothing
      go true h = absurd (h done)
      go false h = refl

  -- its number is that of the first refusal
  pub unless-number : number d.answer ≡ 0 → number (refused k) ≡ k → number (unless k refused nothing d).answer ≡ k
  unless-number done same = go (eqb k 0) refl
    where
      go : (b : Bool) → eqb k 0 ≡ b → number (cond b d (record { answer = refused k; action = nothing })).answer ≡ k
      go true e = done ∙ sym (eqb-true k 0 e)
      go false e = same
