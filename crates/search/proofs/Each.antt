-- Laws of what holds of each element of a list: one element, a changed list, and what a test finds of all of them or of the one found.
use Prim.Native.Nat.{ℕ, zero, suc, ◌+◌}
use mathlib.Core.Path.{◌≡◌, refl, sym, subst}
use mathlib.Core.Logic.{◌≢◌}
use native.Mathlib.Decide.{ℕ_discrete}
use native.Mathlib.Omega.{arith}
use mathlib.Core.Bool.{Bool, true, false, ◌&&◌, true≢false}
use mathlib.Core.List.{List, [], ◌∷◌}
use lib.ListN.{get_or, set}
use mathlib.Core.Option.{Option, none, some}
use Rattle.search.specs.Search.{first_where, found, if_found, all, all_at, Found, IfFound, Each, EachAt}

-- an element, a list with another element, and what follows
module _ {A : Type 0} (P : A → Type 0) where
  pub each_at : (l : List A) (d : A) (i : ℕ) → Each P l → P d → P (get_or l i d)
  each_at [] d i h p = p
  each_at (x ∷ l) d zero (h, hs) p = h
  each_at (x ∷ l) d (suc i) (h, hs) p = each_at l d i hs p

  pub each_set : (l : List A) (i : ℕ) (x : A) → Each P l → P x → Each P (set l i x)
  each_set [] i x h p = h
  each_set (y ∷ l) zero x (h, hs) p = (p, hs)
  each_set (y ∷ l) (suc i) x (h, hs) p = (h, each_set l i x hs p)

  pub each-then : (Q : A → Type 0) → ((x : A) → P x → Q x) → (l : List A) → Each P l → Each Q l
  each-then Q f [] h = tt
  each-then Q f (x ∷ l) (h, hs) = (f x h, each-then Q f l hs)

-- ---- tests

both : {C : Type 0} (a b : Bool) → (a && b) ≡ true → (a ≡ true → b ≡ true → C) → C
both true b e f = f refl e
both false b e f = absurd (true≢false (sym e))

pub each-true : {A : Type 0} (P : A → Type 0) (p : A → Bool) → ((x : A) → p x ≡ true → P x) → (l : List A) → all p l ≡ true → Each P l
unfolding all
each-true P p f [] e = tt
each-true P p f (x ∷ l) e = both (p x) (all p l) e (λ here rest. (f x here, each-true P p f l rest))

pub each-at-true : {A : Type 0} (P : ℕ → A → Type 0) (p : ℕ → A → Bool) → ((n : ℕ) (x : A) → p n x ≡ true → P n x) → (n : ℕ) (l : List A)
    → all_at p n l ≡ true
    → EachAt P n l
unfolding all_at
each-at-true P p f n [] e = tt
each-at-true P p f n (x ∷ l) e = both (p n x) (all_at p (suc n) l) e (λ here rest. (f n x here, each-at-true P p f (suc n) l rest))

pub found-true : {A : Type 0} (P : A → Type 0) (p : A → Bool) → ((x : A) → p x ≡ true → P x) → (o : Option A) → found p o ≡ true → Found P o
found-true P p f none e = absurd (true≢false (sym e))
found-true P p f (some x) e = f x e

pub if-found-true : {A : Type 0} (P : A → Type 0) (p : A → Bool) → ((x : A) → p x ≡ true → P x) → (o : Option A) → if_found p o ≡ true → IfFound P o
if-found-true P p f none e = tt
if-found-true P p f (some x) e = f x e

-- ---- searches

-- two tests that agree on each element find the same place
pub first-same : {A : Type 0} (p q : A → Bool) (l : List A) → Each (λ (x : A). p x ≡ q x) l → first_where p l ≡ first_where q l
unfolding first_where
first-same p q [] h = refl
first-same p q (x ∷ l) (h, hs) = rw (h, first-same p q l hs)

-- ---- places

pub each-place : {A : Type 0} (P : ℕ → A → Type 0) (d : A) (n : ℕ) (l : List A) → ((x : ℕ) → P (n + x) (get_or l x d)) → EachAt P n l
each-place P d n [] f = tt
each-place P d n (y ∷ l) f =
    (let z : n + 0 ≡ n = omega arith in subst (λ (k : ℕ). P k y) z (f 0), each-place P d (suc n) l (λ x. let z : n + suc x ≡ suc n + x = omega arith in subst (λ (k : ℕ). P k (get_or l x d)) z (f (suc x))))

-- what holds of the values of a function holds of another that has the same ones but at one place
pub but-at : {A : Type 0} (f g : ℕ → A) (k : ℕ) (a : A) → g k ≡ a → ((j : ℕ) → j ≢ k → g j ≡ f j) → (P : ℕ → A → Type 0) → P k a → ((j : ℕ) → P j (f j)) → (j : ℕ) → P j (g j)
but-at f g k a here others P new old j = go (ℕ_discrete j k)
  where
    go : Dec (j ≡ k) → P j (g j)
    go (yes e) = subst (λ (i : ℕ). P i (g i)) (sym e) (subst (P k) (sym here) new)
    go (no n) = subst (P j) (sym (others j n)) (old j)
