-- Laws of the first and the last element that pass a test, and of all that pass.
use mathlib.Core.Path.{◌≡◌, refl, sym, ap, subst, ◌∙◌}
use mathlib.Core.Bool.{Bool, true, false, cond, ◌||◌}
use mathlib.Core.List.{List, [], ◌∷◌, ◌++◌, map, reverse_aux}
use mathlib.Core.Option.{Option, none, some}
use Rattle.numbers.proofs.Tests.{either, by_cases, not-both}
use Rattle.search.specs.Search.{find, find_last, filter, is_found, Each}
use Rattle.search.proofs.Found.{none-some, some_same}
use Rattle.search.proofs.Members.{In, here, there, in-nil, in-cons}

-- ---- the first and the last that pass

pub find-nothing : {A : Type 0} {X : Type 0} (p : A → Bool) (r : A) → find p [] ≡ some r → X
unfolding find
find-nothing p r e = none-some e

module _ {A : Type 0} (p : A → Bool) where
  pub find-hit : (x : A) (l : List A) → p x ≡ true → find p (x ∷ l) ≡ some x
  unfolding find
  find-hit x l e = rw e

  pub find-miss : (x : A) (l : List A) → p x ≡ false → find p (x ∷ l) ≡ find p l
  unfolding find
  find-miss x l e = rw e

  -- what is found is there and passes
  pub find-in : (l : List A) (r : A) → find p l ≡ some r → In r l
  unfolding find
  find-in [] r e = none-some e
  find-in (x ∷ l) r e =
      by_cases (λ (o : Option A). o ≡ some r → In r (x ∷ l)) (p x) (λ t s. here (some_same s)) (λ t s. there (find-in l r s)) e

  pub find-passes : (l : List A) (r : A) → find p l ≡ some r → p r ≡ true
  unfolding find
  find-passes [] r e = none-some e
  find-passes (x ∷ l) r e =
      by_cases (λ (o : Option A). o ≡ some r → p r ≡ true) (p x) (λ t s. ap p (sym (some_same s)) ∙ t) (λ t s. find-passes l r s) e

  -- what passes is found, or one before it
  pub find-some : (l : List A) (r : A) → In r l → p r ≡ true → (x : A) × (find p l ≡ some x)
  find-some [] r i t = in-nil i
  find-some (y ∷ l) r i t =
      either (p y) (λ e. (y, find-hit y l e))
      (λ e. in-cons i (λ q. not-both e (subst (λ (z : A). p z ≡ true) (sym q) t)) (λ j. let (x, f) = find-some l r j t in (x, find-miss y l e ∙ f)))

  pub find-fails : (l : List A) → Each (λ (x : A). p x ≡ false) l → find p l ≡ none
  find-fails [] h = unfold find in refl
  find-fails (x ∷ l) (h, hs) = find-miss x l h ∙ find-fails l hs

  -- whether one is found
  pub found-more : (x : A) (l : List A) → is_found (find p (x ∷ l)) ≡ (p x || is_found (find p l))
  found-more x l = either (p x) (λ e. rw (find-hit x l e, e) refl) (λ e. rw (find-miss x l e, e) refl)

  pub last_none : (x : A) (l : List A) → p x ≡ false → find_last p l ≡ none → find_last p (x ∷ l) ≡ none
  unfolding find_last
  last_none x l e n = rw (n, e)

  pub last-here : (x : A) (l : List A) → p x ≡ true → find_last p l ≡ none → find_last p (x ∷ l) ≡ some x
  unfolding find_last
  last-here x l e n = rw (n, e)

  pub last-there : (x : A) (l : List A) (y : A) → find_last p l ≡ some y → find_last p (x ∷ l) ≡ some y
  unfolding find_last
  last-there x l y n = rw n

  pub last-fails : (l : List A) → Each (λ (x : A). p x ≡ false) l → find_last p l ≡ none
  last-fails [] h = unfold find_last in refl
  last-fails (x ∷ l) (h, hs) = last_none x l h (last-fails l hs)

-- ---- those that pass

module _ {A : Type 0} (P : A → Type 0) (p : A → Bool) where
  pub each-filter : (l : List A) → Each (λ (x : A). p x ≡ true → P x) l → Each P (filter p l)
  unfolding filter
  each-filter [] h = tt
  each-filter (x ∷ l) (h, hs) = by_cases (Each P) (p x) (λ e. (h e, each-filter l hs)) (λ e. each-filter l hs)

module _ {A : Type 0} (p : A → Bool) where
  pub filter-hit : (x : A) (l : List A) → p x ≡ true → filter p (x ∷ l) ≡ x ∷ filter p l
  unfolding filter
  filter-hit x l e = rw e

  pub filter-miss : (x : A) (l : List A) → p x ≡ false → filter p (x ∷ l) ≡ filter p l
  unfolding filter
  filter-miss x l e = rw e

  pub filter_none : (l : List A) → Each (λ (x : A). p x ≡ false) l → filter p l ≡ []
  filter_none [] h = unfold filter in refl
  filter_none (x ∷ l) (h, hs) = filter-miss x l h ∙ filter_none l hs

  pub filter-join : (a b : List A) → filter p (a ++ b) ≡ filter p a ++ filter p b
  unfolding filter
  filter-join [] b = refl
  filter-join (x ∷ a) b = go (p x) (filter-join a b)
    where
      go : (t : Bool) → filter p (a ++ b) ≡ filter p a ++ filter p b → cond t (x ∷ filter p (a ++ b)) (filter p (a ++ b)) ≡ cond t (x ∷ filter p a) (filter p a) ++ filter p b
      go true e = ap (λ (l : List A). x ∷ l) e
      go false e = e

pub each-reverse : {A : Type 0} (P : A → Type 0) (l m : List A) → Each P l → Each P m → Each P (reverse_aux l m)
each-reverse P [] m h k = k
each-reverse P (x ∷ l) m (h, hs) k = each-reverse P l (x ∷ m) hs (h, k)

module _ {A B : Type 0} (f : A → B) where
  pub filter_map : (p : B → Bool) (l : List A) → filter p (map f l) ≡ map f (filter (λ (x : A). p (f x)) l)
  unfolding filter
  filter_map p [] = refl
  filter_map p (x ∷ l) = go (p (f x)) (filter_map p l)
    where
      go : (b : Bool) → filter p (map f l) ≡ map f (filter (λ (x : A). p (f x)) l)
          → cond b (f x ∷ filter p (map f l)) (filter p (map f l)) ≡ map f (cond b (x ∷ filter (λ (x : A). p (f x)) l) (filter (λ (x : A). p (f x)) l))
      go true e = ap (λ (m : List B). f x ∷ m) e
      go false e = e

  pub reverse-map : (l m : List A) → reverse_aux (map f l) (map f m) ≡ map f (reverse_aux l m)
  reverse-map [] m = refl
  reverse-map (x ∷ l) m = reverse-map l (x ∷ m)

pub filter_same : {A : Type 0} (p q : A → Bool) (l : List A) → Each (λ (x : A). p x ≡ q x) l → filter p l ≡ filter q l
unfolding filter
filter_same p q [] i = refl
filter_same p q (x ∷ l) (i, is) = rw (i, filter_same p q l is) refl

-- what is found is the first of those that pass
pub filter-found : {A : Type 0} (p : A → Bool) (l : List A) (x : A) → find p l ≡ some x → (rest : List A) × (filter p l ≡ x ∷ rest)
filter-found p [] x e = find-nothing p x e
filter-found {A} p (y ∷ l) x e =
    either (p y) (λ t. (filter p l, filter-hit p y l t ∙ ap (λ (z : A). z ∷ filter p l) (some_same (sym (find-hit p y l t) ∙ e))))
    (λ f. let (rest, is) = filter-found p l x (sym (find-miss p y l f) ∙ e) in (rest, filter-miss p y l f ∙ is))
