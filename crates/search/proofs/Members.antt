-- The elements of a list: what holds of each of them, and of one.
use mathlib.Core.Path.{◌≡◌, refl, subst}
use mathlib.Core.List.{List, [], ◌∷◌}
use Rattle.search.specs.Search.{Each}

pub data In {A : Type 0} (r : A) : List A → Type 0 where
  here : {x : A} {l : List A} → x ≡ r → In r (x ∷ l)
  there : {x : A} {l : List A} → In r l → In r (x ∷ l)

pub in-nil : {A : Type 0} {X : Type 0} {r : A} → In r [] → X
in-nil h = elim h [ ]

pub in-cons : {A : Type 0} {X : Type 0} {r x : A} {l : List A} → In r (x ∷ l) → (x ≡ r → X) → (In r l → X) → X
in-cons (here e) f g = f e
in-cons (there i) f g = g i

module _ {A : Type 0} (P : A → Type 0) where
  pub each_in : (l : List A) (r : A) → Each P l → In r l → P r
  each_in [] r h i = in-nil i
  each_in (x ∷ l) r (h, hs) i = in-cons i (λ e. subst P e h) (λ j. each_in l r hs j)

  pub in-each : (l : List A) → ((r : A) → In r l → P r) → Each P l
  in-each [] f = tt
  in-each (x ∷ l) f = (f x (here refl), in-each l (λ r i. f r (there i)))
