-- Searching a list with a test: the first element that passes, all that pass and how many; the sum of a number over a list; what holds of each element.
use Rattle.std.specs.Prelude.{ℕ, suc, ◌+◌, Bool, true, false, cond, ◌&&◌, List, [], ◌∷◌}
use Rattle.std.proofs.Math.Option.{Option, none, some}

-- the place of the first element that passes, and the length of the list where none does
unfoldable pub first_where : {A : Type 0} → (A → Bool) → List A → ℕ
first_where p [] = 0
first_where p (x ∷ l) = cond (p x) 0 (suc (first_where p l))

-- how many elements pass
unfoldable pub count_where : {A : Type 0} → (A → Bool) → List A → ℕ
count_where p [] = 0
count_where p (x ∷ l) = cond (p x) 1 0 + count_where p l

-- the sum of a number over the elements
unfoldable pub sum_of : {A : Type 0} → (A → ℕ) → List A → ℕ
sum_of f [] = 0
sum_of f (x ∷ l) = f x + sum_of f l

-- the first element that passes, if there is one
unfoldable pub find : {A : Type 0} → (A → Bool) → List A → Option A
find p [] = none
find p (x ∷ l) = cond (p x) (some x) (find p l)

-- the first of two, if there is one, else the second
abbrev pub or_else : {A : Type 0} → Option A → Option A → Option A
or_else none other = other
or_else (some x) other = some x

-- the last element that passes, if there is one
unfoldable pub find_last : {A : Type 0} → (A → Bool) → List A → Option A
find_last p [] = none
find_last p (x ∷ l) = or_else (find_last p l) (cond (p x) (some x) none)

-- the elements that pass, in order
unfoldable pub filter : {A : Type 0} → (A → Bool) → List A → List A
filter p [] = []
filter p (x ∷ l) = let rest = filter p l in cond (p x) (x ∷ rest) rest

-- whether there is one
abbrev pub is_found : {A : Type 0} → Option A → Bool
is_found none = false
is_found (some x) = true

-- there is one, and this holds of it
abbrev pub Found : {A : Type 0} → (A → Type 0) → Option A → Type 0
Found P none = ⊥
Found P (some x) = P x

-- this holds of it, if there is one
abbrev pub IfFound : {A : Type 0} → (A → Type 0) → Option A → Type 0
IfFound P none = Unit {0}
IfFound P (some x) = P x

-- the same as tests
abbrev pub found : {A : Type 0} → (A → Bool) → Option A → Bool
found p none = false
found p (some x) = p x

abbrev pub if_found : {A : Type 0} → (A → Bool) → Option A → Bool
if_found p none = true
if_found p (some x) = p x

-- this holds of each element
abbrev pub Each : {A : Type 0} → (A → Type 0) → List A → Type 0
Each P [] = Unit {0}
Each P (x ∷ l) = P x × Each P l

-- this holds of each element and its place, counted from n on
abbrev pub EachAt : {A : Type 0} → (ℕ → A → Type 0) → ℕ → List A → Type 0
EachAt P n [] = Unit {0}
EachAt P n (x ∷ l) = P n x × EachAt P (suc n) l

-- the same as tests
unfoldable pub all : {A : Type 0} → (A → Bool) → List A → Bool
all p [] = true
all p (x ∷ l) = p x && all p l

unfoldable pub all_at : {A : Type 0} → (ℕ → A → Bool) → ℕ → List A → Bool
all_at p n [] = true
all_at p n (x ∷ l) = p n x && all_at p (suc n) l
