-- Laws of searching a list with a test: where the first element that passes is, and how many pass; of a sum over a list; and of a list of images.
use Prim.Native.Nat.{ℕ, zero, suc, ◌+◌, ◌*◌, ◌≤◌, ◌<◌}
use mathlib.Core.Path.{◌≡◌, refl, ap, ◌∙◌}
use mathlib.Core.Bool.{Bool, true, false, cond}
use mathlib.Core.Logic.{◌↔◌}
use mathlib.Core.List.{List, [], ◌∷◌, ◌++◌, map}
use native.Mathlib.Nat.{add-zero, zero-add, mul-add, mul-one, mul-zero}
use native.Mathlib.Numerals.{add-one}
use native.Mathlib.Omega.{arith}
use lib.ListN.{length, take, drop, get_or, set, replicate, drop_of_length-le}
use lib.Seq.{take-suc, take-length, drop-cons}
use Rattle.numbers.proofs.Tests.{either}
use Rattle.search.specs.Search.{first_where, count_where, sum_of, Each}

-- an element of the list is the same under every default
pub default : {A : Type 0} (l : List A) (i : ℕ) (a b : A) → i < length l → get_or l i a ≡ get_or l i b
default [] i a b h = absurd (omega arith)
default (x ∷ l) zero a b h = refl
default (x ∷ l) (suc i) a b h = default l i a b (omega arith)

-- a place with an element that the default is not like lies in the list
pub inside : {A : Type 0} (P : A → Type 0) (l : List A) (d : A) (i : ℕ) → (P d → ⊥) → P (get_or l i d) → i < length l
inside P [] d i n h = absurd (n h)
inside P (x ∷ l) d zero n h = omega arith
inside P (x ∷ l) d (suc i) n h = omega (arith, inside P l d i n h)

-- what holds of every element and of the default, with another element of which it holds
pub set-each : {A : Type 0} (P : A → Type 0) (l : List A) (d : A) (i : ℕ) (x : A) → ((j : ℕ) → P (get_or l j d)) → P x → (j : ℕ) → P (get_or (set l i x) j d)
set-each P [] d i x h e j = h j
set-each P (y ∷ l) d zero x h e zero = e
set-each P (y ∷ l) d zero x h e (suc j) = h (suc j)
set-each P (y ∷ l) d (suc i) x h e zero = h 0
set-each P (y ∷ l) d (suc i) x h e (suc j) = set-each P l d i x (λ k. h (suc k)) e j

-- a list that repeats its default
pub repeated : {A : Type 0} (n i : ℕ) (a : A) → get_or (replicate n a) i a ≡ a
repeated zero i a = refl
repeated (suc n) zero a = refl
repeated (suc n) (suc i) a = repeated n i a

module _ {A : Type 0} (p : A → Bool) where
  -- ---- the first that passes

  hit : (x : A) (l : List A) → p x ≡ true → first_where p (x ∷ l) ≡ 0
  unfolding first_where
  hit x l e = rw e

  miss : (x : A) (l : List A) → p x ≡ false → first_where p (x ∷ l) ≡ suc (first_where p l)
  unfolding first_where
  miss x l e = rw e

  none : first_where p [] ≡ 0
  unfolding first_where
  none = refl

  pub first_found : (l : List A) (d : A) → first_where p l < length l → p (get_or l (first_where p l) d) ≡ true
  first_found [] d h = absurd (omega arith)
  first_found (x ∷ l) d h =
      either (p x) (λ e. rw (hit x l e) e) (λ e. rw (miss x l e) (first_found l d (omega (arith, miss x l e))))

  pub first-before : (l : List A) (d : A) (j : ℕ) → j < first_where p l → p (get_or l j d) ≡ false
  first-before [] d j h = absurd (omega (arith, none))
  first-before (x ∷ l) d zero h = either (p x) (λ e. absurd (omega (arith, hit x l e))) (λ e. e)
  first-before (x ∷ l) d (suc j) h =
      either (p x) (λ e. absurd (omega (arith, hit x l e))) (λ e. first-before l d j (omega (arith, miss x l e)))

  pub first-none : (l : List A) (d : A) → ((i : ℕ) → i < length l → p (get_or l i d) ≡ false) → first_where p l ≡ length l
  first-none [] d n = none
  first-none (x ∷ l) d n = miss x l (n 0 (omega arith)) ∙ ap suc (first-none l d (λ i h. n (suc i) (omega arith)))

  -- the search ends past the list exactly where every element fails
  pub first-nowhere : (l : List A) (d : A) → (length l ≤ first_where p l) ↔ ((i : ℕ) → i < length l → p (get_or l i d) ≡ false)
  first-nowhere l d = (λ h i k. first-before l d i (omega arith), λ n. omega (arith, first-none l d n))

  -- an element that passes, put no later than the first one, is the first
  pub first-set-same : (l : List A) (i : ℕ) (x : A) → i < length l → i ≤ first_where p l → p x ≡ true → first_where p (set l i x) ≡ i
  first-set-same [] i x h k e = absurd (omega arith)
  first-set-same (y ∷ l) zero x h k e = hit x l e
  first-set-same (y ∷ l) (suc i) x h k e =
      either (p y) (λ f. absurd (omega (arith, hit y l f)))
      (λ f. miss y (set l i x) f ∙ ap suc (first-set-same l i x (omega arith) (omega (arith, miss y l f)) e))

  -- an element that fails, put in place of one that fails, leaves the first one where it is
  pub first-set-other : (l : List A) (d : A) (i : ℕ) (x : A) → p (get_or l i d) ≡ false → p x ≡ false → first_where p (set l i x) ≡ first_where p l
  unfolding first_where
  first-set-other [] d i x f e = refl
  first-set-other (y ∷ l) d zero x f e = rw (f, e)
  first-set-other (y ∷ l) d (suc i) x f e = rw (first-set-other l d i x f e)

  -- a search from a place on: at an element that passes
  pub first-here : (l : List A) (d : A) (i : ℕ) → i < length l → p (get_or l i d) ≡ true → i + first_where p (drop i l) ≡ i
  first-here l d i h e = rw (drop-cons l i d h, hit (get_or l i d) (drop (suc i) l) e) (add-zero i)

  -- at one that fails
  pub first_on : (l : List A) (d : A) (i : ℕ) → i < length l → p (get_or l i d) ≡ false → i + first_where p (drop i l) ≡ i + 1 + first_where p (drop (i + 1) l)
  first_on l d i h e = rw (drop-cons l i d h, miss (get_or l i d) (drop (suc i) l) e, add-one i) (omega arith)

  -- past the end
  pub first-end : (l : List A) (i : ℕ) → length l ≤ i → i + first_where p (drop i l) ≡ i
  first-end l i h = rw (drop_of_length-le l h, none) (add-zero i)

  -- ---- how many pass

  pub count_most : (l : List A) → count_where p l ≤ length l
  unfolding count_where
  count_most [] = omega arith
  count_most (x ∷ l) = either (p x) (λ e. rw e (omega (arith, count_most l))) (λ e. rw e (omega (arith, count_most l)))

  pub count-some : (l : List A) (d : A) (i : ℕ) → i < length l → p (get_or l i d) ≡ true → 1 ≤ count_where p l
  unfolding count_where
  count-some [] d i h e = absurd (omega arith)
  count-some (x ∷ l) d zero h e = rw e (omega arith)
  count-some (x ∷ l) d (suc i) h e = omega (arith, count-some l d i (omega arith) e)

  -- the count with another element at a place
  pub count_set : (l : List A) (d : A) (i : ℕ) (x : A) → i < length l → count_where p (set l i x) + cond (p (get_or l i d)) 1 0 ≡ count_where p l + cond (p x) 1 0
  unfolding count_where
  count_set [] d i x h = absurd (omega arith)
  count_set (y ∷ l) d zero x h = omega arith
  count_set (y ∷ l) d (suc i) x h = omega (arith, count_set l d i x (omega arith))

  -- of two lists, one behind the other
  pub count-append : (a b : List A) → count_where p (a ++ b) ≡ count_where p a + count_where p b
  unfolding count_where
  count-append [] b = omega arith
  count-append (x ∷ a) b = omega (arith, count-append a b)

  -- a count up to a place: one element more, and all
  pub count-step : (l : List A) (d : A) (i : ℕ) → i < length l → count_where p (take (i + 1) l) ≡ count_where p (take i l) + cond (p (get_or l i d)) 1 0
  count-step l d i h = rw (add-one i, take-suc l i d h, count-append) (unfold count_where in omega arith)

  pub count-whole : (l : List A) → count_where p (take (length l) l) ≡ count_where p l
  count-whole l = ap (count_where p) (take-length l)

  -- a loop that counts: at an element that passes
  pub count-here : (l : List A) (d : A) (i : ℕ) → i < length l → (n m : ℕ) → n ≡ count_where p (take i l) → p (get_or l i d) ≡ true → m ≡ n + 1 → m ≡ count_where p (take (i + 1) l)
  count-here l d i h n m c e q = rw (count-step l d i h, e) (omega arith)

  -- at one that fails
  pub count-on : (l : List A) (d : A) (i : ℕ) → i < length l → (n m : ℕ) → n ≡ count_where p (take i l) → p (get_or l i d) ≡ false → m ≡ n → m ≡ count_where p (take (i + 1) l)
  count-on l d i h n m c e q = rw (count-step l d i h, e) (omega arith)

  -- past the end
  pub count-end : (l : List A) (i : ℕ) → length l ≡ i → count_where p (take i l) ≡ count_where p l
  count-end l i e = rw (← e) (count-whole l)

-- ---- the sum

module _ {A : Type 0} (f : A → ℕ) where
  -- the sum with another element at a place
  pub sum-set : (l : List A) (d : A) (i : ℕ) (x : A) → i < length l → sum_of f (set l i x) + f (get_or l i d) ≡ sum_of f l + f x
  unfolding sum_of
  sum-set [] d i x h = absurd (omega arith)
  sum-set (y ∷ l) d zero x h = omega arith
  sum-set (y ∷ l) d (suc i) x h = omega (arith, sum-set l d i x (omega arith))

  sum-append : (a b : List A) → sum_of f (a ++ b) ≡ sum_of f a + sum_of f b
  unfolding sum_of
  sum-append [] b = omega arith
  sum-append (x ∷ a) b = omega (arith, sum-append a b)

  -- a loop that sums: at an element
  pub sum_step : (l : List A) (d : A) (i : ℕ) → i < length l → (n m : ℕ) → n ≡ sum_of f (take i l) → m ≡ f (get_or l i d) → n + m ≡ sum_of f (take (i + 1) l)
  sum_step l d i h n m e q = rw (add-one i, take-suc l i d h, sum-append, e, q) (unfold sum_of in omega arith)

  -- past the end
  pub sum-end : (l : List A) (i : ℕ) → length l ≡ i → sum_of f (take i l) ≡ sum_of f l
  sum-end l i e = rw (← e) (ap (sum_of f) (take-length l))

  -- where no element adds more than k, and only those that pass add some
  pub sum-most : (p : A → Bool) (k : ℕ) (l : List A) (d : A) → ((i : ℕ) → i < length l → f (get_or l i d) ≤ cond (p (get_or l i d)) k 0) → sum_of f l ≤ k * count_where p l
  unfolding sum_of count_where
  sum-most p k [] d h = omega arith
  sum-most p k (x ∷ l) d h =
      let rest = sum-most p k l d (λ i j. h (suc i) (omega arith)) in
      let here : f x ≤ cond (p x) k 0 = h 0 (omega arith) in
      either (p x) (λ e. let most : f x ≤ k = rw e at here in rw (e, mul-add k 1 (count_where p l), mul-one k) (omega arith))
      (λ e. let most : f x ≤ 0 = rw e at here in rw (e, zero-add (count_where p l)) (omega arith))

  -- where each element adds a number if it passes one test, and another if it passes another
  pub sum-counts : (p q : A → Bool) (a b : ℕ) → ((x : A) → f x ≡ cond (p x) a 0 + cond (q x) b 0) → (l : List A) → sum_of f l ≡ a * count_where p l + b * count_where q l
  unfolding sum_of count_where
  sum-counts p q a b h [] = omega arith
  sum-counts p q a b h (x ∷ l) =
      rw (h x, sum-counts p q a b h l, mul-add a (cond (p x) 1 0) (count_where p l), mul-add b (cond (q x) 1 0) (count_where q l), if-passed a (p x), if-passed b (q x)) (omega arith)
    where
      if-passed : (k : ℕ) (t : Bool) → k * cond t 1 0 ≡ cond t k 0
      if-passed k true = mul-one k
      if-passed k false = mul-zero k

-- ---- the images of the elements under a function

module _ {A B : Type 0} (f : A → B) where
  -- another element, and then the images
  pub map-set : (l : List A) (i : ℕ) (x : A) → map f (set l i x) ≡ set (map f l) i (f x)
  map-set [] i x = refl
  map-set (y ∷ l) zero x = refl
  map-set (y ∷ l) (suc i) x = ap (λ (m : List B). f y ∷ m) (map-set l i x)

  -- a test of the images is a test of the elements
  pub first-map : (p : B → Bool) (l : List A) → first_where p (map f l) ≡ first_where (λ (x : A). p (f x)) l
  unfolding first_where
  first-map p [] = refl
  first-map p (x ∷ l) = rw (first-map p l)

  -- and so is a sum
  pub sum-map : (g : B → ℕ) (l : List A) → sum_of g (map f l) ≡ sum_of (λ (x : A). g (f x)) l
  unfolding sum_of
  sum-map g [] = refl
  sum-map g (x ∷ l) = rw (sum-map g l)

-- a function that changes no element leaves the list as it is
pub map_same : {A : Type 0} (f : A → A) (l : List A) (d : A) → ((i : ℕ) → f (get_or l i d) ≡ get_or l i d) → map f l ≡ l
map_same f [] d h = refl
map_same f (x ∷ l) d h = rw (h 0, map_same f l d (λ i. h (suc i)))

-- ---- counts

module _ {A : Type 0} (p : A → Bool) where
  pub count-nothing : (l : List A) → Each (λ (x : A). p x ≡ false) l → count_where p l ≡ 0
  unfolding count_where
  count-nothing [] h = refl
  count-nothing (x ∷ l) (h, hs) = rw h (omega (arith, count-nothing l hs))

  pub count-first : (x : A) (l : List A) → p x ≡ true → Each (λ (y : A). p y ≡ false) l → count_where p (x ∷ l) ≡ 1
  unfolding count_where
  count-first x l e h = rw e (omega (arith, count-nothing l h))

  pub count-other : (x : A) (l : List A) → p x ≡ false → count_where p (x ∷ l) ≡ count_where p l
  unfolding count_where
  count-other x l e = rw e (omega arith)

-- two tests that agree
pub count_same : {A : Type 0} (p q : A → Bool) → ((x : A) → p x ≡ q x) → (l : List A) → count_where p l ≡ count_where q l
unfolding count_where
count_same p q e [] = refl
count_same p q e (x ∷ l) = rw (e x, count_same p q e l)

-- ---- sums

pub sum-nothing : {A : Type 0} (f : A → ℕ) (d : A) (l : List A) → ((k : ℕ) → k < length l → f (get_or l k d) ≡ 0) → sum_of f l ≡ 0
unfolding sum_of
sum-nothing f d [] z = refl
sum-nothing f d (x ∷ l) z = let here = z 0 (omega arith) in let rest = sum-nothing f d l (λ k b. z (suc k) (omega arith)) in omega arith

pub sum-part : {A : Type 0} (f : A → ℕ) (d : A) (l : List A) (k : ℕ) → k < length l → f (get_or l k d) ≤ sum_of f l
unfolding sum_of
sum-part f d [] k b = absurd (omega arith)
sum-part f d (x ∷ l) zero b = omega arith
sum-part f d (x ∷ l) (suc k) b = let rest = sum-part f d l k (omega arith) in omega arith
