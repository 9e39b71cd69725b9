-- The prepare of an ordinal: which record it is, and that neither a newer record nor a cut that leaves it changes it.
use Prim.Native.Nat.{ℕ, suc, ◌≤◌, ◌<◌}
use mathlib.Core.Path.{◌≡◌, sym, ap, subst, ◌∙◌}
use mathlib.Core.Bool.{Bool, true, false, ◌&&◌, and-false}
use mathlib.Core.List.{List, [], ◌∷◌}
use mathlib.Core.Option.{Option, some}
use native.Mathlib.Omega.{arith}
use lib.Dec.{eqb, leb}
use borrow.Author.Tests.{eqb-true, eqb-false, eq-eqb, ne_eqb}
use Rattle.numbers.proofs.Tests.{by_cases, not-both, and_left, and_both, either}
use Rattle.catalogue.specs.declared.Catalogue.{Catalogue}
use Rattle.search.specs.Search.{find, count_where, Found}
use Rattle.search.proofs.Found.{none-some, some_same}
use Rattle.search.proofs.Members.{In, here, there, in-nil, in-cons, each_in}
use Rattle.search.proofs.Find.{find-nothing, find-hit, find-miss}
use Rattle.row.specs.Row.{is_prepare}
use Rattle.runs.specs.History.{Logged, ending_by, end_of, is_of}
use Rattle.runs.specs.Demand3.{Ends}
use Rattle.protocol.specs.RecordsOfName.{latest_in, is_prepare_of, prepares_in, nth_prepare, NumberedBelow}
use Rattle.protocol.proofs.Cuts.{ending-in, numbered_below}

module _ (name : List ℕ) where
  pub prepares-more : (x : Logged) (l : List Logged) → is_prepare_of name x ≡ true → prepares_in name (x ∷ l) ≡ suc (prepares_in name l)
  unfolding prepares_in count_where
  prepares-more x l e = rw e (omega arith)

  pub prepares-same : (x : Logged) (l : List Logged) → is_prepare_of name x ≡ false → prepares_in name (x ∷ l) ≡ prepares_in name l
  unfolding prepares_in count_where
  prepares-same x l e = rw e (omega arith)

  pub nth_here : (x : Logged) (l : List Logged) (n : ℕ) → is_prepare_of name x ≡ true → prepares_in name l ≡ n → nth_prepare name n (x ∷ l) ≡ some x
  unfolding nth_prepare
  nth_here x l n e q = rw (e, eq-eqb (prepares_in name l) n q)

  pub nth-other : (x : Logged) (l : List Logged) (n : ℕ) → is_prepare_of name x ≡ false → nth_prepare name n (x ∷ l) ≡ nth_prepare name n l
  unfolding nth_prepare
  nth-other x l n e = rw e

  pub nth_past : (x : Logged) (l : List Logged) (n : ℕ) → (prepares_in name l ≡ n → ⊥) → nth_prepare name n (x ∷ l) ≡ nth_prepare name n l
  unfolding nth_prepare
  nth_past x l n q = rw (ne_eqb (prepares_in name l) n q, and-false (is_prepare_of name x))

  nth-none : {X : Type 0} (n : ℕ) (r : Logged) → nth_prepare name n [] ≡ some r → X
  unfolding nth_prepare
  nth-none n r e = none-some e

  nth-rest : (x : Logged) (l : List Logged) (n : ℕ) (r : Logged) → nth_prepare name n (x ∷ l) ≡ some r → r.number < x.number → nth_prepare name n l ≡ some r
  unfolding nth_prepare
  nth-rest x l n r e below =
      by_cases (λ (o : Option Logged). o ≡ some r → nth_prepare name n l ≡ some r) (is_prepare_of name x && eqb (prepares_in name l) n)
      (λ t q. absurd (let s : x.number ≡ r.number = ap (λ (y : Logged). y.number) (some_same q) in omega arith)) (λ t q. q) e

  pub nth-below : (l : List Logged) (n : ℕ) (r : Logged) → nth_prepare name n l ≡ some r → n < prepares_in name l
  nth-below [] n r e = nth-none n r e
  nth-below (x ∷ l) n r e =
      either (is_prepare_of name x)
      (λ t. either (eqb (prepares_in name l) n) (λ q. omega (arith, eqb-true (prepares_in name l) n q, prepares-more x l t))
      (λ q. let b = nth-below l n r (sym (nth_past x l n (eqb-false (prepares_in name l) n q)) ∙ e) in omega (arith, prepares-more x l t)))
      (λ t. let b = nth-below l n r (sym (nth-other x l n t) ∙ e) in omega (arith, prepares-same x l t))

  -- it is a prepare of that name, and there
  pub nth-is : (l : List Logged) (n : ℕ) (r : Logged) → nth_prepare name n l ≡ some r → (is_prepare_of name r ≡ true) × In r l
  unfolding nth_prepare
  nth-is [] n r e = none-some e
  nth-is (x ∷ l) n r e =
      by_cases (λ (o : Option Logged). o ≡ some r → (is_prepare_of name r ≡ true) × In r (x ∷ l)) (is_prepare_of name x && eqb (prepares_in name l) n)
      (λ t q. (subst (λ (y : Logged). is_prepare_of name y ≡ true) (some_same q) (and_left (is_prepare_of name x) (eqb (prepares_in name l) n) t), here (some_same q)))
      (λ t q. let (a, b) = nth-is l n r q in (a, there b)) e

  -- a newer record does not change it
  pub nth-more : (x : Logged) (l : List Logged) (n : ℕ) (r : Logged) → nth_prepare name n l ≡ some r → nth_prepare name n (x ∷ l) ≡ some r
  nth-more x l n r e = nth_past x l n (λ q. omega (arith, nth-below l n r e)) ∙ e

  -- a cut that leaves it does not
  pub nth-ending : (k m : ℕ) (l : List Logged) → NumberedBelow m l → (n : ℕ) (r : Logged) → nth_prepare name n l ≡ some r → In r (ending_by k l) → nth_prepare name n (ending_by k l) ≡ some r
  unfolding ending_by
  nth-ending k m [] b n r e i = e
  nth-ending k m (x ∷ l) (b, bs) n r e i =
      by_cases (λ (v : List Logged). In r v → nth_prepare name n v ≡ some r) (leb x.end k) (λ t j. e)
      (λ t j.
      let below : r.number < x.number = each_in (λ (y : Logged). y.number < x.number) l r (numbered_below x.number l bs) (ending-in k l r j) in
      nth-ending k x.number l bs n r (nth-rest x l n r e below) j) i

  -- the latest record, if it is a prepare, is the last of them
  pub nth-latest : (l : List Logged) (n : ℕ) (r : Logged) → latest_in name l ≡ some r → is_prepare r.content.status ≡ true → prepares_in name l ≡ suc n → nth_prepare name n l ≡ some r
  nth-latest [] n r e p q = find-nothing (is_of name) r e
  nth-latest (x ∷ l) n r e p q =
      either (is_of name x)
      (λ t.
      let s : x ≡ r = some_same (sym (find-hit (is_of name) x l t) ∙ e) in
      let u : is_prepare_of name x ≡ true = and_both (is_of name x) (is_prepare x.content.status) t (subst (λ (y : Logged). is_prepare y.content.status ≡ true) (sym s) p) in
      nth_here x l n u (omega (arith, prepares-more x l u)) ∙ ap some s)
      (λ t.
      let u : is_prepare_of name x ≡ false = rw t in
      nth-other x l n u ∙ nth-latest l n r (sym (find-miss (is_of name) x l t) ∙ e) p (sym (prepares-same x l u) ∙ q))

-- ---- older records

-- none of them ends past the last
pub ends-most : (c : Catalogue) (l : List Logged) → Ends c l → (q : Logged) → In q l → q.end ≤ end_of l
ends-most c [] h q i = in-nil i
ends-most c (x ∷ l) (h, hs) q i =
    in-cons i (λ e. let s : x.end ≡ q.end = ap (λ (y : Logged). y.end) e in omega arith) (λ j. let b = ends-most c l hs q j in omega arith)

-- no record of a name ends past its latest
pub latest-ends : (c : Catalogue) (l : List Logged) → Ends c l → (name : List ℕ) (r : Logged) → latest_in name l ≡ some r → (q : Logged) → In q l → is_of name q ≡ true → q.end ≤ r.end
latest-ends c [] h name r e q i o = in-nil i
latest-ends c (x ∷ l) (h, hs) name r e q i o =
    either (is_of name x)
    (λ t.
    let s : x.end ≡ r.end = ap (λ (y : Logged). y.end) (some_same (sym (find-hit (is_of name) x l t) ∙ e)) in
    let b = ends-most c (x ∷ l) (h, hs) q i in
    omega arith)
    (λ t.
    in-cons i (λ s. not-both t (subst (λ (y : Logged). is_of name y ≡ true) (sym s) o)) (λ j. latest-ends c l hs name r (sym (find-miss (is_of name) x l t) ∙ e) q j o))

-- what is found first is no older than any that passes
pub find-newest : (p : Logged → Bool) (n : ℕ) (l : List Logged) → NumberedBelow n l → (q : Logged) → In q l → p q ≡ true → Found (λ (y : Logged). q.number ≤ y.number) (find p l)
unfolding find
find-newest p n [] b q i t = in-nil i
find-newest p n (x ∷ l) (b, bs) q i t =
    by_cases (Found (λ (y : Logged). q.number ≤ y.number)) (p x)
    (λ s. in-cons i (λ e. let z : x.number ≡ q.number = ap (λ (y : Logged). y.number) e in omega arith)
    (λ j. let z : q.number < x.number = each_in (λ (y : Logged). y.number < x.number) l q (numbered_below x.number l bs) j in omega arith))
    (λ s. in-cons i (λ e. not-both s (subst (λ (y : Logged). p y ≡ true) (sym e) t)) (λ j. find-newest p x.number l bs q j t))
