-- What a cut leaves of the records, and the latest record of a name at every cut.
use Prim.Native.Nat.{ℕ, ◌+◌, ◌≤◌, ◌<◌}
use mathlib.Core.Path.{◌≡◌, refl, sym, ap, subst, ◌∙◌}
use mathlib.Core.Bool.{Bool, true, false, cond}
use mathlib.Core.List.{List, [], ◌∷◌}
use mathlib.Core.Option.{some}
use native.Mathlib.Omega.{arith}
use lib.Dec.{eqb, leb}
use lib.ListN.{length, length-append}
use borrow.Author.Tests.{eq-eqb, ne_eqb, leb-true, leb-false, le-leb, lt-leb}
use Rattle.numbers.proofs.Bytes.{same_true, same_refl}
use Rattle.numbers.proofs.Tests.{by_cases, either}
use Rattle.catalogue.specs.declared.Catalogue.{Catalogue}
use Rattle.search.specs.Search.{find, count_where, Each}
use Rattle.search.proofs.Found.{some_same}
use Rattle.search.proofs.Members.{In, there, in-nil, in-cons, each_in}
use Rattle.search.proofs.Find.{find-nothing, find-hit, find-miss, find-passes}
use Rattle.table.specs.Table.{empty_table}
use Rattle.log_reader.specs.Records.{frames_of, all_come, whole_in}
use Rattle.log_reader.proofs.RecordLaws.{come-parts}
use Rattle.runs.specs.Demand3.{Ends}
use Rattle.runs.specs.History.{Logged, ending_by, contents, end_of, is_of, History, records_of, flushed_of}
use Rattle.protocol.specs.RecordsOfName.{latest_in, prepares_in, NumberedBelow, AtEveryCut}

-- ---- what a cut leaves

module _ (k : ℕ) where
  pub ending-stays : (x : Logged) (l : List Logged) → x.end ≤ k → ending_by k (x ∷ l) ≡ x ∷ l
  unfolding ending_by
  ending-stays x l h = rw (le-leb x.end k h)

  pub ending-drops : (x : Logged) (l : List Logged) → k < x.end → ending_by k (x ∷ l) ≡ ending_by k l
  unfolding ending_by
  ending-drops x l h = rw (lt-leb x.end k h)

  pub ending-all : (l : List Logged) → end_of l ≤ k → ending_by k l ≡ l
  ending-all [] h = unfold ending_by in refl
  ending-all (x ∷ l) h = ending-stays x l h

  -- no record that is left ends past it
  pub ending-end : (l : List Logged) → end_of (ending_by k l) ≤ k
  unfolding ending_by
  ending-end [] = omega arith
  ending-end (x ∷ l) = by_cases (λ (m : List Logged). end_of m ≤ k) (leb x.end k) (λ e. leb-true x.end k e) (λ e. ending-end l)

  pub ending-in : (l : List Logged) (r : Logged) → In r (ending_by k l) → In r l
  unfolding ending_by
  ending-in [] r i = i
  ending-in (x ∷ l) r i = by_cases (λ (m : List Logged). In r m → In r (x ∷ l)) (leb x.end k) (λ e j. j) (λ e j. there (ending-in l r j)) i

  pub ending-each : (P : Logged → Type 0) (l : List Logged) → Each P l → Each P (ending_by k l)
  unfolding ending_by
  ending-each P [] h = tt
  ending-each P (x ∷ l) (h, hs) = by_cases (Each P) (leb x.end k) (λ e. (h, hs)) (λ e. ending-each P l hs)

  pub ending-ends : (c : Catalogue) (l : List Logged) → Ends c l → Ends c (ending_by k l)
  unfolding ending_by
  ending-ends c [] h = tt
  ending-ends c (x ∷ l) (h, hs) = by_cases (Ends c) (leb x.end k) (λ e. (h, hs)) (λ e. ending-ends c l hs)

  pub ending-come : (c : Catalogue) (l : List Logged) → all_come c empty_table (contents l) ≡ true → all_come c empty_table (contents (ending_by k l)) ≡ true
  unfolding ending_by
  ending-come c [] e = e
  ending-come c (x ∷ l) e =
      by_cases (λ (m : List Logged). all_come c empty_table (contents m) ≡ true) (leb x.end k) (λ _. e)
      (λ _. ending-come c l (come-parts c empty_table x.content (contents l) e).0)

pub ending-again : (n k : ℕ) (l : List Logged) → n ≤ k → ending_by k (ending_by n l) ≡ ending_by n l
ending-again n k l h = ending-all k (ending_by n l) (omega (arith, ending-end n l))

-- ---- numbers

pub numbered_more : (m n : ℕ) (l : List Logged) → m ≤ n → NumberedBelow m l → NumberedBelow n l
numbered_more m n [] h i = tt
numbered_more m n (x ∷ l) h (i, is) = (omega arith, is)

pub ending-numbered : (k n : ℕ) (l : List Logged) → NumberedBelow n l → NumberedBelow n (ending_by k l)
unfolding ending_by
ending-numbered k n [] h = tt
ending-numbered k n (x ∷ l) (h, hs) =
    by_cases (NumberedBelow n) (leb x.end k) (λ e. (h, hs)) (λ e. ending-numbered k n l (numbered_more x.number n l (omega arith) hs))

pub numbered_below : (n : ℕ) (l : List Logged) → NumberedBelow n l → Each (λ (x : Logged). x.number < n) l
numbered_below n [] h = tt
numbered_below n (x ∷ l) (h, hs) = (h, numbered_below n l (numbered_more x.number n l (omega arith) hs))

-- a record is found by its number
pub numbered-found : (n : ℕ) (l : List Logged) → NumberedBelow n l → (r : Logged) → In r l → find (λ (x : Logged). eqb x.number r.number) l ≡ some r
numbered-found n [] h r i = in-nil i
numbered-found n (x ∷ l) (h, hs) r i =
    in-cons i (λ e. find-hit _ x l (eq-eqb x.number r.number (ap (λ (y : Logged). y.number) e)) ∙ ap some e)
    (λ j. let b : r.number < x.number = each_in (λ (y : Logged). y.number < x.number) l r (numbered_below x.number l hs) j in
    find-miss _ x l (ne_eqb x.number r.number (omega arith)) ∙ numbered-found x.number l hs r j)

-- so two with one number are one
pub numbered-same : (n : ℕ) (l : List Logged) → NumberedBelow n l → (r s : Logged) → In r l → In s l → r.number ≡ s.number → r ≡ s
numbered-same n l h r s i j e =
    some_same (sym (numbered-found n l h r i) ∙ ap (λ (m : ℕ). find (λ (x : Logged). eqb x.number m) l) e ∙ numbered-found n l h s j)

-- ---- the log's bytes

pub ends-length : (c : Catalogue) (l : List Logged) → Ends c l → end_of l ≡ length (frames_of c (contents l))
unfolding frames_of
ends-length c [] h = refl
ends-length c (x ∷ l) (h, hs) = rw (length-append, ← ends-length c l hs) h

-- what a cut leaves is what stands whole
pub ending-whole : (c : Catalogue) (k : ℕ) (l : List Logged) → Ends c l → contents (ending_by k l) ≡ whole_in c k (contents l)
unfolding ending_by whole_in
ending-whole c k [] h = refl
ending-whole c k (x ∷ l) (h, hs) =
    rw (← ends-length c (x ∷ l) (h, hs)) (by_both (leb x.end k) (ending-whole c k l hs))
  where
    by_both : (b : Bool) → contents (ending_by k l) ≡ whole_in c k (contents l) → contents (cond b (x ∷ l) (ending_by k l)) ≡ cond b (x.content ∷ contents l) (whole_in c k (contents l))
    by_both true e = refl
    by_both false e = e

-- ---- the latest record of a name

pub is-of : (name : List ℕ) (x : Logged) → x.content.name ≡ name → is_of name x ≡ true
is-of name x e = rw e (same_refl name)

pub latest-name : (name : List ℕ) (l : List Logged) (r : Logged) → latest_in name l ≡ some r → r.content.name ≡ name
latest-name name l r e = same_true r.content.name name (find-passes (is_of name) l r e)

-- a record of another name adds no prepare
pub prepares-other : (name : List ℕ) (x : Logged) (l : List Logged) → is_of name x ≡ false → prepares_in name (x ∷ l) ≡ prepares_in name l
unfolding prepares_in count_where
prepares-other name x l e = rw e (omega arith)

-- if it ends by the flushed length, every cut leaves it the latest
pub latest-settled : (name : List ℕ) (f k : ℕ) → f ≤ k → (l : List Logged) (r : Logged) → latest_in name l ≡ some r → r.end ≤ f
    → (latest_in name (ending_by k l) ≡ some r) × (prepares_in name (ending_by k l) ≡ prepares_in name l)
latest-settled name f k h [] r e b = find-nothing (is_of name) r e
latest-settled name f k h (x ∷ l) r e b =
    either (leb x.end k) (λ t. let s = ending-stays k x l (leb-true x.end k t) in (rw s e, ap (prepares_in name) s))
    (λ t.
    let far : k < x.end = leb-false x.end k t in
    let other : is_of name x ≡ false =
    either (is_of name x) (λ m. let q : x.end ≡ r.end = ap (λ (y : Logged). y.end) (some_same (sym (find-hit (is_of name) x l m) ∙ e)) in absurd (omega arith)) (λ m. m) in
    let rest = latest-settled name f k h l r (sym (find-miss (is_of name) x l other) ∙ e) b in
    rw (ending-drops k x l far) (rest.0, rest.1 ∙ sym (prepares-other name x l other)))

-- ---- what holds at every cut

pub every-cut-all : (h : History) (P : List Logged → Type 0) → AtEveryCut h P → P (records_of h)
every-cut-all h P f =
    let k = flushed_of h + end_of (records_of h) in
    subst P (ending-all k (records_of h) (omega arith)) (f k (omega arith))
