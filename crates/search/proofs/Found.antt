-- Laws of what a search may find: that it is there, and what holds of it.
use Prim.Native.Nat.{ℕ}
use mathlib.Core.Path.{◌≡◌, refl, sym, subst}
use mathlib.Core.Option.{Option, none, some}
use native.Mathlib.Omega.{arith}
use Rattle.search.specs.Search.{Found, IfFound}

pub none-some : {A : Type 0} {X : Type 0} {x : A} → none ≡ some x → X
none-some e = absurd (let z : ◌≡◌ {A = ℕ} 0 1 = cc in omega arith)

pub some_same : {A : Type 0} {x y : A} → some x ≡ some y → x ≡ y
some_same e = cc

pub found-is : {A : Type 0} (P : A → Type 0) {o : Option A} {x : A} → o ≡ some x → P x → Found P o
found-is P e p = subst (Found P) (sym e) p

pub is_found_lem : {A : Type 0} (P : A → Type 0) {o : Option A} {x : A} → o ≡ some x → Found P o → P x
is_found_lem P e p = subst (Found P) e p

-- what is found, and that it is
pub found-with : {A : Type 0} {X : Type 0} (P : A → Type 0) (o : Option A) → Found P o → ((x : A) → o ≡ some x → P x → X) → X
found-with P none h f = absurd h
found-with P (some x) h f = f x refl h

-- of each if-found case
pub if-found-cases : {A : Type 0} (P : A → Type 0) (o : Option A) → ((x : A) → o ≡ some x → P x) → IfFound P o
if-found-cases P none f = tt
if-found-cases P (some x) f = f x refl

pub if-found-is : {A : Type 0} (P : A → Type 0) {o : Option A} {x : A} → o ≡ some x → IfFound P o → P x
if-found-is P e p = subst (IfFound P) e p

-- there is none, or there is one
pub option-either : {A : Type 0} {X : Type 0} (o : Option A) → (o ≡ none → X) → ((x : A) → o ≡ some x → X) → X
option-either none f g = f refl
option-either (some x) f g = g x refl
