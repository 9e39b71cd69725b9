-- Laws of the loops that write a field for each element, and of the payloads that are written.
use Prim.Native.Nat.{ℕ, suc, ◌+◌, ◌≤◌, ◌<◌}
use mathlib.Core.Path.{◌≡◌, refl, ap, ◌∙◌}
use mathlib.Core.List.{List, [], ◌∷◌, ◌++◌, map}
use native.Mathlib.Numerals.{add-one}
use native.Mathlib.Omega.{arith}
use mathlib.Core.Bool.{true, false}
use borrow.Author.Tests.{eqb-true, eqb-false}
use lib.Dec.{eqb}
use lib.ListN.{length, take, get_or}
use lib.Seq.{take-suc, take_all}
use Rattle.text.specs.Decimal.{decimal}
use Rattle.text.specs.Lines.{field, fields, Wrote}
use Rattle.text.proofs.Lines.{none-wrote, fields-append, fields-one}
use Rattle.listing.specs.Listing.{none, payload_fields}
use Rattle.listing.proofs.Writing.{behind}

map-append : {A : Type 0} (text : A → List ℕ) (a b : List A) → map text (a ++ b) ≡ map text a ++ map text b
map-append text [] b = refl
map-append text (x ∷ a) b = ap (λ (l : List (List ℕ)). text x ∷ l) (map-append text a b)

-- `text` is what is written of an element
module _ {A : Type 0} (text : A → List ℕ) (items : List A) (s : List ℕ) (at : ℕ) where
  -- nothing is written before the first turn
  pub none_yet : Wrote (fields (map text (take 0 items))) s at at s
  unfolding fields
  none_yet = none-wrote s at

  fields-more : (d : A) (i : ℕ) → i < length items → fields (map text (take (i + 1) items)) ≡ fields (map text (take i items)) ++ field (text (get_or items i d))
  fields-more d i h =
      let t : take (i + 1) items ≡ take i items ++ (get_or items i d ∷ []) = rw (add-one i) (take-suc items i d h) in
      ap (λ (l : List A). fields (map text l)) t
      ∙ ap fields (map-append text (take i items) (get_or items i d ∷ []))
      ∙ fields-append (map text (take i items)) (text (get_or items i d) ∷ [])
      ∙ ap (λ (l : List ℕ). fields (map text (take i items)) ++ l) (fields-one (text (get_or items i d)))

  pub one_more : (d : A) (i : ℕ) {next last : ℕ} {t u : List ℕ} → i < length items → Wrote (fields (map text (take i items))) s at next t
      → Wrote (field (text (get_or items i d))) t next last u
      → last ≤ length s
      → Wrote (fields (map text (take (i + 1) items))) s at last u
  one_more d i h w v l =
      rw (fields-more d i h) (behind (fields (map text (take i items))) (field (text (get_or items i d))) s at w v l)

  -- all is written after the last
  pub all_written : (i : ℕ) {next : ℕ} {t : List ℕ} → length items ≤ i → Wrote (fields (map text (take i items))) s at next t → Wrote (fields (map text items)) s at next t
  all_written i h w = rw (take_all i items h) at w

-- ---- the payloads that are listed; `-` for none

pub no-payloads : (listed : List ℕ) → eqb (length listed) 0 ≡ true → payload_fields listed ≡ none ∷ []
no-payloads [] e = refl
no-payloads (x ∷ listed) e = absurd (omega (arith, eqb-true (suc (length listed)) 0 e))

pub some-payloads : (listed : List ℕ) → eqb (length listed) 0 ≡ false → payload_fields listed ≡ map decimal listed
some-payloads [] e = absurd (omega (arith, eqb-false 0 0 e))
some-payloads (x ∷ listed) e = refl
