-- Laws of lines, and of bytes written one behind the other.
use Prim.Native.Nat.{ℕ, ◌+◌, ◌*◌, ◌≤◌}
use Prim.Native.Char.{code}
use mathlib.Core.Path.{◌≡◌, refl, sym, ap, ◌∙◌}
use mathlib.Core.List.{List, [], ◌∷◌, ◌++◌, append_assoc, append-nil}
use native.Mathlib.Nat.{add-zero}
use native.Mathlib.Omega.{arith}
use lib.ListN.{length, length-append}
use Rattle.numbers.proofs.Bytes.{length-overwrite, overwrite-overwrite, overwrite-none}
use Rattle.search.specs.Search.{Each}
use Rattle.text.specs.Lines.{field, fields, line, Wrote}

-- ---- bytes b behind bytes a

pub none-wrote : (s : List ℕ) (at : ℕ) → Wrote [] s at at s
none-wrote s at = (sym (add-zero at), sym (overwrite-none s at))

module _ (s : List ℕ) (at : ℕ) (a b : List ℕ) (room : at + length (a ++ b) ≤ length s) where
  pub first_fits : at + length a ≤ length s
  first_fits = omega (arith, length-append a b)

  pub then-fits : {next : ℕ} {t : List ℕ} → Wrote a s at next t → next + length b ≤ length t
  then-fits {t = t} (n, e) =
      let l : length t ≡ length s = ap length e ∙ length-overwrite s at a first_fits in
      omega (arith, length-append a b)

  pub then-wrote : {next last : ℕ} {t u : List ℕ} → Wrote a s at next t → Wrote b t next last u → Wrote (a ++ b) s at last u
  then-wrote (n, e) (m, f) = (
    rw length-append (omega arith),
    f ∙ rw (e, n) (overwrite-overwrite s at (length a) a b refl (omega (arith, length-append a b))),
  )

-- ---- fields

pub fields-append : (fs gs : List (List ℕ)) → fields (fs ++ gs) ≡ fields fs ++ fields gs
unfolding fields
fields-append [] gs = refl
fields-append (f ∷ fs) gs = ap (λ (l : List ℕ). field f ++ l) (fields-append fs gs) ∙ sym (append_assoc (field f) (fields fs) (fields gs))

-- these fields fit behind a place
abbrev pub Fit : List (List ℕ) → List ℕ → ℕ → Type 0
Fit fs s at = at + length (fields fs) ≤ length s

-- a field, and others behind it
module _ (f : List ℕ) (fs : List (List ℕ)) (s : List ℕ) (at : ℕ) (fit : Fit (f ∷ fs) s at) where
  pub field_fits : at + length (field f) ≤ length s
  unfolding fields
  field_fits = first_fits s at (field f) (fields fs) fit

  pub rest-fit : {next : ℕ} {t : List ℕ} → Wrote (field f) s at next t → Fit fs t next
  unfolding fields
  rest-fit w = then-fits s at (field f) (fields fs) fit w

  pub field-wrote : {next last : ℕ} {t u : List ℕ} → Wrote (field f) s at next t → Wrote (fields fs) t next last u → Wrote (fields (f ∷ fs)) s at last u
  unfolding fields
  field-wrote w v = then-wrote s at (field f) (fields fs) fit w v

-- the last field
pub fields-one : (f : List ℕ) → fields (f ∷ []) ≡ field f
unfolding fields
fields-one f = append-nil (field f)

pub last-wrote : (f s : List ℕ) (at : ℕ) {next : ℕ} {t : List ℕ} → Wrote (field f) s at next t → Wrote (fields (f ∷ [])) s at next t
last-wrote f s at w = rw (fields-one f) w

-- fields, and others behind them
module _ (fs gs : List (List ℕ)) (s : List ℕ) (at : ℕ) (fit : Fit (fs ++ gs) s at) where
  both-fit : at + length (fields fs ++ fields gs) ≤ length s
  both-fit = rw fields-append at fit

  pub first-fit : Fit fs s at
  first-fit = first_fits s at (fields fs) (fields gs) both-fit

  pub then_fit : {next : ℕ} {t : List ℕ} → Wrote (fields fs) s at next t → Fit gs t next
  then_fit w = then-fits s at (fields fs) (fields gs) both-fit w

  pub both-wrote : {next last : ℕ} {t u : List ℕ} → Wrote (fields fs) s at next t → Wrote (fields gs) t next last u → Wrote (fields (fs ++ gs)) s at last u
  both-wrote w v = rw (fields-append fs gs) (then-wrote s at (fields fs) (fields gs) both-fit w v)

-- ---- a line: its word, its fields and a line feed

module _ (word : List ℕ) (fs : List (List ℕ)) (s : List ℕ) (at : ℕ) (room : at + length (line word fs) ≤ length s) where
  behind-word : {next : ℕ} {t : List ℕ} → Wrote word s at next t → next + length (fields fs ++ (code "\n" ∷ [])) ≤ length t
  unfolding line
  behind-word w = then-fits s at word (fields fs ++ (code "\n" ∷ [])) room w

  pub fields_fit_lem : {next : ℕ} {t : List ℕ} → Wrote word s at next t → Fit fs t next
  fields_fit_lem {next} {t} w = first_fits t next (fields fs) (code "\n" ∷ []) (behind-word w)

  pub end_fits_lem : {next last : ℕ} {t u : List ℕ} → Wrote word s at next t → Wrote (fields fs) t next last u → last + 1 ≤ length u
  end_fits_lem {next} {last} {t} w v = then-fits t next (fields fs) (code "\n" ∷ []) (behind-word w) v

  pub line_wrote : {next last end : ℕ} {t u v : List ℕ} → Wrote word s at next t → Wrote (fields fs) t next last u → Wrote (code "\n" ∷ []) u last end v
      → Wrote (line word fs) s at end v
  unfolding line
  line_wrote {next} {last} {end} {t} w v e =
      then-wrote s at word (fields fs ++ (code "\n" ∷ [])) room w (then-wrote t next (fields fs) (code "\n" ∷ []) (behind-word w) v e)

-- ---- how long a line is, if no field is longer than m

pub length_fields : (f : List ℕ) (fs : List (List ℕ)) → length (fields (f ∷ fs)) ≡ 1 + length f + length (fields fs)
unfolding fields
length_fields f fs = rw (length-append (field f) (fields fs)) (omega arith)

pub fields-most : (m : ℕ) (fs : List (List ℕ)) → Each (λ (f : List ℕ). length f ≤ m) fs → length (fields fs) ≤ length fs * (1 + m)
unfolding fields
fields-most m [] each = omega arith
fields-most m (f ∷ fs) (short, each) = omega (arith, length_fields f fs, fields-most m fs each)

pub length-line : (word : List ℕ) (fs : List (List ℕ)) → length (line word fs) ≡ length word + length (fields fs) + 1
unfolding line
length-line word fs = simp length-append (omega arith)
