-- Laws of what is written one behind the other, where it is known that the last byte lies in the buffer.
use Prim.Native.Nat.{ℕ, ◌^◌, ◌≤◌, ◌<◌}
use Prim.Native.Char.{code}
use mathlib.Core.Path.{◌≡◌, ap, ◌∙◌}
use mathlib.Core.List.{List, [], ◌∷◌, ◌++◌}
use native.Mathlib.Omega.{arith}
use lib.IntN.{ℤ}
use lib.ListN.{length, length-append}
use mir.Syntax.{w64}
use mir.Val.{SFits}
use Rattle.numbers.proofs.Bytes.{length-overwrite}
use Rattle.text.specs.Decimal.{decimal, signed_decimal}
use Rattle.text.specs.Lines.{field, fields, line, Wrote}
use Rattle.text.proofs.Decimal.{digits-most, signed-most}
use Rattle.text.proofs.Lines.{then-wrote}
use Rattle.listing.specs.Limits.{field_max}

-- the buffer keeps its length
pub same-room : (a s : List ℕ) (at : ℕ) {next : ℕ} {t : List ℕ} → Wrote a s at next t → next ≤ length s → length t ≡ length s
same-room a s at w h = ap length w.1 ∙ length-overwrite s at a (omega (arith, w.0))

pub behind : (a b s : List ℕ) (at : ℕ) {next last : ℕ} {t u : List ℕ} → Wrote a s at next t → Wrote b t next last u → last ≤ length s → Wrote (a ++ b) s at last u
behind a b s at w v h = then-wrote s at a b (omega (arith, length-append a b, w.0, v.0)) w v

-- a field, and others behind it
pub field-behind : (f : List ℕ) (fs : List (List ℕ)) (s : List ℕ) (at : ℕ) {next last : ℕ} {t u : List ℕ} → Wrote (field f) s at next t → Wrote (fields fs) t next last u
    → last ≤ length s
    → Wrote (fields (f ∷ fs)) s at last u
unfolding fields
field-behind f fs s at w v h = behind (field f) (fields fs) s at w v h

-- how long a number is behind its tab
pub decimal-short : (n : ℕ) → n < 2 ^ 64 → length (field (decimal n)) ≤ field_max
decimal-short n h = omega (arith, digits-most n h)

pub signed-short : (z : ℤ) → SFits w64 z → length (field (signed_decimal z)) ≤ field_max
signed-short z f = omega (arith, signed-most z f)

-- a line: its word, three fields, the results and a line feed
module _ (word f g h : List ℕ) (fs : List (List ℕ)) (s : List ℕ) (at : ℕ) where
  pub line-behind : {n₁ n₂ n₃ n₄ n₅ n₆ : ℕ} {t₁ t₂ t₃ t₄ t₅ t₆ : List ℕ} → Wrote word s at n₁ t₁ → Wrote (field f) t₁ n₁ n₂ t₂ → Wrote (field g) t₂ n₂ n₃ t₃
      → Wrote (field h) t₃ n₃ n₄ t₄
      → Wrote (fields fs) t₄ n₄ n₅ t₅
      → Wrote (code "\n" ∷ []) t₅ n₅ n₆ t₆
      → n₆ ≤ length s
      → Wrote (line word (f ∷ g ∷ h ∷ fs)) s at n₆ t₆
  unfolding line
  line-behind {n₁} {n₂} {n₃} {n₄} {n₅} {n₆} {t₁} {t₂} {t₃} {t₄} {t₅} {t₆} w a b c d e last =
      let l₁ = same-room word s at w (omega (arith, a.0, b.0, c.0, d.0, e.0)) in
      let l₂ = same-room (field f) t₁ n₁ a (omega (arith, b.0, c.0, d.0, e.0)) in
      let l₃ = same-room (field g) t₂ n₂ b (omega (arith, c.0, d.0, e.0)) in
      let cd = field-behind h fs t₃ n₃ c d (omega (arith, e.0)) in
      let bcd = field-behind g (h ∷ fs) t₂ n₂ b cd (omega (arith, e.0)) in
      let abcd = field-behind f (g ∷ h ∷ fs) t₁ n₁ a bcd (omega (arith, e.0)) in
      let tail = behind (fields (f ∷ g ∷ h ∷ fs)) (code "\n" ∷ []) t₁ n₁ abcd e (omega arith) in
      behind word (fields (f ∷ g ∷ h ∷ fs) ++ (code "\n" ∷ [])) s at w tail last
