-- Laws of the lines of `rigrace`: what a line asks by what was read of each field, and what is written of an answer.
use Prim.Native.Nat.{ℕ, ◌≤◌, ◌<◌, min}
use mathlib.Core.Path.{◌≡◌, refl, sym, ap, ◌∙◌}
use mathlib.Core.Bool.{Bool, true, false, not, ◌&&◌, true≢false, false≢true}
use mathlib.Core.List.{List, [], ◌∷◌}
use Rattle.std.specs.Prelude.{Option, None, Some}
use native.Mathlib.Omega.{arith}
use borrow.Author.Tests.{eq-eqb, ne_eqb, lt-ltb, le-ltb}
use lib.Dec.{eqb}
use lib.Pointwise.{pointwise}
use Rattle.std.proofs.lemmas.List.{get_or-take}
use Rattle.std.proofs.Math.Nat.{min-le_left}
use lib.ListN.{length}
use Rattle.numbers.specs.Ascii.{ascii}
use Rattle.numbers.proofs.Bytes.{compared}
use Rattle.text.specs.Decimal.{decimal_within, decimal}
use Rattle.text.specs.Lines.{field as field_written, fields, line, Wrote}
use Rattle.text.proofs.Decimal.{decimal-most}
use Rattle.fields.specs.Limits.{fields_max}
use Rattle.fields.specs.Fields.{fields_of, count, blank, bytes_of, field, field_in}
use Rattle.fields.specs.Numbers.{natural, unsigned}
use Rattle.race.specs.declared.Board.{Board}
use Rattle.race.specs.Search.{Forced, NotForced}
use Rattle.race_lines.specs.Limits.{answer_fields_max, answer_max}
use Rattle.race_lines.specs.Lines.{race_word, board_of, request_of, answer_fields, answer_line, reply_line, written, bytes_after}

-- ---- what a line asks

-- what the opposite of a test says of it
pub off : {test opposite : Bool} → opposite ≡ not test → opposite ≡ true → test ≡ false
off {test = true} e f = absurd (false≢true (sym e ∙ f))
off {test = false} e f = refl

pub on : {test opposite : Bool} → opposite ≡ not test → opposite ≡ false → test ≡ true
on {test = true} e f = refl
on {test = false} e f = absurd (true≢false (sym e ∙ f))

-- the board of four numbers, each of which a field may not write
abbrev pub board_from : Option ℕ → Option ℕ → Option ℕ → Option ℕ → Option Board
board_from None t r b = None
board_from (Some p) None r b = None
board_from (Some p) (Some t) None b = None
board_from (Some p) (Some t) (Some r) None = None
board_from (Some p) (Some t) (Some r) (Some b) = Some (record { partitions = p; timeout = t; rounds = r; blocks = b })

module _ (text : List ℕ) where
  pub board-is : (p t r b : Option ℕ) → natural p ≡ unsigned (field text 1) → natural t ≡ unsigned (field text 2)
      → natural r ≡ unsigned (field text 3) → natural b ≡ unsigned (field text 4) → board_from p t r b ≡ board_of text
  board-is None t r b e1 e2 e3 e4 = rw (← e1)
  board-is (Some p) None r b e1 e2 e3 e4 = rw (← e1, ← e2)
  board-is (Some p) (Some t) None b e1 e2 e3 e4 =
      rw (← e1, ← e2, ← e3)
  board-is (Some p) (Some t) (Some r) None e1 e2 e3 e4 =
      rw (← e1, ← e2, ← e3, ← e4)
  board-is (Some p) (Some t) (Some r) (Some b) e1 e2 e3 e4 =
      rw (← e1, ← e2, ← e3, ← e4)

  -- the count of the fields, and the word
  pub request-count : eqb (count text) 5 ≡ false → None ≡ request_of text
  unfolding request_of
  request-count e = rw e

  module _ (five : eqb (count text) 5 ≡ true) where
    pub request-word : pointwise eqb (field text 0) race_word ≡ false → None ≡ request_of text
    unfolding request_of
    request-word w = rw (five, ← compared (field text 0) race_word, w)

    pub request-is : pointwise eqb (field text 0) race_word ≡ true → board_of text ≡ request_of text
    unfolding request_of
    request-is w = rw (five, ← compared (field text 0) race_word, w)

-- ---- the fields of an answer

pub forced-fields : fields (answer_fields Forced) ≡ ascii "\t0\t1"
unfolding fields decimal decimal_within
forced-fields = refl

pub not-forced-fields : fields (answer_fields NotForced) ≡ ascii "\t0\t0"
unfolding fields decimal decimal_within
not-forced-fields = refl

-- the number of a refusal has at most three digits, behind its tab
pub refusal-short : (n : ℕ) → n < 256 → length (field_written (decimal n)) ≤ answer_fields_max
refusal-short n h = omega (arith, decimal-most 2 n (omega arith))

-- ---- the line

pub unknown-line : answer_line None ≡ ascii "?\t-\n"
unfolding line fields
unknown-line = refl

-- ---- in a lent buffer

module _ (text out : List ℕ) where
  pub too_short : length out < answer_max → (None ≡ written text out) × (out ≡ bytes_after text out)
  unfolding written bytes_after
  too_short h = (rw (lt-ltb (length out) answer_max h), rw (lt-ltb (length out) answer_max h))

  pub answered : {request : Option Board} {next : ℕ} {after : List ℕ} → answer_max ≤ length out → request ≡ request_of text → Wrote (answer_line request) out 0 next after
      → (Some next ≡ written text out) × (after ≡ bytes_after text out)
  unfolding written bytes_after reply_line
  answered h e w =
      let v = rw e at w in
      (rw (le-ltb (length out) answer_max h) (ap Some (omega (arith, v.0))), rw (le-ltb (length out) answer_max h) v.1)
