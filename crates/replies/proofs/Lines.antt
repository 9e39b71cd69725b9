-- What is handed to the crate that renders lines gives the line of the definition.
use Prim.Native.Nat.{ℕ, zero, suc, ◌+◌, ◌≤◌}
use mathlib.Core.Path.{◌≡◌, refl, ap, ◌∙◌}
use mathlib.Core.Bool.{Bool, true, false, cond}
use mathlib.Core.List.{List, [], ◌∷◌, map}
use native.Mathlib.Omega.{arith}
use lib.IntN.{pos}
use lib.ListN.{length, take}
use borrow.Author.Tests.{ne_eqb, le-ltb}
use Rattle.text.specs.Decimal.{decimal, signed_decimal}
use Rattle.text.specs.Lines.{line, Wrote}
use Rattle.command.specs.declared.Command.{Command}
use Rattle.command.specs.Command.{row_of_command}
use Rattle.command.specs.Words.{word_at}
use Rattle.listing.specs.Listing.{number_field, results_of as results_in, result_fields, reply_line, render_answer, render_bytes, Within}
use Rattle.listing.specs.Limits.{line_max}
use Rattle.listing.specs.declared.Reply.{Reply as Shown}
use Rattle.listing.specs.declared.Reply.TheVariants.{Unknown}
use Rattle.std.specs.Prelude.{Option, Some, None, unwrap_or, Result, Ok, Err}
use Rattle.answers.specs.Returned.{open_number_of}
use Rattle.answers.specs.declared.OpenError.{OpenError}
use Rattle.session.specs.Replies.{values_of, reply_of}
use Rattle.session.proofs.CommandSteps.{error-positive}
use Rattle.session.specs.declared.Results.{Results}
use Rattle.session.specs.declared.Results.TheVariants.{Nothing, Producer, Place, Offset, Carried, Payloads, Left}
use Rattle.replies.specs.Shown.{is_command, shows_none, results_shown, fields_shown, line_shown}
use Rattle.replies.specs.Reply.{room_for}
use Rattle.replies.specs.Rendering.{own_of, own_numbers, listed_from, numbers_listed, none_rendered, results_rendered, answer_rendered, reply_rendered}

-- ---- the results

none-rendered : (dash : Bool) (payloads : List ℕ) → result_fields (none_rendered dash) payloads ≡ results_shown dash []
none-rendered true payloads = refl
none-rendered false payloads = refl

same-decimals : (l : List ℕ) → map decimal l ≡ map signed_decimal (map pos l)
unfolding signed_decimal
same-decimals [] = refl
same-decimals (x ∷ l) = ap (λ (r : List (List ℕ)). decimal x ∷ r) (same-decimals l)

payloads-rendered : (dash : Bool) (count : ℕ) (payloads : List ℕ)
    → result_fields (results_rendered dash (Payloads count) (length payloads)) payloads ≡ results_shown dash (values_of (Payloads count) payloads)
payloads-rendered dash zero payloads = none-rendered dash payloads
payloads-rendered dash (suc count) [] = rw (ne_eqb (suc count) 0 (λ z. omega (arith, z))) (none-rendered dash [])
payloads-rendered dash (suc count) (x ∷ payloads) =
    rw (ne_eqb (suc count) 0 (λ z. omega (arith, z)), ne_eqb (suc (length payloads)) 0 (λ z. omega (arith, z))) (same-decimals (x ∷ take count payloads))

results-rendered : (dash : Bool) (results : Results) (payloads : List ℕ)
    → result_fields (results_rendered dash results (length payloads)) (listed_from (own_of results) payloads) ≡ results_shown dash (values_of results payloads)
unfolding signed_decimal
results-rendered dash Nothing payloads = none-rendered dash payloads
results-rendered dash (Producer pid epoch) payloads = refl
results-rendered dash (Place place) payloads = refl
results-rendered dash (Offset offset) payloads = refl
results-rendered dash (Carried place position verdict) payloads = refl
results-rendered dash (Payloads count) payloads = payloads-rendered dash count payloads
results-rendered dash (Left count) payloads = refl

-- ---- the line

module _ (dash : Bool) (payloads : List ℕ) (end flushed : ℕ) where
  answer-rendered : (r : Result Results OpenError)
      → let shown = answer_rendered dash r (length payloads) in
      number_field shown ∷ decimal end ∷ decimal flushed ∷ result_fields (results_in shown) (numbers_listed r payloads) ≡ fields_shown true dash (reply_of r payloads) end flushed
  answer-rendered (Ok results) = ap (λ (l : List (List ℕ)). decimal 0 ∷ decimal end ∷ decimal flushed ∷ l) (results-rendered dash results payloads)
  answer-rendered (Err error) = rw (ne_eqb (open_number_of error) 0 (error-positive error)) refl

  fields-rendered : (known : Bool) (r : Result Results OpenError)
      → let shown = cond known (answer_rendered dash r (length payloads)) Unknown in
      number_field shown ∷ decimal end ∷ decimal flushed ∷ result_fields (results_in shown) (numbers_listed r payloads) ≡ fields_shown known dash (reply_of r payloads) end flushed
  fields-rendered true r = answer-rendered r
  fields-rendered false r = refl

pub line-rendered : (command : Command) (r : Result Results OpenError) (payloads : List ℕ) (end flushed : ℕ)
    → reply_line (row_of_command command) (reply_rendered command r (length payloads)) end flushed (numbers_listed r payloads) ≡ line_shown command (reply_of r payloads) end flushed
unfolding reply_line
line-rendered command r payloads end flushed = ap (line (word_at (row_of_command command))) (fields-rendered (shows_none command) payloads end flushed (is_command command) r)

-- ---- in a buffer with room for every answer

few-own : (results : Results) (payloads : List ℕ) → length (listed_from (own_of results) payloads) ≤ 3 + length payloads
few-own Nothing payloads = omega arith
few-own (Producer pid epoch) payloads = omega arith
few-own (Place place) payloads = omega arith
few-own (Offset offset) payloads = omega arith
few-own (Carried place position verdict) payloads = omega arith
few-own (Payloads count) payloads = omega arith
few-own (Left count) payloads = omega arith

few-listed : (r : Result Results OpenError) (payloads : List ℕ) → length (numbers_listed r payloads) ≤ 3 + length payloads
few-listed (Ok results) payloads = few-own results payloads
few-listed (Err error) payloads = omega arith

-- which numbers are listed
module _ (r : Result Results OpenError) (payloads : List ℕ) where
  pub own-listed : {own : List ℕ} → Some own ≡ own_numbers r → own ≡ numbers_listed r payloads
  own-listed e = ap (λ (o : Option (List ℕ)). listed_from o payloads) e

  pub lent-listed : None ≡ own_numbers r → payloads ≡ numbers_listed r payloads
  lent-listed e = ap (λ (o : Option (List ℕ)). listed_from o payloads) e

module _ (row : ℕ) (shown : Shown) (end flushed : ℕ) (listed out : List ℕ) {r : Option ℕ} {next : ℕ} {left : List ℕ} where
  rendered-wrote : line_max (length listed) ≤ length out → r ≡ render_answer row shown end flushed listed out 0 → left ≡ render_bytes row shown end flushed listed out 0
      → next ≡ unwrap_or r 0
      → Wrote (reply_line row shown end flushed listed) out 0 next left
  unfolding render_answer render_bytes
  rendered-wrote h a b n =
      let f = le-ltb (length out) (0 + line_max (length listed)) (omega (arith, h)) in
      (n ∙ ap (λ (x : Option ℕ). unwrap_or x 0) (rw f at a), rw f at b)

behind-within : (r : Option ℕ) {n next : ℕ} → Within r n → next ≡ unwrap_or r 0 → next ≤ n
behind-within (Some k) w e = rw e w
behind-within None w e = rw e (omega arith)

-- the line of a response is written, wherever its numbers are listed from
pub wrote-line : (command : Command) (response : Result Results OpenError) (payloads out : List ℕ) (end flushed : ℕ) {row : ℕ} {shown : Shown} {listed : List ℕ} {r : Option ℕ} {next : ℕ} {left : List ℕ}
    → room_for (length payloads) ≤ length out
    → row ≡ row_of_command command
    → shown ≡ reply_rendered command response (length payloads)
    → listed ≡ numbers_listed response payloads
    → (r ≡ render_answer row shown end flushed listed out 0) × ((left ≡ render_bytes row shown end flushed listed out 0) × Within r (length out))
    → next ≡ unwrap_or r 0
    → Wrote (line_shown command (reply_of response payloads) end flushed) out 0 next left × (next ≤ length out)
wrote-line command response payloads out end flushed {r = r} room e s l (a, (b, w)) n =
    let few = few-listed response payloads in (
      rw (← line-rendered command response payloads end flushed)
          (rendered-wrote (row_of_command command) (reply_rendered command response (length payloads)) end flushed (numbers_listed response payloads) out (omega (arith, few, room)) (rw (e, s, l) at a) (rw (e, s, l) at b) n),
      behind-within r w n,
    )
