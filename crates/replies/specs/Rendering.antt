-- How the response of a session is handed to the crate that renders lines.
use Rattle.std.specs.Prelude.{ℕ, Bool, cond, List, [], ◌∷◌, eqb, Option, Some, None, Result, Ok, Err}
use Rattle.answers.specs.Returned.{open_number_of}
use Rattle.answers.specs.declared.OpenError.{OpenError}
use Rattle.command.specs.declared.Command.{Command}
use Rattle.listing.specs.declared.Results.{Results as Rendered}
use Rattle.listing.specs.declared.Results.TheVariants.{Empty, Absent, Two, Payloads as Listed}
use Rattle.listing.specs.declared.Reply.{Reply}
use Rattle.listing.specs.declared.Reply.TheVariants.{Unknown, Answered}
use Rattle.session.specs.declared.Results.{Results}
use Rattle.session.specs.declared.Results.TheVariants.{Nothing, Producer, Place, Offset, Carried, Payloads, Left}
use Rattle.replies.specs.Shown.{is_command, shows_none}

-- a place, an offset, what was carried and what is left are listed as numbers of their own, the payloads of a read as those that were lent
abbrev pub own_of : Results → Option (List ℕ)
own_of Nothing = None
own_of (Producer pid epoch) = None
own_of (Place place) = Some (place ∷ 0 ∷ 0 ∷ [])
own_of (Offset offset) = Some (offset ∷ 0 ∷ 0 ∷ [])
own_of (Carried place position verdict) = Some (place ∷ position ∷ verdict ∷ [])
own_of (Payloads count) = None
own_of (Left count) = Some (count ∷ 0 ∷ 0 ∷ [])

abbrev pub own_numbers : Result Results OpenError → Option (List ℕ)
own_numbers (Ok results) = own_of results
own_numbers (Err error) = None

-- the numbers that are listed
abbrev pub listed_from : Option (List ℕ) → List ℕ → List ℕ
listed_from (Some own) payloads = own
listed_from None payloads = payloads

abbrev pub numbers_listed : Result Results OpenError → List ℕ → List ℕ
numbers_listed r payloads = listed_from (own_numbers r) payloads

abbrev pub none_rendered : Bool → Rendered
none_rendered dash = cond dash Absent Empty

-- with so many payloads lent
abbrev pub results_rendered : Bool → Results → ℕ → Rendered
results_rendered dash Nothing lent = none_rendered dash
results_rendered dash (Producer pid epoch) lent = Two pid epoch
results_rendered dash (Place place) lent = Listed 1
results_rendered dash (Offset offset) lent = Listed 1
results_rendered dash (Carried place position verdict) lent = Listed 3
results_rendered dash (Payloads count) lent = cond (eqb count 0) (none_rendered dash) (cond (eqb lent 0) (none_rendered dash) (Listed count))
results_rendered dash (Left count) lent = Listed 1

-- a refusal has its number and no results
abbrev pub answer_rendered : Bool → Result Results OpenError → ℕ → Reply
answer_rendered dash (Ok results) lent = Answered 0 (results_rendered dash results lent)
answer_rendered dash (Err error) lent = Answered (open_number_of error) Empty

abbrev pub reply_rendered : Command → Result Results OpenError → ℕ → Reply
reply_rendered command r lent = cond (is_command command) (answer_rendered (shows_none command) r lent) Unknown
