-- What a response of the code is in document 01: its number, and its results as the listing has them.
use Rattle.std.specs.Prelude.{ℕ, List, [], ◌∷◌, map, ℤ, pos, take, Result, Ok, Err}
use Rattle.answers.specs.Answers.{Reply, accepted, refused}
use Rattle.answers.specs.Returned.{open_number_of}
use Rattle.answers.specs.declared.OpenError.{OpenError}
use Rattle.session.specs.declared.Results.{Results}
use Rattle.session.specs.declared.Results.TheVariants.{Nothing, Producer, Place, Offset, Carried, Payloads, Left}

-- the first of the lent payloads, as results: "read: payloads"
abbrev pub first_payloads : ℕ → List ℕ → List ℤ
first_payloads count payloads = map pos (take count payloads)

-- "init: pid, epoch …. put: offset. carry: place, position, verdict (0 commit). read: payloads."; left: the number
abbrev pub values_of : Results → List ℕ → List ℤ
values_of Nothing payloads = []
values_of (Producer pid epoch) payloads = pid ∷ epoch ∷ []
values_of (Place place) payloads = pos place ∷ []
values_of (Offset offset) payloads = pos offset ∷ []
values_of (Carried place position verdict) payloads = pos place ∷ pos position ∷ pos verdict ∷ []
values_of (Payloads count) payloads = first_payloads count payloads
values_of (Left count) payloads = pos count ∷ []

-- a response, with the lent payloads after the command
abbrev pub reply_of : Result Results OpenError → List ℕ → Reply
reply_of (Ok results) payloads = accepted (values_of results payloads)
reply_of (Err error) payloads = refused (open_number_of error)
