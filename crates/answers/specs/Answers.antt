-- What each answer is in document 01: its number (0, or that of the refusal) and its results.
use Rattle.std.specs.Prelude.{ℕ, List, [], ◌∷◌, ℤ, pos}
use Rattle.answers.specs.Numbers.{invalid_log}
use Rattle.answers.specs.Answer.{Answer}
use Rattle.answers.specs.Answer.{Done, Refused}
use Rattle.answers.specs.OpenAnswer.{OpenAnswer}
use Rattle.answers.specs.OpenAnswer.{Opened, BadLog, Refused as OpenRefused}
use Rattle.answers.specs.InitAnswer.{InitAnswer}
use Rattle.answers.specs.InitAnswer.{Given, Aborting, Refused as InitRefused}
use Rattle.answers.specs.TickAnswer.{TickAnswer}
use Rattle.answers.specs.TickAnswer.{Aborted, NoneDue, Refused as TickRefused}
use Rattle.answers.specs.OrderAnswer.{OrderAnswer}
use Rattle.answers.specs.OrderAnswer.{Order, NoOrder}
use Rattle.answers.specs.ProduceAnswer.{ProduceAnswer}
use Rattle.answers.specs.ProduceAnswer.{Written, Refused as ProduceRefused}
use Rattle.answers.specs.ReadAnswer.{ReadAnswer}
use Rattle.answers.specs.ReadAnswer.{Copied, Refused as ReadRefused}

-- an answer as document 01 writes it: 0 with the results, or the number of the refusal, of which only 6 has a result
pub record Reply : Type 0 where
  pub number : ℕ
  pub results : List ℤ

abbrev pub accepted : List ℤ → Reply
accepted results = record { number = 0; results = results }

abbrev pub refused : ℕ → Reply
refused number = record { number = number; results = [] }

-- "done"
abbrev pub reply : Answer → Reply
reply Done = accepted []
reply (Refused number) = refused number

-- "6 log, with the offset of the first bad frame"
abbrev pub open_reply : OpenAnswer → Reply
open_reply Opened = accepted []
open_reply (BadLog offset) = record { number = invalid_log; results = pos offset ∷ [] }
open_reply (OpenRefused number) = refused number

-- "answer pid, epoch", "answer ABORTING"
abbrev pub init_reply : InitAnswer → Reply
init_reply (Given pid epoch) = accepted (pid ∷ epoch ∷ [])
init_reply Aborting = accepted []
init_reply (InitRefused number) = refused number

-- "answer its place; none only if there is none"
abbrev pub tick_reply : TickAnswer → Reply
tick_reply (Aborted place) = accepted (pos place ∷ [])
tick_reply NoneDue = accepted []
tick_reply (TickRefused number) = refused number

-- "It carries place, pid, epoch, verdict, position, coordinator epoch."
abbrev pub order_reply : OrderAnswer → Reply
order_reply (Order place pid epoch verdict position coordinator) = accepted (pos place ∷ pid ∷ epoch ∷ pos verdict ∷ pos position ∷ coordinator ∷ [])
order_reply NoOrder = accepted []

-- the offset of the entry
abbrev pub produce_reply : ProduceAnswer → Reply
produce_reply (Written offset) = accepted (pos offset ∷ [])
produce_reply (ProduceRefused number) = refused number

-- "answers count and next offset"
abbrev pub read_reply : ReadAnswer → Reply
read_reply (Copied count next) = accepted (pos count ∷ pos next ∷ [])
read_reply (ReadRefused number) = refused number
