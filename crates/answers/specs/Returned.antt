-- What the functions return, in the words of the definitions: a refusal by its number, and each answer as document 01 has it.
use Rattle.std.specs.Prelude.{ℕ, Bool, true, false, Option, Some, None, Result, Ok, Err}
use Rattle.answers.specs.Numbers.{invalid_name, invalid_timeout, invalid_set, invalid_verdict, invalid_catalogue, invalid_log, invalid_number, invalid_length, unknown_producer, wrong_epoch, not_flushed, wrong_status, busy, too_many_names, pids_spent, no_log_room, not_joined, sequence_gap, repeated_sequence, stale_coordinator, no_partition_room}
use Rattle.answers.specs.declared.Refusal.{Refusal}
use Rattle.answers.specs.declared.Refusal.TheVariants.{InvalidName, InvalidTimeout, InvalidSet, InvalidVerdict, InvalidCatalogue, InvalidNumber, InvalidLength, UnknownProducer, WrongEpoch, NotFlushed, WrongStatus, Busy, TooManyNames, PidsSpent, NoLogRoom, NotJoined, SequenceGap, RepeatedSequence, StaleCoordinator, NoPartitionRoom}
use Rattle.answers.specs.declared.OpenError.{OpenError}
use Rattle.answers.specs.declared.OpenError.TheVariants.{BadLog as BadLogError, Refused as RefusedError}
use Rattle.answers.specs.declared.Initialized.{Initialized}
use Rattle.answers.specs.declared.Initialized.TheVariants.{Given as GivenProducer, Aborting as AbortingProducer}
use Rattle.answers.specs.declared.Order.{Order as OrderCarried}
use Rattle.answers.specs.declared.Copied.{Copied as CopiedPayloads}
use Rattle.answers.specs.Answer.{Answer, Done, Refused}
use Rattle.answers.specs.OpenAnswer.{OpenAnswer, Opened, BadLog, Refused as OpenRefused}
use Rattle.answers.specs.InitAnswer.{InitAnswer, Given, Aborting, Refused as InitRefused}
use Rattle.answers.specs.TickAnswer.{TickAnswer, Aborted, NoneDue, Refused as TickRefused}
use Rattle.answers.specs.OrderAnswer.{OrderAnswer, Order, NoOrder}
use Rattle.answers.specs.ProduceAnswer.{ProduceAnswer, Written, Refused as ProduceRefused}
use Rattle.answers.specs.ReadAnswer.{ReadAnswer, Copied, Refused as ReadRefused}

-- the number of a refusal
abbrev pub number_of : Refusal → ℕ
number_of InvalidName = invalid_name
number_of InvalidTimeout = invalid_timeout
number_of InvalidSet = invalid_set
number_of InvalidVerdict = invalid_verdict
number_of InvalidCatalogue = invalid_catalogue
number_of InvalidNumber = invalid_number
number_of InvalidLength = invalid_length
number_of UnknownProducer = unknown_producer
number_of WrongEpoch = wrong_epoch
number_of NotFlushed = not_flushed
number_of WrongStatus = wrong_status
number_of Busy = busy
number_of TooManyNames = too_many_names
number_of PidsSpent = pids_spent
number_of NoLogRoom = no_log_room
number_of NotJoined = not_joined
number_of SequenceGap = sequence_gap
number_of RepeatedSequence = repeated_sequence
number_of StaleCoordinator = stale_coordinator
number_of NoPartitionRoom = no_partition_room

-- the number of a refused opening
abbrev pub open_number_of : OpenError → ℕ
open_number_of (BadLogError offset) = invalid_log
open_number_of (RefusedError refusal) = number_of refusal

-- the number of the refusal, 0 where there is none
abbrev pub refusal_of : {A : Type 0} → Result A Refusal → ℕ
refusal_of (Ok _) = 0
refusal_of (Err refusal) = number_of refusal

-- a test that applies is an error, and any other passes
abbrev pub refused_if : Bool → Refusal → Result (Unit {0}) Refusal
refused_if true refusal = Err refusal
refused_if false refusal = Ok tt

abbrev pub answer_of : Result (Unit {0}) Refusal → Answer
answer_of (Ok _) = Done
answer_of (Err refusal) = Refused (number_of refusal)

abbrev pub open_error_of : OpenError → OpenAnswer
open_error_of (BadLogError offset) = BadLog offset
open_error_of (RefusedError refusal) = OpenRefused (number_of refusal)

abbrev pub open_answer_of : {A : Type 0} → Result A OpenError → OpenAnswer
open_answer_of (Ok _) = Opened
open_answer_of (Err error) = open_error_of error

abbrev pub init_given : Initialized → InitAnswer
init_given (GivenProducer pid epoch) = Given pid epoch
init_given AbortingProducer = Aborting

abbrev pub init_answer_of : Result Initialized Refusal → InitAnswer
init_answer_of (Ok given) = init_given given
init_answer_of (Err refusal) = InitRefused (number_of refusal)

abbrev pub tick_place : Option ℕ → TickAnswer
tick_place (Some place) = Aborted place
tick_place None = NoneDue

abbrev pub tick_answer_of : Result (Option ℕ) Refusal → TickAnswer
tick_answer_of (Ok place) = tick_place place
tick_answer_of (Err refusal) = TickRefused (number_of refusal)

abbrev pub order_answer_of : Option OrderCarried → OrderAnswer
order_answer_of (Some order) = Order order.place order.pid order.epoch order.verdict order.position order.coordinator
order_answer_of None = NoOrder

abbrev pub produce_answer_of : Result ℕ Refusal → ProduceAnswer
produce_answer_of (Ok offset) = Written offset
produce_answer_of (Err refusal) = ProduceRefused (number_of refusal)

abbrev pub read_answer_of : Result CopiedPayloads Refusal → ReadAnswer
read_answer_of (Ok copied) = Copied copied.count copied.next
read_answer_of (Err refusal) = ReadRefused (number_of refusal)
