-- What a cut of a session's log leads to: the log is opened at the length left, and all that is left to carry is carried.
use Rattle.std.specs.Prelude.{ℕ, zero, suc, ◌*◌, ◌-◌, ◌^◌, Bool, true, false, cond, []}
use Rattle.answers.specs.Limits.{places}
use Rattle.answers.specs.OrderAnswer.{OrderAnswer}
use Rattle.answers.specs.OrderAnswer.{Order, NoOrder}
use Rattle.coordinator.specs.Order.{order}
use Rattle.command.specs.declared.Command.TheVariants.{Flush, Carry, Cut}
use Rattle.cut_outcomes.specs.Outcomes.{outcome}
use Rattle.session.specs.Limits.{partitions}
use Rattle.session.specs.Memory.{Memory}
use Rattle.session.specs.Commands.{performed}

-- the set of all positions: every partition is up
abbrev pub everything : ℕ
everything = 2 ^ 64 - 1

-- no more orders can be left to carry than places times partitions
abbrev pub carries_max : ℕ
carries_max = places * partitions

abbrev pub is_order : OrderAnswer → Bool
is_order NoOrder = false
is_order (Order place pid epoch verdict position coordinator) = true

-- whether something is left to carry
abbrev pub is_left : Memory → Bool
is_left m = is_order (order m.session.coordinator everything)

-- one order is carried and all is flushed, so that a complete record counts
abbrev pub round : Memory → Memory
round m = (performed Flush [] (performed (Carry everything) [] m).memory).memory

-- rounds until nothing is left to carry, and no more than so many
unfoldable pub carried_all : ℕ → Memory → Memory
carried_all zero m = m
carried_all (suc n) m = cond (is_left m) (carried_all n (round m)) m

-- `cut` at a length, and all carried
abbrev pub after_cut : ℕ → Memory → Memory
after_cut n m = carried_all carries_max (performed (Cut (n - m.session.coordinator.flushed)) [] m).memory

-- how the transactions with flushed prepares end if the log is cut at this length
abbrev pub outcome_at : ℕ → Memory → ℕ
outcome_at n m = let c = m.session.coordinator in outcome c.flushed c.table (after_cut n m).session.coordinator.table
