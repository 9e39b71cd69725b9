-- Demand 1: whoever calls, with any bytes, numbers, clock or buffers, gets an answer or a numbered refusal, and a refusal changes neither state nor buffer.
use Rattle.std.specs.Prelude.{ℕ, ◌≡◌, true, List, [], ◌∷◌}
use Rattle.answers.specs.Refusals.{among}
use Rattle.coordinator.specs.Calls.{init_call, add_call, end_call, tick_call, flush_call, ack_call}
use Rattle.server.specs.Calls.{Server, Call, open_log, open_words, call, order_call, produce_call, marker_call, read_call, answer_of, after_call}

-- the numbers with which a call can be refused, in the order of their tests
abbrev pub refusals_of : Call → List ℕ
refusals_of (open_log text n epoch first last) = 5 ∷ 7 ∷ 6 ∷ 7 ∷ 17 ∷ []
refusals_of open_words = []
refusals_of (call (init_call name timeout time)) = 8 ∷ 1 ∷ 2 ∷ 12 ∷ 14 ∷ 15 ∷ 16 ∷ 17 ∷ []
refusals_of (call (add_call name pid epoch set time)) = 8 ∷ 1 ∷ 3 ∷ 10 ∷ 11 ∷ 12 ∷ 14 ∷ 17 ∷ []
refusals_of (call (end_call name pid epoch verdict time)) = 8 ∷ 1 ∷ 4 ∷ 10 ∷ 11 ∷ 12 ∷ 13 ∷ 14 ∷ []
refusals_of (call (tick_call time)) = 8 ∷ []
refusals_of (call (flush_call n)) = 7 ∷ []
refusals_of (order_call up) = []
refusals_of (call (ack_call place pid epoch position)) = 8 ∷ 3 ∷ 10 ∷ 11 ∷ 12 ∷ 13 ∷ 18 ∷ []
refusals_of (produce_call name pid epoch position sequence payload) = 8 ∷ 1 ∷ 3 ∷ 7 ∷ 10 ∷ 11 ∷ 12 ∷ 13 ∷ 14 ∷ 18 ∷ 20 ∷ 19 ∷ 22 ∷ []
refusals_of (marker_call place pid epoch verdict coordinator) = 8 ∷ 4 ∷ 7 ∷ 21 ∷ 11 ∷ []
refusals_of (read_call from) = 8 ∷ 7 ∷ []

-- the state and the buffers are of any making: no call has to have made them
pub record Demand1 : Type 0 where
  -- "gets an answer or a numbered refusal"
  pub numbered : (c : Call) (s : Server) → among (answer_of c s).number (0 ∷ refusals_of c) ≡ true
  -- "a refusal changes neither state nor buffer"; document 01: "Every refusal leaves all as it was, clock included."
  pub unchanged : (c : Call) (s : Server) → ((answer_of c s).number ≡ 0 → ⊥) → after_call c s ≡ s
