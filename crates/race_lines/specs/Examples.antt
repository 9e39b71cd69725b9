-- Examples of lines: what they ask, and what answers it.
use Rattle.std.specs.Prelude.{ℕ, List, [], ◌∷◌, Option, None, Some}
use Rattle.numbers.specs.Ascii.{ascii}
use Rattle.race.specs.declared.Board.{Board}

-- ---- what a line asks

pub record Asked : Type 0 where
  pub text : List ℕ
  pub request : Option Board

abbrev pub asked : List ℕ → Option Board → Asked
asked text request = record { text = text; request = request }

abbrev pub race : ℕ → ℕ → ℕ → ℕ → Option Board
race partitions timeout rounds blocks = Some (record { partitions = partitions; timeout = timeout; rounds = rounds; blocks = blocks })

abbrev pub requests : List Asked
requests =
    asked (ascii "race 2 3 5 12") (race 2 3 5 12) ∷
    asked (ascii "race\t2\t03\t5\t12") (race 2 3 5 12) ∷
    -- another word, too few fields, too many, an empty one, no number, a negative one
    asked (ascii "races 2 3 5 12") None ∷
    asked (ascii "race 2 3 5") None ∷
    asked (ascii "race 2 3 5 12 1") None ∷
    asked (ascii "race 2  5 12") None ∷
    asked (ascii "race 2 3 5 x") None ∷
    asked (ascii "race -2 3 5 12") None ∷
    asked [] None ∷
    []

-- ---- what answers it

pub record Answered : Type 0 where
  pub request : Option Board
  pub answer : List ℕ

abbrev pub answered : Option Board → List ℕ → Answered
answered request answer = record { request = request; answer = answer }

abbrev pub answers : List Answered
answers =
    answered (race 2 3 5 2) (ascii "race\t0\t1\n") ∷
    -- each number one too few or too many
    answered (race 3 3 5 2) (ascii "race\t0\t0\n") ∷
    answered (race 2 2 5 2) (ascii "race\t0\t0\n") ∷
    answered (race 2 3 4 2) (ascii "race\t0\t0\n") ∷
    answered (race 2 3 5 3) (ascii "race\t0\t0\n") ∷
    -- outside the limits
    answered (race 0 3 5 2) (ascii "race\t30\n") ∷
    answered (race 2 3 5 18446744073709551615) (ascii "race\t30\n") ∷
    -- no request
    answered None (ascii "?\t-\n") ∷
    []
