-- The result of the search as the answer that it stands for.
use Rattle.std.specs.Prelude.{Bool, true, false, Result, Ok, Err}
use Rattle.race.specs.declared.InvalidBoard.{InvalidBoard}
use Rattle.race.specs.Limits.{invalid_board}
use Rattle.race.specs.Search.{RaceAnswer, Forced, NotForced, Refused}

abbrev pub answer_of : Result Bool InvalidBoard → RaceAnswer
answer_of (Ok true) = Forced
answer_of (Ok false) = NotForced
answer_of (Err e) = Refused invalid_board
