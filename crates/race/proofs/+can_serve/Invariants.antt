-- `race::can_serve`: the rounds left fall at each call.
use Rattle.race.proofs.+can_serve.Given as goal

abbrev pub decreases-can_serve : goal.decreases-can_serve
decreases-can_serve l = l.rounds
