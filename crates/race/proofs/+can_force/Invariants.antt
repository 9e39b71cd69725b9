-- `race::can_force`: the rounds left fall at each call.
use Rattle.race.proofs.+can_force.Given as goal

abbrev pub decreases-can_force : goal.decreases-can_force
decreases-can_force l = l.rounds
