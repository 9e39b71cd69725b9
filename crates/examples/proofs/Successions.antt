-- The rules of succession allow what document 01's table of them has, and nothing else.
use mathlib.Core.Path.{◌≡◌, refl}
use mathlib.Core.List.{map}
use Rattle.search.specs.Search.{filter}
use Rattle.succession.specs.Moves.{may_follow_status}
use Rattle.succession.specs.Succession.{first, initializes, begins, widens, prepares_commit, prepares_abort, completes, keeps, follows}
use Rattle.examples.specs.SuccessionLines.{Succession, may_follow, successions, First, may_be_first, firsts}

pub successions-hold : map may_follow successions ≡ map (λ (l : Succession). l.expected) successions
unfolding may_follow filter may_follow_status initializes begins widens prepares_commit prepares_abort completes keeps follows
successions-hold = refl

pub firsts-hold : map may_be_first firsts ≡ map (λ (l : First). l.expected) firsts
unfolding may_be_first filter first
firsts-hold = refl
