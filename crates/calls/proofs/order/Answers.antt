-- `calls::order` meets its contract.
use mathlib.Core.Path.{refl, ap}
use Rattle.answers.specs.Answers.{order_reply}
use Rattle.calls.proofs.order.Goals as goal

pub returns : goal.returns
returns c = λ log p words out. (ap order_reply c.order.ensures, refl)
