-- `calls::marker` meets its contract.
use mathlib.Core.Path.{◌≡◌, subst}
use lib.ListN.{length}
use mir.Syntax.{w16, w32, w64}
use mir.Val.{of_z, to_z}
use borrow.Author.Rules.{rules}
use Rattle.answers.specs.Answers.{reply}
use Rattle.answers.specs.Returned.{answer_of}
use Rattle.partition.specs.Marker.{marker}
use Rattle.server.specs.Calls.{Call, marker_call}
use Rattle.calls.specs.Meets.{OfMarker}
use Rattle.calls.proofs.Laws.{partition-meets}
use Rattle.calls.proofs.marker.Goals as goal

pub returns : goal.returns
returns c =
    let a = c.args in
    let r = c.marker in
    let pid : to_z w64 (of_z w64 a.pid) ≡ a.pid = search rules in
    let epoch : to_z w16 (of_z w16 a.epoch) ≡ a.epoch = search rules in
    let coordinator : to_z w32 (of_z w32 a.coordinator) ≡ a.coordinator = search rules in
    subst (λ (d : Call). OfMarker d a.p.now a.words.now (reply (answer_of r.result)) r.new.p r.new.words)
    (λ i. marker_call a.place (pid i) (epoch i) a.verdict (coordinator i))
    (partition-meets reply (marker a.p.now (length a.words.now) a.place (to_z w64 (of_z w64 a.pid)) (to_z w16 (of_z w16 a.epoch)) a.verdict (to_z w32 (of_z w32 a.coordinator))) a.p.now a.words.now _ _ _ r.ensures)
