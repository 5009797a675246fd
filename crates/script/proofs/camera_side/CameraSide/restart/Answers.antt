use Rattle.std.proofs.Common.{◌≡◌, sym, ◌∙◌, rules}
use Rattle.std.proofs.lemmas.Result.{err_from_is_err_and}
use Rattle.ends.specs.declared.coding.Heading.{Heading}
use Rattle.ends.specs.Calls.{Answered, restart_call}
use Rattle.script.specs.Memory.{memory_of}
use Rattle.script.proofs.Idle.{restarted_idle}
use Rattle.script.proofs.Written.{kept}
use Rattle.script.proofs.camera_side.CameraSide.restart.Goals as goal

pub returns-in_err-heading-clause-unchanged : goal.returns-in_err-heading-clause-unchanged
returns-in_err-heading-clause-unchanged c =
    let s = c.self.inside in
    let amount = c.args.settings.camera in
    let lent = c.in_ok-lend.ensures.lent in
    let call : Answered Heading = restart_call s.camera.end (memory_of s.plane amount) in
    let answer : call.answer ≡ c.in_ok-lend.field-0 = search rules in
    let end : call.end ≡ c.lend.new.end.end = search rules in
    let idle = restarted_idle _ (answer ∙ c.in_err-heading.was) in
    let plane : c.lend.new.self ≡ s.plane = kept s.plane amount lent.2 (search rules) idle.1 in
    let gives = err_from_is_err_and c.from_residual-in_err-heading.result c.from_residual-in_err-heading.ensures.1 in
    rw gives.1 ((λ i. record { camera = record { end = (sym end ∙ idle.0) i }; plane = plane i; given = c.reserve.ensures.items i }) ∙ c.self.view_is)
