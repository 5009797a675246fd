use Rattle.std.proofs.Common.{◌≡◌, vec_items, sym, ◌∙◌, rules}
use Rattle.std.proofs.lemmas.Result.{err_from_is_err_and}
use Rattle.ends.specs.Calls.{Coded, code_call}
use Rattle.script.specs.Kinds.{meaning_of}
use Rattle.script.specs.Memory.{memory_of}
use Rattle.script.proofs.Idle.{coded_idle}
use Rattle.script.proofs.Written.{kept}
use Rattle.script.proofs.camera_side.CameraSide.code.Goals as goal

pub returns-in_err-heading : goal.returns-in_err-heading
returns-in_err-heading c =
    let s = c.self.inside in
    let source = c.args.source.now in
    let amount = c.args.settings.camera in
    let lent = c.in_ok-coded.ensures.lent in
    let call : Coded = code_call (meaning_of source.kind) s.camera.end (memory_of s.plane amount) source.coding (vec_items source.samples) (vec_items c.in_ok-levels.levels) in
    let answer : call.answer ≡ c.in_ok-coded.coded = search rules in
    let end : call.end ≡ c.lend.new.end.end = search rules in
    let idle = coded_idle (meaning_of source.kind) source.coding (vec_items source.samples) (vec_items c.in_ok-levels.levels) _ _ (answer ∙ c.in_err-heading.was) in
    let plane : c.lend.new.self ≡ s.plane = kept s.plane amount lent.2 (search rules) idle.1 in
    let gives = err_from_is_err_and c.from_residual-in_err-heading.result c.from_residual-in_err-heading.ensures.1 in
    record { unchanged = rw gives.1 ((λ i. record { camera = record { end = (sym end ∙ idle.0) i }; plane = plane i; given = c.reserve.ensures.items i }) ∙ c.self.view_is) }
