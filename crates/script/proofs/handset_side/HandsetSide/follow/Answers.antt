use Rattle.std.proofs.Common.{◌≡◌, sym, ◌∙◌, rules}
use Rattle.std.proofs.lemmas.Result.{err_from_is_err_and}
use Rattle.ends.specs.Calls.{Answered}
use Rattle.script.specs.Kinds.{meaning_of}
use Rattle.script.specs.Sides.{follow_of}
use Rattle.script.proofs.Idle.{followed_idle}
use Rattle.script.proofs.Written.{kept}
use Rattle.script.proofs.handset_side.HandsetSide.follow.Goals as goal

pub returns-in_err-branch-clause-unchanged : goal.returns-in_err-branch-clause-unchanged
returns-in_err-branch-clause-unchanged c =
    let s = c.args.self.now in
    let unit = c.args.unit.now in
    let lent = c.in_ok-lend.ensures.lent in
    let call : Answered (Unit {0}) = follow_of s c.args.settings unit in
    let answer : call.answer ≡ c.in_ok-lend.field-0 = search rules in
    let end : call.end ≡ c.lend.new.end.end = search rules in
    let idle = followed_idle (meaning_of unit.kind) unit.heading _ _ (answer ∙ c.in_err-branch.was) in
    let plane : c.lend.new.self ≡ s.plane = kept s.plane c.args.settings.handset lent.2 (search rules) idle.1 in
    let gives = err_from_is_err_and c.from_residual-in_err-branch.result c.from_residual-in_err-branch.ensures.1 in
    rw gives.1 (λ i. record { handset = record { end = (sym end ∙ idle.0) i }; plane = plane i; last = s.last })
