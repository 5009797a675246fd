use Rattle.std.proofs.Common.{Option, sym, ap, ◌∙◌}
use Rattle.std.proofs.lemmas.Result.{err_from_is_err_and}
use Rattle.ends.specs.declared.refusal.Refusal.{Refusal}
use Rattle.ends.specs.Refusals.{code_refusal}
use Rattle.ends.specs.Calls.{coded, code_rebuilt}
use Rattle.ends.proofs.Passed.{refused}
use Rattle.ends.proofs.camera.Camera.code.Goals as goal

pub returns-in_err-task : goal.returns-in_err-task
unfolding coded
returns-in_err-task g c =
    let m = g.K.Kind.meaning c.args.kind.now in
    let e = c.args.self.now.end in
    let plane = c.args.plane.now in
    let d = c.args.coding in
    let source = c.args.source.now in
    let room = c.args.levels.now in
    let p = err_from_is_err_and c.from_residual.result c.from_residual.ensures.1 in
    rw (p.1, p.2)
    (ap (λ (o : Option Refusal). coded m e plane d source room o (code_rebuilt m e plane d source))
    (refused (code_refusal m e plane d source room) _ _ (sym c.in_err-task.was ∙ c.check_code.ensures)))
