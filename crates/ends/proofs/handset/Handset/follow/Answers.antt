use Rattle.std.proofs.Common.{Option, sym, ap, ◌∙◌}
use Rattle.std.proofs.lemmas.Result.{err_from_is_err_and}
use Rattle.ends.specs.declared.refusal.Refusal.{Refusal}
use Rattle.ends.specs.Refusals.{follow_refusal}
use Rattle.ends.specs.Calls.{followed}
use Rattle.ends.proofs.Passed.{refused}
use Rattle.ends.proofs.handset.Handset.follow.Goals as goal

pub returns-in_err-task : goal.returns-in_err-task
unfolding followed
returns-in_err-task g c =
    let m = g.K.Kind.meaning c.args.kind.now in
    let e = c.args.self.now.end in
    let plane = c.args.plane.now in
    let h = c.args.heading in
    let levels = c.args.levels.now in
    let p = err_from_is_err_and c.from_residual.result c.from_residual.ensures.1 in
    rw (p.1, p.2)
    (ap (λ (o : Option Refusal). followed m e plane h o (m.reconstruction h.coding.qp levels))
    (refused (follow_refusal m e plane h levels) _ _ (sym c.in_err-task.was ∙ c.check_follow.ensures)))
