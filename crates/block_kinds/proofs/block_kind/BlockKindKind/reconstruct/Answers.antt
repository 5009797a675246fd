use Rattle.std.proofs.Common.{◌≡◌, false, Some, None, is_some, is_ok, sym, ap, ◌∙◌, rules}
use Rattle.std.specs.Option.{unwrap_or}
use Rattle.std.specs.Result.{result_ok}
use Rattle.block_kinds.proofs.Tiles.{residual_at}
use Rattle.block_kinds.proofs.block_kind.BlockKindKind.reconstruct.Goals as goal

pub returns-in_err-rebuilt-clause-answer : goal.returns-in_err-rebuilt-clause-answer
returns-in_err-rebuilt-clause-answer g c =
    let refused : is_ok c.from_residual.result ≡ false = search rules in
    let none : c.reconstruct.result ≡ None = c.ok_or.ensures.ok_part ∙ ap result_ok c.in_err-rebuilt.was in
    refused ∙ ap is_some (sym (residual_at g.T.Transform.transform g.row.N g.met.T.Transform.points c.args.qp c.args.levels.now c.read.ensures None (sym none ∙ c.reconstruct.ensures)))

pub returns-in_err-rebuilt-clause-reconstruction : goal.returns-in_err-rebuilt-clause-reconstruction
returns-in_err-rebuilt-clause-reconstruction g c =
    let none : c.reconstruct.result ≡ None = c.ok_or.ensures.ok_part ∙ ap result_ok c.in_err-rebuilt.was in
    ap (λ o. unwrap_or o c.args.reconstruction.now)
    (sym (residual_at g.T.Transform.transform g.row.N g.met.T.Transform.points c.args.qp c.args.levels.now c.read.ensures None (sym none ∙ c.reconstruct.ensures)))

pub returns-clause-answer : goal.returns-clause-answer
returns-clause-answer g c =
    let some : c.reconstruct.result ≡ Some c.in_ok-rebuilt.rebuilt = c.ok_or.ensures.ok_part ∙ ap result_ok c.in_ok-rebuilt.was in
    ap is_some (sym (residual_at g.T.Transform.transform g.row.N g.met.T.Transform.points c.args.qp c.args.levels.now c.read.ensures (Some c.in_ok-rebuilt.rebuilt) (sym some ∙ c.reconstruct.ensures)))

pub returns-clause-reconstruction : goal.returns-clause-reconstruction
returns-clause-reconstruction g c =
    let some : c.reconstruct.result ≡ Some c.in_ok-rebuilt.rebuilt = c.ok_or.ensures.ok_part ∙ ap result_ok c.in_ok-rebuilt.was in
    c.write.ensures
    ∙ ap (λ o. unwrap_or o c.args.reconstruction.now)
    (sym (residual_at g.T.Transform.transform g.row.N g.met.T.Transform.points c.args.qp c.args.levels.now c.read.ensures (Some c.in_ok-rebuilt.rebuilt) (sym some ∙ c.reconstruct.ensures)))
