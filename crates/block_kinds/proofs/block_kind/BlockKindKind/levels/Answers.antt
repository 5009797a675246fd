use Rattle.std.proofs.Common.{◌≡◌, false, Some, None, is_some, is_ok, sym, ap, ◌∙◌, rules}
use Rattle.std.specs.Option.{unwrap_or}
use Rattle.std.specs.Result.{result_ok}
use Rattle.block_kinds.proofs.Tiles.{coefficients_at, levels_at, round_trip_at}
use Rattle.block_kinds.proofs.block_kind.BlockKindKind.levels.Goals as goal

pub quantise-coded-requires : goal.quantise-coded-requires
quantise-coded-requires g c =
    let small = coefficients_at g.T.Transform.transform g.row.N g.met.T.Transform.points c.args.residual.now c.read.ensures c.forward_transform-coefficients.ensures
    g.T.Transform.most g.met.T.Transform.coefficients_small c.requires.differences c.requires.residual in
    (search rules, (search rules, (search rules, (search rules, small))))

pub returns-clause-levels : goal.returns-clause-levels
returns-clause-levels g c =
    c.write.ensures
    ∙ levels_at g.T.Transform.transform g.row.N g.met.T.Transform.points c.args.residual.now c.read.ensures c.forward_transform-coefficients.ensures c.args.qp c.args.sort c.quantise-coded.ensures

pub returns-in_err-rebuilt-clause-answer : goal.returns-in_err-rebuilt-clause-answer
returns-in_err-rebuilt-clause-answer g c =
    let refused : is_ok c.from_residual.result ≡ false = search rules in
    let none : c.reconstruct.result ≡ None = c.ok_or.ensures.ok_part ∙ ap result_ok c.in_err-rebuilt.was in
    let T = g.T.Transform.transform in let e = round_trip_at T g.row.N g.met.T.Transform.points c.args.residual.now c.read.ensures c.forward_transform-coefficients.ensures c.args.qp c.args.sort c.quantise-coded.ensures in
    refused ∙ ap is_some (sym (e None (sym none ∙ c.reconstruct.ensures)))

pub returns-in_err-rebuilt-clause-reconstruction : goal.returns-in_err-rebuilt-clause-reconstruction
returns-in_err-rebuilt-clause-reconstruction g c =
    let none : c.reconstruct.result ≡ None = c.ok_or.ensures.ok_part ∙ ap result_ok c.in_err-rebuilt.was in
    let T = g.T.Transform.transform in let e = round_trip_at T g.row.N g.met.T.Transform.points c.args.residual.now c.read.ensures c.forward_transform-coefficients.ensures c.args.qp c.args.sort c.quantise-coded.ensures in
    ap (λ o. unwrap_or o c.args.reconstruction.now) (sym (e None (sym none ∙ c.reconstruct.ensures)))

pub returns-clause-answer : goal.returns-clause-answer
returns-clause-answer g c =
    let some : c.reconstruct.result ≡ Some c.in_ok-rebuilt.rebuilt = c.ok_or.ensures.ok_part ∙ ap result_ok c.in_ok-rebuilt.was in
    let T = g.T.Transform.transform in let e = round_trip_at T g.row.N g.met.T.Transform.points c.args.residual.now c.read.ensures c.forward_transform-coefficients.ensures c.args.qp c.args.sort c.quantise-coded.ensures in
    ap is_some (sym (e (Some c.in_ok-rebuilt.rebuilt) (sym some ∙ c.reconstruct.ensures)))

pub returns-clause-reconstruction : goal.returns-clause-reconstruction
returns-clause-reconstruction g c =
    let some : c.reconstruct.result ≡ Some c.in_ok-rebuilt.rebuilt = c.ok_or.ensures.ok_part ∙ ap result_ok c.in_ok-rebuilt.was in
    let T = g.T.Transform.transform in let e = round_trip_at T g.row.N g.met.T.Transform.points c.args.residual.now c.read.ensures c.forward_transform-coefficients.ensures c.args.qp c.args.sort c.quantise-coded.ensures in
    c.write-2.ensures ∙ ap (λ o. unwrap_or o c.args.reconstruction.now) (sym (e (Some c.in_ok-rebuilt.rebuilt) (sym some ∙ c.reconstruct.ensures)))
