use Rattle.std.proofs.Common.{Some, pos, ap, ◌∙◌}
use Rattle.laws.specs.Widths.{largest, largest_column}
use Rattle.transform.specs.Passes.{passed}
use Rattle.transform.proofs.Blocks.{after_columns, after_rows, inverse_is}
use Rattle.transform.proofs.steps.inverse_transform.Goals as goal

pub returns-in_err-rows : goal.returns-in_err-rows
returns-in_err-rows g c =
    let T = g.T.Transform.transform in let laws = g.met.T.Transform in
    c.from_residual.ensures
    ∙ ap (after_rows T g.row.N laws.points) (c.in_err-rows.ensures ∙ ap (passed T largest) (c.transposed.ensures (pos 0)))
    ∙ inverse_is T g.row.N laws.points laws.reads c.args.rescaled

pub returns-in_err-columns : goal.returns-in_err-columns
returns-in_err-columns g c =
    let T = g.T.Transform.transform in let laws = g.met.T.Transform in
    c.from_residual-in_err-columns.ensures
    ∙ ap (after_columns T g.row.N laws.points) (c.in_err-columns.ensures ∙ ap (passed T largest_column) (c.transposed-2.ensures (pos 0)))
    ∙ ap (after_rows T g.row.N laws.points) (c.in_ok-rows.ensures ∙ ap (passed T largest) (c.transposed.ensures (pos 0)))
    ∙ inverse_is T g.row.N laws.points laws.reads c.args.rescaled

pub returns : goal.returns
returns g c =
    let T = g.T.Transform.transform in let laws = g.met.T.Transform in
    ap Some c.rounded.ensures
    ∙ ap (after_columns T g.row.N laws.points) (c.in_ok-columns.ensures ∙ ap (passed T largest_column) (c.transposed-2.ensures (pos 0)))
    ∙ ap (after_rows T g.row.N laws.points) (c.in_ok-rows.ensures ∙ ap (passed T largest) (c.transposed.ensures (pos 0)))
    ∙ inverse_is T g.row.N laws.points laws.reads c.args.rescaled
