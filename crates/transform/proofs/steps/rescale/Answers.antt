use Rattle.std.proofs.Common.{[], of_calls, ◌∙◌, rules}
use Rattle.laws.specs.Blocks.{cells, from}
use Rattle.transform.specs.Pattern.{stepped}
use Rattle.transform.proofs.Made.{made}
use Rattle.transform.proofs.Blocks.{rescaled_are}
use Rattle.transform.proofs.steps.rescale.Goals as goal

pub returns : goal.returns
returns g c =
    let r = c.rescaling-rescaling.result in
    c.held.ensures
    ∙ rescaled_are g.T.Transform.transform g.row.N g.met.T.Transform.points c.args.qp c.args.levels r.steps r.half r.shift c.rescaling-rescaling.ensures.value
    (made _ _ c.from_fn.result g.row.N [] (λ i. from (λ j. stepped r.steps r.half r.shift i j (cells c.args.levels i j)) 0 g.row.N) c.from_fn.ensures.items
    (λ i y q s. (search (of_calls, rules), search (of_calls, rules))))
