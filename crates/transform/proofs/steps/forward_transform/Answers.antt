use Rattle.std.proofs.Common.{sym, ap, ◌∙◌, subst, le_trans, lit≤, rules}
use Rattle.transform.specs.Passes.{products}
use Rattle.transform.specs.Inner.{Sized}
use Rattle.transform.proofs.Blocks.{forward_is, products_sized}
use Rattle.transform.proofs.steps.forward_transform.Goals as goal

pub multiply_columns-requires : goal.multiply_columns-requires
multiply_columns-requires g c = (search rules, (search rules, λ i j hi hj. le_trans (c.widened.ensures.size i j hi hj) (lit≤ tt)))

pub multiply_columns-requires-2 : goal.multiply_columns-requires-2
multiply_columns-requires-2 g c =
    let T = g.T.Transform.transform in let laws = g.met.T.Transform in
    (search rules, (search rules, subst (Sized g.row.N 2097152) (sym c.multiply_columns.ensures) (products_sized T g.row.N laws.points 32768 2097152 c.widened.result laws.products_small c.widened.ensures.size)))

pub returns : goal.returns
returns g c =
    let T = g.T.Transform.transform in
    c.multiply_columns-2.ensures
    ∙ ap (products T) (c.multiply_columns.ensures ∙ ap (products T) c.widened.ensures.value)
    ∙ forward_is T g.row.N g.met.T.Transform.points c.args.residual
