use Rattle.std.proofs.Common.{pos, ap, ◌∙◌}
use Rattle.laws.specs.Blocks.{transposed}
use Rattle.transform4.proofs.forward.column_products.Goals as goal

pub returns : goal.returns
returns c = c.transposed.ensures (pos 0) ∙ ap (transposed 4) c.forward_columns.ensures
