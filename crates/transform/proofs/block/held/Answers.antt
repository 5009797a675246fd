use Rattle.std.proofs.Common.{true, false, Some, sym, ap, ◌∙◌, rules}
use Rattle.laws.specs.Widths.{largest}
use Rattle.laws.proofs.Steps.{held_block, fit_short}
use Rattle.transform.proofs.block.held.Goals as goal

pub shortened-requires : goal.shortened-requires
shortened-requires g c = (search rules, (search rules, (search rules, (search rules, (search rules, fit_short g.row.N largest c.args.m (record { le = tt }) (sym c.block_fits.ensures ∙ c.if-block_fits.true))))))

pub returns-then-block_fits : goal.returns-then-block_fits
returns-then-block_fits g c = ap Some c.shortened.ensures ∙ held_block g.row.N c.args.m true (sym c.if-block_fits.true ∙ c.block_fits.ensures)

pub returns-else-block_fits : goal.returns-else-block_fits
returns-else-block_fits g c = held_block g.row.N c.args.m false (sym c.if-block_fits.false ∙ c.block_fits.ensures)
