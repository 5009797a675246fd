use Rattle.std.proofs.Common.{◌&&◌, sym, ◌∙◌, ap₂}
use Rattle.laws.specs.Blocks.{row}
use Rattle.laws.specs.Widths.{fits}
use Rattle.laws.proofs.Steps.{every_more}
use Rattle.transform.proofs.block.block_fits.Goals as goal

pub loop-line-preserved : goal.loop-line-preserved
loop-line-preserved g c =
    ap₂ ◌&&◌ c.loop-line.invariant c.line_fits-fits.ensures ∙ sym (every_more (λ i. fits g.row.N _ (row c.args.m.now i)) c.loop-line.line-index)
