use Rattle.std.proofs.Common.{◌≡◌}
use Rattle.laws.specs.Blocks.{row}
use Rattle.laws.specs.Widths.{fits, every}
use Rattle.transform.proofs.block.block_fits.Given as goal

-- the lines so far
abbrev pub invariant-loop-line : goal.invariant-loop-line
invariant-loop-line g l = l.fits ≡ every (λ i. fits g.row.N l.most (row l.m i)) 0 l.line-index
