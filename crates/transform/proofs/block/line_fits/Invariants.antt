use Rattle.std.proofs.Common.{◌≡◌}
use Rattle.laws.specs.Blocks.{at}
use Rattle.laws.specs.Widths.{within, every}
use Rattle.transform.proofs.block.line_fits.Given as goal

-- the numbers so far
abbrev pub invariant-loop-x : goal.invariant-loop-x
invariant-loop-x g l = l.fits ≡ every (λ j. within l.most (at l.line j)) 0 l.x-index
