use Rattle.std.proofs.Common.{pos, ◌+ℤ◌, of_calls, rules}
use lib.Signed.{shr_z}
use Rattle.transform.proofs.Made.{mapped}
use Rattle.transform.proofs.block.round_line.Goals as goal

pub returns : goal.returns
returns g c = mapped _ _ c.args.line c.map.result g.row.N (pos 0) (pos 0) (λ h. shr_z (h +ℤ pos 32) 64) c.map.ensures.items (λ p q x y r. search (of_calls, rules))
