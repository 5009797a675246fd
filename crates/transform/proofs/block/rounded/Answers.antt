use Rattle.std.proofs.Common.{[], pos, ◌+ℤ◌, of_calls, rules}
use lib.Signed.{shr_z}
use Rattle.laws.specs.Blocks.{cells, from}
use Rattle.transform.proofs.Made.{made}
use Rattle.transform.proofs.block.rounded.Goals as goal

pub returns : goal.returns
returns g c =
    made _ _ c.from_fn.result g.row.N [] (λ i. from (λ j. shr_z (cells c.args.m i j +ℤ pos 32) 64) 0 g.row.N) c.from_fn.ensures.items (λ i y q r. (search (of_calls, rules), search (of_calls, rules)))
