use Rattle.std.proofs.Common.{pos, of_calls, rules}
use Rattle.laws.specs.Blocks.{tile}
use Rattle.transform.proofs.Made.{made}
use Rattle.transform.proofs.block.read_line.Goals as goal

pub returns : goal.returns
returns g c =
    made _ _ c.from_fn.result g.row.N (pos 0) (tile g.row.N c.args.tile.now c.args.i) c.from_fn.ensures.items (λ i y q r. (search (of_calls, rules), search (of_calls, rules)))
