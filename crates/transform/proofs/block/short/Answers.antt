use Rattle.std.proofs.Common.{pos, of_calls, rules}
use Rattle.laws.specs.Blocks.{at}
use Rattle.transform.proofs.Made.{made}
use Rattle.transform.proofs.block.short.Goals as goal

pub returns : goal.returns
returns g c =
    made _ _ c.from_fn.result g.row.N (pos 0) (at c.args.line) c.from_fn.ensures.items (λ i y q r. (search (of_calls, rules), search (of_calls, rules)))
