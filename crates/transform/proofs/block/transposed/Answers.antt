use Rattle.std.proofs.Common.{[], of_calls, rules}
use Rattle.transform.specs.Columns.{column_or}
use Rattle.transform.proofs.Made.{made}
use Rattle.transform.proofs.block.transposed.Goals as goal

pub returns : goal.returns
returns g c = λ d.
    made _ _ c.from_fn.result g.row.N [] (column_or d g.row.N c.args.m) c.from_fn.ensures.items (λ j y q r. (search (of_calls, rules), search (of_calls, rules)))
