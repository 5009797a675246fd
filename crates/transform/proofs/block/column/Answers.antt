use Rattle.std.proofs.Common.{of_calls, rules}
use Rattle.transform.specs.Columns.{cell_or}
use Rattle.transform.proofs.Made.{made}
use Rattle.transform.proofs.block.column.Goals as goal

pub returns : goal.returns
returns g c = λ d.
    made _ _ c.from_fn.result g.row.N d (λ i. cell_or d c.args.m.now i c.args.j) c.from_fn.ensures.items (λ i y q r. (search (of_calls, rules), search (of_calls, rules)))
