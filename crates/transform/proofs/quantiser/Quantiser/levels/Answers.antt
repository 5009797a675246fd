use Rattle.std.proofs.Common.{pos, of_calls, rules}
use Rattle.laws.specs.Blocks.{at}
use Rattle.laws.specs.Quantiser.{quantised}
use Rattle.transform.specs.Pattern.{pattern_at}
use Rattle.transform.proofs.Made.{made}
use Rattle.transform.proofs.quantiser.Quantiser.levels.Goals as goal

pub returns : goal.returns
returns g c =
    let q = c.args.self.now in
    made _ _ c.from_fn.result g.row.N (pos 0) (λ j. quantised (at c.args.line.now j) (pattern_at q.multipliers c.args.i j) q.add q.shift) c.from_fn.ensures.items
    (λ j y f r. (search (of_calls, rules), search (of_calls, rules)))
