use Rattle.std.proofs.Common.{pos, of_calls, rules}
use Rattle.laws.specs.Blocks.{at}
use Rattle.transform.specs.Pattern.{stepped}
use Rattle.transform.proofs.Made.{made}
use Rattle.transform.proofs.rescaling.Rescaling.rescaled.Goals as goal

pub returns : goal.returns
returns g c =
    let r = c.args.self.now in
    made _ _ c.from_fn.result g.row.N (pos 0) (λ j. stepped r.steps r.half r.shift c.args.i j (at c.args.line.now j)) c.from_fn.ensures.items
    (λ j y f s. (search (of_calls, rules), search (of_calls, rules)))
