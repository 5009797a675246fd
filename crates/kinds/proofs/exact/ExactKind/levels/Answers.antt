use Rattle.std.proofs.Common.{◌≡◌, true, rules}
use Rattle.kinds.specs.Exact.{all_narrow}
use Rattle.kinds.proofs.Narrow.{differences_narrow}
use Rattle.kinds.proofs.exact.ExactKind.levels.Goals as goal

pub returns : goal.returns
returns c =
    let e : all_narrow c.args.residual.now ≡ true = differences_narrow c.args.residual.now c.requires.differences in
    record { answer = rw e; levels = search rules; reconstruction = rw e (search rules) }
