use Rattle.std.proofs.Common.{length, pos, arith}
use Rattle.std.proofs.lemmas.List.FromFn.{fill_by_all}
use Rattle.ends.specs.Tiles.{residual}
use Rattle.ends.proofs.samples.subtract.Goals as goal

pub returns-clause-value : goal.returns-clause-value
unfolding residual
returns-clause-value c = fill_by_all _ c.loop-k.residual (length c.args.prediction.now) (pos 0) (omega arith) (λ i l. c.loop-k.invariant i (omega arith))
