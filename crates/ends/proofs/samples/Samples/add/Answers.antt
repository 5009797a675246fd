use Rattle.std.proofs.Common.{length, arith}
use Rattle.std.proofs.lemmas.List.FromFn.{fill_by_all}
use Rattle.ends.specs.Tiles.{reconstructed}
use Rattle.ends.proofs.samples.Samples.add.Goals as goal

pub returns-clause-values : goal.returns-clause-values
unfolding reconstructed
returns-clause-values c = fill_by_all _ c.loop-k.values (length c.args.self.now.values.now) 0 c.loop-k.auto.values (λ i l. c.loop-k.invariant.0 i (omega arith))
