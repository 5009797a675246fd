use Rattle.std.proofs.Common.{[], of_calls, rules}
use Rattle.laws.specs.Blocks.{at, from}
use Rattle.transform.specs.Inner.{SizedLine}
use Rattle.transform.proofs.Made.{mapped, each_mapped}
use Rattle.transform.proofs.block.widened.Goals as goal

pub returns-clause-value : goal.returns-clause-value
returns-clause-value g c =
    mapped _ _ c.args.m c.map.result g.row.N [] [] (λ line. from (at line) 0 g.row.N) c.map.ensures.items (λ p q x y r. search (of_calls, rules))

pub returns-clause-size : goal.returns-clause-size
returns-clause-size g c = λ i j hi hj. each_mapped _ _ c.args.m c.map.result g.row.N [] [] (SizedLine g.row.N 32768) c.map.ensures.items (λ p q x y r. search (of_calls, rules)) i hi j hj
