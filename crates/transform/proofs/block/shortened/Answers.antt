use Rattle.std.proofs.Common.{[], of_calls, arith, rules}
use Rattle.laws.specs.Blocks.{at, from}
use Rattle.transform.proofs.Made.{mapped, callable_on}
use Rattle.transform.proofs.block.shortened.Goals as goal

pub map-requires : goal.map-requires
map-requires g c =
    (search rules, (search rules, (search rules, callable_on _ _ c.args.m [] (λ x y q r. search (of_calls, rules)) (λ i l. (search rules, (search rules, (c.requires.small, c.requires.short i (omega arith))))))))

pub returns : goal.returns
returns g c =
    mapped _ _ c.args.m c.map.result g.row.N [] [] (λ line. from (at line) 0 g.row.N) c.map.ensures.items (λ p q x y r. search (of_calls, rules))
