use Rattle.std.proofs.Common.{◌≤◌, pos, nat_abs, of_calls, rules}
use Rattle.transform.proofs.Made.{mapped, each_mapped}
use Rattle.transform.proofs.block.wide.Goals as goal

pub returns-clause-value : goal.returns-clause-value
returns-clause-value g c = mapped _ _ c.args.line c.map.result g.row.N (pos 0) (pos 0) (λ x. x) c.map.ensures.items (λ p q x y r. search (of_calls, rules))

pub returns-clause-size : goal.returns-clause-size
returns-clause-size g c =
    each_mapped _ _ c.args.line c.map.result g.row.N (pos 0) (pos 0) (λ y. nat_abs y ≤ 32768) c.map.ensures.items (λ p q x y r. search (of_calls, rules))
