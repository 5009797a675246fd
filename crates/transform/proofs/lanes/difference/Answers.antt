use Rattle.std.proofs.Common.{arith}
use Rattle.laws.proofs.Meant.{difference, keep, fits}
use Rattle.transform.proofs.Lines.{asked, given, long, lane}
use Rattle.transform.proofs.lanes.difference.Goals as goal

pub overflow_sub-result : goal.overflow_sub-result
overflow_sub-result g c =
    asked _ _ g.row.N (long c.args.a _ (omega arith)) (long c.args.b _ (omega arith)) _
    (λ k l. fits (difference (lane c.args.a 536870912 k (c.requires.left k l) tt) (lane c.args.b 536870912 k (c.requires.right k l) tt)) tt)

pub returns : goal.returns
returns g c =
    given _ _ g.row.N (long c.args.a _ (omega arith)) (long c.args.b _ (omega arith)) _ _
    (λ k l. (keep (difference (lane c.args.a 536870912 k (c.requires.left k l) tt) (lane c.args.b 536870912 k (c.requires.right k l) tt)) tt).is)
