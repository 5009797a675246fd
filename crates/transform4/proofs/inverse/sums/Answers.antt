use Rattle.std.proofs.Common.{[], ◌∷◌}
use Rattle.transform.proofs.Lines.{row_bounded, plus, minus, part, rows_sized}
use Rattle.transform4.proofs.inverse.sums.Goals as goal

pub returns-clause-size : goal.returns-clause-size
returns-clause-size c =
    let d = row_bounded c.args.m c.requires in
    rows_sized 4 65536 (c.sum.result ∷ c.difference.result ∷ c.difference-2.result ∷ c.sum-2.result ∷ []) (
      plus c.sum.ensures (d 0 tt) (d 2 tt),
      (minus c.difference.ensures (d 0 tt) (d 2 tt), (minus c.difference-2.ensures (part 1 c.shifted.ensures.value (d 1 tt)) (d 3 tt), (plus c.sum-2.ensures (d 1 tt) (part 1 c.shifted-2.ensures.value (d 3 tt)), tt))),
    )
