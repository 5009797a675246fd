use Rattle.std.proofs.Common.{[], ◌∷◌}
use Rattle.transform.proofs.Lines.{row_bounded, plus, minus, part, rows_sized}
use Rattle.transform8.proofs.inverse.turns.Goals as goal

pub returns-clause-size : goal.returns-clause-size
returns-clause-size c =
    let e = row_bounded c.args.e c.requires in
    let f0 = plus c.sum.ensures (e 0 tt) (e 6 tt) in
    let f1 = plus c.sum-2.ensures (e 1 tt) (part 2 c.shifted.ensures.value (e 7 tt)) in
    let f2 = plus c.sum-3.ensures (e 2 tt) (e 4 tt) in
    let f3 = plus c.sum-4.ensures (e 3 tt) (part 2 c.shifted-2.ensures.value (e 5 tt)) in
    let f4 = minus c.difference.ensures (e 2 tt) (e 4 tt) in
    let f5 = minus c.difference-2.ensures (part 2 c.shifted-3.ensures.value (e 3 tt)) (e 5 tt) in
    let f6 = minus c.difference-3.ensures (e 0 tt) (e 6 tt) in
    let f7 = minus c.difference-4.ensures (e 7 tt) (part 2 c.shifted-4.ensures.value (e 1 tt)) in
    rows_sized 8 262144 (c.sum.result ∷ c.sum-2.result ∷ c.sum-3.result ∷ c.sum-4.result ∷ c.difference.result ∷ c.difference-2.result ∷ c.difference-3.result ∷ c.difference-4.result ∷ [])
    (f0, (f1, (f2, (f3, (f4, (f5, (f6, (f7, tt))))))))
