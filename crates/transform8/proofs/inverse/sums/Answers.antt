use Rattle.std.proofs.Common.{[], ◌∷◌, rules}
use Rattle.transform.proofs.Lines.{row_bounded, room, wider, plus, minus, part, rows_sized}
use Rattle.transform8.proofs.inverse.sums.Goals as goal

-- d5 - d3 - d7 - (d7 >> 1)
pub difference-requires-2 : goal.difference-requires-2
difference-requires-2 c =
    let d = row_bounded c.args.d c.requires in (search rules, (room (minus c.difference.ensures (d 5 tt) (d 3 tt)) tt, room (d 7 tt) tt))

pub difference-requires-3 : goal.difference-requires-3
difference-requires-3 c =
    let d = row_bounded c.args.d c.requires in
    (search rules, (room (minus c.difference-2.ensures (minus c.difference.ensures (d 5 tt) (d 3 tt)) (d 7 tt)) tt, c.shifted.ensures.size))

-- d1 + d7 - d3 - (d3 >> 1)
pub difference-requires-5 : goal.difference-requires-5
difference-requires-5 c =
    let d = row_bounded c.args.d c.requires in (search rules, (room (plus c.sum-2.ensures (d 1 tt) (d 7 tt)) tt, room (d 3 tt) tt))

pub difference-requires-6 : goal.difference-requires-6
difference-requires-6 c =
    let d = row_bounded c.args.d c.requires in
    (search rules, (room (minus c.difference-5.ensures (plus c.sum-2.ensures (d 1 tt) (d 7 tt)) (d 3 tt)) tt, c.shifted-2.ensures.size))

-- d7 - d1 + d5 + (d5 >> 1)
pub sum-requires-3 : goal.sum-requires-3
sum-requires-3 c =
    let d = row_bounded c.args.d c.requires in (search rules, (room (minus c.difference-8.ensures (d 7 tt) (d 1 tt)) tt, room (d 5 tt) tt))

pub sum-requires-4 : goal.sum-requires-4
sum-requires-4 c =
    let d = row_bounded c.args.d c.requires in
    (search rules, (room (plus c.sum-3.ensures (minus c.difference-8.ensures (d 7 tt) (d 1 tt)) (d 5 tt)) tt, c.shifted-4.ensures.size))

-- d3 + d5 + d1 + (d1 >> 1)
pub sum-requires-7 : goal.sum-requires-7
sum-requires-7 c =
    let d = row_bounded c.args.d c.requires in (search rules, (room (plus c.sum-6.ensures (d 3 tt) (d 5 tt)) tt, room (d 1 tt) tt))

pub sum-requires-8 : goal.sum-requires-8
sum-requires-8 c =
    let d = row_bounded c.args.d c.requires in
    (search rules, (room (plus c.sum-7.ensures (plus c.sum-6.ensures (d 3 tt) (d 5 tt)) (d 1 tt)) tt, c.shifted-6.ensures.size))

pub returns-clause-size : goal.returns-clause-size
returns-clause-size c =
    let d = row_bounded c.args.d c.requires in
    let e0 = plus c.sum.ensures (d 0 tt) (d 4 tt) in
    let e1 = minus c.difference-3.ensures (minus c.difference-2.ensures (minus c.difference.ensures (d 5 tt) (d 3 tt)) (d 7 tt)) (part 1 c.shifted.ensures.value (d 7 tt)) in
    let e2 = minus c.difference-4.ensures (d 0 tt) (d 4 tt) in
    let e3 = minus c.difference-6.ensures (minus c.difference-5.ensures (plus c.sum-2.ensures (d 1 tt) (d 7 tt)) (d 3 tt)) (part 1 c.shifted-2.ensures.value (d 3 tt)) in
    let e4 = minus c.difference-7.ensures (part 1 c.shifted-3.ensures.value (d 2 tt)) (d 6 tt) in
    let e5 = plus c.sum-4.ensures (plus c.sum-3.ensures (minus c.difference-8.ensures (d 7 tt) (d 1 tt)) (d 5 tt)) (part 1 c.shifted-4.ensures.value (d 5 tt)) in
    let e6 = plus c.sum-5.ensures (d 2 tt) (part 1 c.shifted-5.ensures.value (d 6 tt)) in
    let e7 = plus c.sum-8.ensures (plus c.sum-7.ensures (plus c.sum-6.ensures (d 3 tt) (d 5 tt)) (d 1 tt)) (part 1 c.shifted-6.ensures.value (d 1 tt)) in
    rows_sized 8 131072 (c.sum.result ∷ c.difference-3.result ∷ c.difference-4.result ∷ c.difference-6.result ∷ c.difference-7.result ∷ c.sum-4.result ∷ c.sum-5.result ∷ c.sum-8.result ∷ [])
    (wider 131072 e0 tt, (e1, (wider 131072 e2 tt, (e3, (wider 131072 e4 tt, (e5, (wider 131072 e6 tt, (e7, tt))))))))
