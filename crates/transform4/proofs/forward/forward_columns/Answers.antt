use Rattle.std.proofs.Common.{refl, ◌∙◌, rules}
use Rattle.laws.proofs.Meant.{cons}
use Rattle.transform.proofs.Lines.{row_bounded, room, plus, minus}
use Rattle.transform4.proofs.FourForward.{row0, row1, row2, row3}
use Rattle.transform4.proofs.forward.forward_columns.Goals as goal

-- s03 + s12
pub sum-requires : goal.sum-requires
sum-requires c =
    let x = row_bounded c.args.x c.requires in
    (search rules, (room (plus c.sum-s03.ensures (x 0 tt) (x 3 tt)) tt, room (plus c.sum-s12.ensures (x 1 tt) (x 2 tt)) tt))

-- 2 d03
pub sum-requires-2 : goal.sum-requires-2
sum-requires-2 c =
    let x = row_bounded c.args.x c.requires in let d03 = minus c.difference-d03.ensures (x 0 tt) (x 3 tt) in (search rules, (room d03 tt, room d03 tt))

-- 2 d03 + d12
pub sum-requires-3 : goal.sum-requires-3
sum-requires-3 c =
    let x = row_bounded c.args.x c.requires in
    let d03 = minus c.difference-d03.ensures (x 0 tt) (x 3 tt) in
    (search rules, (room (plus c.sum-2.ensures d03 d03) tt, room (minus c.difference-d12.ensures (x 1 tt) (x 2 tt)) tt))

-- s03 - s12
pub difference-requires : goal.difference-requires
difference-requires c =
    let x = row_bounded c.args.x c.requires in
    (search rules, (room (plus c.sum-s03.ensures (x 0 tt) (x 3 tt)) tt, room (plus c.sum-s12.ensures (x 1 tt) (x 2 tt)) tt))

-- 2 d12
pub sum-requires-4 : goal.sum-requires-4
sum-requires-4 c =
    let x = row_bounded c.args.x c.requires in let d12 = minus c.difference-d12.ensures (x 1 tt) (x 2 tt) in (search rules, (room d12 tt, room d12 tt))

-- d03 - 2 d12
pub difference-requires-2 : goal.difference-requires-2
difference-requires-2 c =
    let x = row_bounded c.args.x c.requires in
    let d12 = minus c.difference-d12.ensures (x 1 tt) (x 2 tt) in
    (search rules, (room (minus c.difference-d03.ensures (x 0 tt) (x 3 tt)) tt, room (plus c.sum-4.ensures d12 d12) tt))

pub returns : goal.returns
returns c =
    let x = c.args.x in
    let s03 = c.sum-s03.ensures in let s12 = c.sum-s12.ensures in let d03 = c.difference-d03.ensures in let d12 = c.difference-d12.ensures in
    cons (c.sum.ensures ∙ row0 x s03 s12) (cons (c.sum-3.ensures ∙ row1 x d03 d12 c.sum-2.ensures)
    (cons (c.difference.ensures ∙ row2 x s03 s12) (cons (c.difference-2.ensures ∙ row3 x d03 d12 c.sum-4.ensures) refl)))
