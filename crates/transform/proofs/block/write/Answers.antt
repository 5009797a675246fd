use Rattle.std.proofs.Common.{◌+◌, ◌*◌, ◌/◌, ◌%◌, pos, sym, ap, ◌∙◌, arith, below_more}
use Rattle.laws.specs.Blocks.{at, cells}
use Rattle.laws.proofs.Lists.{from_is}
use Rattle.laws.proofs.Places.{row_end, some_row, place_is, place_row, place_column}
use Rattle.transform.proofs.block.write.Goals as goal

pub loop-i-preserved : goal.loop-i-preserved
loop-i-preserved g c =
    below_more _ _
    (λ k h j l. c.write_line.ensures.before (g.row.N * k + j) (omega (arith, row_end g.row.N k c.loop-i.i h)) ∙ c.loop-i.invariant k h j l)
    (λ j l. c.write_line.ensures.here j l)

pub returns : goal.returns
returns g c =
    let n = g.row.N in let tile = c.loop-i.tile in
    from_is (λ t. cells c.args.m.now (t / n) (t % n)) (pos 0) (n * n) tile (omega (arith, c.loop-i.auto.tile, c.requires.length))
    (λ t h. let some = some_row n t h in
    ap (at tile) (sym (place_is n t)) ∙ c.loop-i.invariant (t / n) (omega (arith, place_row n t some h, c.loop-i-test.false)) (t % n) (place_column n t some))
