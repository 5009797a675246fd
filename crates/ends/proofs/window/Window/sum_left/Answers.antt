use Rattle.std.proofs.Common.{ℕ, ◌+◌, ◌-◌, ◌*◌, ◌≤◌, map, sum, ap, ◌∙◌, arith, rules}
use Rattle.std.specs.List.{range_with_len}
use borrow.Author.Tests.{tests}
use Rattle.std.proofs.lemmas.Nat.{le-div, mul-le}
use Rattle.std.proofs.lemmas.Iterator.{YieldsList-from_range, YieldsList-from_map}
use Rattle.std.proofs.lemmas.Iterator.Consumers.{sum_from_yields_List}
use Rattle.std.proofs.lemmas.Iterator.Adapters.{fits_from_length, at_most_from_yields_List}
use Rattle.std.proofs.lemmas.List.FromFn.{length-range_with_len}
use Rattle.ends.specs.Tasks.{Tile}
use Rattle.ends.specs.Planes.{sample, column_sum}
use Rattle.ends.proofs.window.Window.sum_left.Goals as goal

pub sum-requires-clause-fits : goal.sum-requires-clause-fits
sum-requires-clause-fits c =
    let n = c.tile.inside.edge in
    fits_from_length _ _ n _ (at_most_from_yields_List (YieldsList-from_range 0 n n (cc) (omega arith)) (omega (arith, length-range_with_len 0 n)))
    c.map.ensures.closure (omega arith) (λ x r q k. search (rules, tests))

pub returns-clause-value : goal.returns-clause-value
unfolding column_sum
returns-clause-value c =
    let w = c.args.self.now in
    let t = c.tile.inside in
    let down = λ (v : Tile) (i : ℕ). sample w.tile.size w.plane.now (v.x - 1) (v.y + i) in
    sum_from_yields_List c.map.result _ c.sum.ensures.ran
    (YieldsList-from_map _ (λ (i : ℕ). sample w.tile.size w.plane.now (t.x - 1) (t.y + i)) (YieldsList-from_range 0 t.edge t.edge (cc) (omega arith)) c.map.ensures.closure (λ x r q k. search (rules, tests)))
    ∙ ap (λ (v : Tile). sum (map (down v) (range_with_len 0 v.edge))) c.tile.view_is

pub returns-clause-bound : goal.returns-clause-bound
returns-clause-bound c =
    let n = c.tile.inside.edge in
    let edge = ap (λ (v : Tile). v.edge) c.tile.view_is in
    let run = c.sum.ensures.runs tt in
    let small = fits_from_length _ _ n (255 * n + 1) (at_most_from_yields_List (YieldsList-from_range 0 n n (cc) (omega arith)) (omega (arith, length-range_with_len 0 n)))
    c.map.ensures.closure (omega arith) (λ x r q k. (search (rules, tests), le-div r (255 * n + 1 - 1) n (omega arith) (let h : r ≤ 255 = search (rules, tests) in omega (arith, mul-le r n 255 n h (omega arith)))))
    run.0 run.0.seen run.1 in
    omega (arith, small, run.3)
