use Rattle.std.proofs.Common.{◌≡◌, ℕ, ◌+◌, ◌-◌, map, sum, ap, ◌∙◌, rules}
use Rattle.std.specs.List.{range_with_len}
use Rattle.std.proofs.iter.runs.Sources.{sums}
use Rattle.std.proofs.lemmas.List.FromFn.{fill_by_all}
use Rattle.ends.specs.Tasks.{Tile}
use Rattle.ends.specs.Planes.{sample, row_sum}
use Rattle.ends.proofs.window.Window.sum_above.Goals as goal

pub sum-requires-clause-fits : goal.sum-requires-clause-fits
sum-requires-clause-fits c = search (rules, sums)

pub returns-clause-value : goal.returns-clause-value
unfolding row_sum
returns-clause-value c =
    let w = c.args.self.now in
    let t = c.tile.inside in
    let along = λ (v : Tile) (j : ℕ). sample w.tile.size w.plane.now (v.x + j) (v.y - 1) in
    let is : c.sum.result ≡ sum c.row-above.result.now = search rules in
    is
    ∙ ap sum (fill_by_all (λ (j : ℕ). sample w.tile.size w.plane.now (t.x + j) (t.y - 1)) c.row-above.result.now w.tile.edge 0 c.row-above.ensures.long c.row-above.ensures.samples)
    ∙ ap (λ (v : Tile). sum (map (along v) (range_with_len 0 w.tile.edge))) c.tile.view_is

pub returns-clause-bound : goal.returns-clause-bound
returns-clause-bound c = search (rules, sums)
