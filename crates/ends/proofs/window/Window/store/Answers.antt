use Rattle.std.proofs.Common.{◌≡◌, ℕ, ◌+◌, ◌-◌, ◌*◌, ◌<◌, List, length, get_or, sym, ap, ◌∙◌, subst, arith, rules}
use Rattle.ends.specs.Tasks.{Tile}
use Rattle.ends.specs.Tiles.{with_tile}
use Rattle.ends.proofs.Rows.{Within, Part, within_end, row_in, row_holds, rows_end, below_is, part_more, part_all, row_written}
use Rattle.ends.proofs.window.Window.store.Goals as goal

pub slice_bounds-copy_from_slice-end : goal.slice_bounds-copy_from_slice-end
slice_bounds-copy_from_slice-end c =
    let t : Tile = record { size = c.tile.inside.size; x = c.tile.inside.x; y = c.tile.inside.y; edge = c.tile.inside.edge } in
    let i = c.loop-i.i-iterator.count in
    let plane : List ℕ = c.loop-i.plane in
    let before = c.loop-i.invariant in
    let step = c.in-Some.ensures.steps in
    let in-tile : i < t.edge = row_in i t.edge c.args.samples.now _ _ _ before.square c.tile.invariant.some before.rest step.0.1.0 (step.0.1.1 ∙ before.wide) in
    let w : Within t.size (length plane) t.x (t.y + i) t.edge = record { size = before.whole; right = omega arith; bottom = omega arith } in
    rw (c.from.ensures, step.1) (omega (arith, within_end t.size (length plane) t.x (t.y + i) t.edge w))

pub loop-i-preserved : goal.loop-i-preserved
loop-i-preserved c =
    let t : Tile = record { size = c.tile.inside.size; x = c.tile.inside.x; y = c.tile.inside.y; edge = c.tile.inside.edge } in
    let i = c.loop-i.i-iterator.count in
    let n = t.edge in
    let k = (t.y + i) * t.size.width + t.x + n - ((t.y + i) * t.size.width + t.x) in
    let samples : List ℕ = c.args.samples.now in
    let old : List ℕ = c.args.self.now.plane.now in
    let plane : List ℕ = c.loop-i.plane in
    let before = c.loop-i.invariant in
    let step = c.in-Some.ensures.steps in
    let row : List ℕ = c.copy_from_slice.new.self in
    let is : row ≡ c.in-Some.row.now = c.copy_from_slice.ensures.after in
    let wide : length c.in-Some.row.now ≡ n = step.0.1.1 ∙ before.wide in
    let long : length row ≡ n = ap length is ∙ wide in
    let in-tile : i < n = row_in i n samples _ _ _ before.square c.tile.invariant.some before.rest step.0.1.0 wide in
    let w : Within t.size (length plane) t.x (t.y + i) (length row) = record { size = before.whole; right = omega arith; bottom = omega arith } in
    rw (c.from.ensures, step.1, step.2) (record {
      square = before.square;
      whole = search rules;
      wide = step.0.0 ∙ before.wide;
      rest = below_is i n samples _ _ _ before.square c.tile.invariant.some before.rest step.0.1.0 wide;
      count = omega arith;
      part = part_more t samples old plane _ row i long
          (λ j h. ap (λ (xs : List ℕ). get_or xs j 0) is ∙ row_holds i n samples _ _ _ before.square c.tile.invariant.some before.rest step.0.1.0 wide j h)
          (row_written t.size plane row t.x (t.y + i) k w (omega arith)) before.part;
    })

pub returns-clause-plane : goal.returns-clause-plane
returns-clause-plane c =
    let t : Tile = record { size = c.tile.inside.size; x = c.tile.inside.x; y = c.tile.inside.y; edge = c.tile.inside.edge } in
    let samples : List ℕ = c.args.samples.now in
    let old : List ℕ = c.args.self.now.plane.now in
    let plane : List ℕ = c.loop-i.plane in
    let before = c.loop-i.invariant in
    let step = c.in-None.ensures.steps in
    let all = rows_end c.loop-i.i-iterator.count t.edge samples _ before.square before.rest (omega (arith, step.0.1.0, before.wide)) before.count in
    let some : 0 < t.size.width = omega arith in
    part_all t samples old plane (sym c.loop-i.auto.plane ∙ before.whole) some c.loop-i.auto.plane (subst (Part t samples old plane) all before.part)
    ∙ ap (λ (v : Tile). with_tile v samples old) c.tile.view_is
