use Rattle.std.proofs.Common.{◌≡◌, ℕ, ◌+◌, ◌-◌, ◌*◌, ◌≤◌, List, length, take, drop, ◌∙◌, subst, arith}
use Rattle.std.proofs.lemmas.List.Edits.{length-between}
use Rattle.ends.proofs.Rows.{Rows, row_end, put_in, put_before, rows_more, rows_all}
use Rattle.ends.proofs.samples.Samples.write_rows.Goals as goal

pub loop-i-preserved : goal.loop-i-preserved
loop-i-preserved g c =
    let n = c.args.self.now.edge in
    let i = c.loop-i.i in
    let first = i * n in
    let k = first + n - first in
    let old : List ℕ = c.loop-i.values in
    let new : List ℕ = c.write.new.arg3 in
    let long : length old ≡ n * n = omega arith in
    let fits : first + n ≤ length old = omega (arith, row_end i n n (omega arith)) in
    let is : k ≡ n = omega arith in
    let wide : length (take k (drop first old)) ≡ n = length-between old first (first + n) fits ∙ is in
    let wide-now : length new ≡ n = c.write.auto.arg3 ∙ wide in
    rows_more g.value n old _ i
    (λ j h. put_in first k old new (omega arith) j (omega arith) ∙ c.requires.1.1 i _ _ (omega arith) wide wide-now c.write.ensures j h)
    (put_before first k old new (omega arith))
    c.loop-i.invariant

pub returns-clause-values : goal.returns-clause-values
returns-clause-values g c =
    let all : c.loop-i.i ≡ c.args.self.now.edge = omega arith in
    rows_all g.value c.args.self.now.edge c.loop-i.values c.args.self.now.some (omega arith) (subst (Rows g.value c.args.self.now.edge c.loop-i.values) all c.loop-i.invariant)
