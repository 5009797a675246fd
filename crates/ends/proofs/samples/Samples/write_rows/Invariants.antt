use Rattle.ends.proofs.Rows.{Rows}
use Rattle.ends.proofs.samples.Samples.write_rows.Given as goal

abbrev pub invariant-loop-i : goal.invariant-loop-i
invariant-loop-i g l = Rows g.value l.edge l.values l.i
