use Rattle.std.proofs.Common.{◌≡◌, ℕ, ◌+◌, ◌*◌, ◌<◌}
use Rattle.laws.specs.Blocks.{at, cells}
use Rattle.transform.proofs.block.write.Given as goal

-- the rows so far
abbrev pub invariant-loop-i : goal.invariant-loop-i
invariant-loop-i g l = (k : ℕ) → k < l.i → (j : ℕ) → j < g.row.N → at l.tile (g.row.N * k + j) ≡ cells l.m k j
