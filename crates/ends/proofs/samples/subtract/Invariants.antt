use Rattle.std.proofs.Common.{◌≡◌, ℕ, ◌<◌, get_or, pos, ◌-ℤ◌}
use Rattle.ends.proofs.samples.subtract.Given as goal

abbrev pub invariant-loop-k : goal.invariant-loop-k
invariant-loop-k l = (i : ℕ) → i < l.k → get_or l.residual i (pos 0) ≡ pos (get_or l.source i 0) -ℤ pos (get_or l.prediction i 0)
