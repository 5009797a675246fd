use Rattle.std.proofs.Common.{◌≡◌, ℕ, ◌<◌, ◌≤◌, get_or, pos, ◌+ℤ◌}
use Rattle.ends.specs.Tiles.{clip}
use Rattle.ends.proofs.samples.Samples.add.Given as goal

abbrev pub invariant-loop-k : goal.invariant-loop-k
invariant-loop-k l =
    ((i : ℕ) → i < l.k → get_or l.values i 0 ≡ clip (pos (get_or l.initial.values i 0) +ℤ get_or l.residual i (pos 0)))
    × ((i : ℕ) → l.k ≤ i → get_or l.values i 0 ≡ get_or l.initial.values i 0)
