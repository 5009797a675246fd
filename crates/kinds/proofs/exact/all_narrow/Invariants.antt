use Rattle.std.proofs.Common.{◌≡◌, take}
use Rattle.kinds.specs.Exact.{all_narrow}
use Rattle.kinds.proofs.exact.all_narrow.Given as goal

-- the levels so far
abbrev pub invariant-loop-level : goal.invariant-loop-level
invariant-loop-level l = l.all ≡ all_narrow (take l.level-index l.levels)
