use Rattle.std.proofs.Common.{◌≤◌, vec_len}
use Rattle.script.proofs.decimal.numbers.Given as goal

abbrev pub invariant-loop-word : goal.invariant-loop-word
invariant-loop-word g l = vec_len l.numbers ≤ 4096
