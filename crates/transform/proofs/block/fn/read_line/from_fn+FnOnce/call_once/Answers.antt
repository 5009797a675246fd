use Rattle.std.proofs.Common.{w16, ◌∙◌, rules}
use Rattle.std.proofs.lemmas.Int.{to_z-of_z}
use Rattle.transform.proofs.block.fn.read_line.from_fn+FnOnce.call_once.Goals as goal

pub returns : goal.returns
returns g c = (c.from_fn.new.arg1, (search rules, to_z-of_z w16 c.from_fn.result (search rules) ∙ c.from_fn.ensures))
