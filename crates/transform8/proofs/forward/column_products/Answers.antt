use Rattle.std.proofs.Common.{[], of_calls, rules}
use Rattle.laws.specs.Blocks.{column}
use Rattle.transform.proofs.Made.{made, callable}
use Rattle.transform8.specs.Inner.{forward_line}
use Rattle.transform8.proofs.EightForward.{column_sized}
use Rattle.transform8.proofs.forward.column_products.Goals as goal

pub from_fn-requires : goal.from_fn-requires
from_fn-requires c = (search rules, callable _ _ 8 (λ i y q r. search (of_calls, rules)) (λ j h. (h, column_sized 2097152 c.args.x c.requires j h)))

pub returns : goal.returns
returns c =
    made _ _ c.from_fn.result 8 [] (λ j. forward_line (column 8 c.args.x j)) c.from_fn.ensures.items (λ j y q r. (search (of_calls, rules), search (of_calls, rules)))
