use Rattle.std.proofs.Common.{[], of_calls, sym, ◌∙◌, ap₂, ◌+◌, rules}
use Rattle.laws.specs.Blocks.{cells, from}
use Rattle.laws.specs.Quantiser.{quantised}
use Rattle.transform.specs.Pattern.{pattern_at}
use Rattle.transform.proofs.Made.{made, callable}
use Rattle.transform.proofs.Blocks.{levels_are, room}
use Rattle.transform.proofs.steps.quantise.Goals as goal

pub from_fn-requires : goal.from_fn-requires
from_fn-requires g c = (
  search rules,
  callable _ _ g.row.N (λ i y q r. search (of_calls, rules))
      (λ i h. (
        search rules,
        (
          search rules,
          (
            search rules,
            (
              h,
              g.met.T.Transform.small,
              λ j l.
                  room _ g.T.Transform.most _ c.SHIFT.result c.doublings.result g.T.Transform.SHIFT (c.requires i j h l) (c.multipliers.ensures.room i j) c.SHIFT.ensures,
            ),
          ),
        ),
      )),
)

pub returns : goal.returns
returns g c =
    made _ _ c.from_fn.result g.row.N [] (λ i. from (λ j. quantised (cells c.args.coefficients i j) (pattern_at c.multipliers.result i j) c.rounding.result (c.SHIFT.result + c.doublings.result)) 0 g.row.N) c.from_fn.ensures.items
    (λ i y q r. (search (of_calls, rules), search (of_calls, rules)))
    ∙ levels_are g.T.Transform.transform g.row.N g.met.T.Transform.points c.args.qp c.args.sort (cells c.args.coefficients) c.multipliers.result c.rounding.result (c.SHIFT.result + c.doublings.result)
    c.multipliers.ensures.value c.rounding.ensures.value (ap₂ ◌+◌ (c.SHIFT.ensures ∙ sym g.met.T.Transform.shift) c.doublings.ensures.value)
