use Rattle.std.proofs.Common.{ℕ, ◌%◌, List, get_or, ap, ◌∙◌}
use Rattle.laws.specs.Eight.{m8}
use Rattle.transform.specs.Pattern.{pattern_at}
use Rattle.transform8.specs.Inner.{pattern}
use Rattle.transform8.proofs.Classes.{pattern_is}
use Rattle.transform8.proofs.eight.EightTransform8.multipliers.Goals as goal

pub returns-clause-value : goal.returns-clause-value
returns-clause-value c = λ i j hi hj.
    let f : List ℕ → List (List ℕ) = λ m. pattern (get_or m 0 0) (get_or m 1 0) (get_or m 2 0) (get_or m 3 0) (get_or m 4 0) (get_or m 5 0) in
    ap (λ p. pattern_at p i j) (c.pattern.ensures ∙ ap f c.multiplier_row.ensures.value) ∙ pattern_is (m8 (c.args.qp % 6)) i j
