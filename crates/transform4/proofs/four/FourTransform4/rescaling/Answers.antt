use Rattle.std.proofs.Common.{◌≡◌, ℕ, ◌*◌, ◌/◌, ◌%◌, ◌^◌, List, get_or, pos, ◌*ℤ◌, sym, ap, ◌∙◌}
use Rattle.laws.specs.Four.{v4, class4}
use Rattle.laws.proofs.Linear.{*ℤ-assoc}
use Rattle.laws.proofs.Recommended.{recommended_rescaling}
use Rattle.transform.specs.Pattern.{pattern_at}
use Rattle.transform.proofs.Blocks.{unshifted}
use Rattle.transform4.specs.Inner.{pattern}
use Rattle.transform4.proofs.Classes.{pattern_is}
use Rattle.transform4.proofs.four.FourTransform4.rescaling.Goals as goal

pub returns-clause-recommended : goal.returns-clause-recommended
returns-clause-recommended c = recommended_rescaling

pub returns-clause-value : goal.returns-clause-value
returns-clause-value c = λ i j level hi hj.
    let r = c.args.qp % 6 in let p = 2 ^ (c.args.qp / 6) in
    let steps = c.pattern.ensures ∙ ap (λ (s : List ℕ). pattern (get_or s 0 0) (get_or s 1 0) (get_or s 2 0)) c.steps.ensures.value in
    let step : pattern_at c.pattern.result i j ≡ v4 r (class4 (i % 2) (j % 2)) * p =
    ap (λ s. pattern_at s i j) steps ∙ pattern_is (λ class. v4 r class * p) i j hi hj in
    unshifted (level *ℤ pos (pattern_at c.pattern.result i j)) ∙ ap (λ n. level *ℤ pos n) step ∙ sym (*ℤ-assoc level (pos (v4 r (class4 (i % 2) (j % 2)))) (pos p))
