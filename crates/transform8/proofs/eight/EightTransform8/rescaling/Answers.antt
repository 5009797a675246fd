use Rattle.std.proofs.Common.{◌≡◌, ℕ, ◌-◌, ◌/◌, ◌%◌, ◌^◌, ◌≤◌, List, get_or, pos, ◌+ℤ◌, ◌*ℤ◌, ap, ◌∙◌, subst, sym, le_trans, lit≤}
use lib.Signed.{shr_z}
use Rattle.laws.specs.Eight.{v8, group8, class8}
use Rattle.transform.specs.Pattern.{pattern_at}
use Rattle.transform8.specs.Inner.{pattern, step}
use Rattle.transform8.proofs.Classes.{pattern_is, pattern_most}
use Rattle.transform8.proofs.Rescaling.{rescale_is}
use Rattle.transform8.proofs.eight.EightTransform8.rescaling.Goals as goal

pub invariant_of-result-clause-steps_small : goal.invariant_of-result-clause-steps_small
invariant_of-result-clause-steps_small c = λ i j.
    subst (λ p. pattern_at p i j ≤ 7424) (sym c.pattern.ensures) (le_trans (pattern_most 3712 (λ class. get_or c.steps.result class 0) c.steps.ensures.small i j) (lit≤ tt))

pub returns : goal.returns
returns c = record {
  value = λ i j level hi hj.
      let r = c.args.qp % 6 in let k = c.args.qp / 6 in let class = class8 (group8 (i % 4)) (group8 (j % 4)) in
      let by_steps : List ℕ → List (List ℕ) = λ s. pattern (get_or s 0 0) (get_or s 1 0) (get_or s 2 0) (get_or s 3 0) (get_or s 4 0) (get_or s 5 0) in
      let stepped : pattern_at c.pattern.result i j ≡ step (v8 r class) k =
      ap (λ p. pattern_at p i j) (c.pattern.ensures ∙ ap by_steps c.steps.ensures.value) ∙ pattern_is (λ class. step (v8 r class) k) i j in
      let shift : c.saturating_sub-shift.result ≡ 6 - k = c.saturating_sub-shift.ensures ∙ ap (λ d. 6 - d) c.doublings.ensures.value in
      let half : c.half_of.result ≡ 2 ^ (6 - k) / 2 = c.half_of.ensures.value ∙ ap (λ s. 2 ^ s / 2) shift in
      (λ t. shr_z (level *ℤ pos (stepped t) +ℤ pos (half t)) (2 ^ shift t))
      ∙ rescale_is level (v8 r class) k (subst (λ d. d ≤ 8) c.doublings.ensures.value c.doublings.ensures.small);
}
