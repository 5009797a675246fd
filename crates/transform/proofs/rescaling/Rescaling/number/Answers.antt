use Rattle.std.proofs.Common.{◌^◌, ◌∙◌, w16}
use Rattle.std.proofs.lemmas.Int.{to_z-of_z}
use Rattle.laws.proofs.Meant.{widened, natural, product, sum, shifted, keep}
use Rattle.transform.proofs.rescaling.Rescaling.number.Goals as goal

pub returns : goal.returns
returns c =
    let r = c.args.self.now in
    let p = keep (product (widened (c.from.ensures ∙ to_z-of_z w16 c.args.level c.ranges.level) c.ranges.level) (natural c.args.step 7424 c.requires tt)) tt in
    (shifted (2 ^ r.shift) (keep (sum p (natural r.half 32 r.half_small tt)) tt) tt).is
