use Rattle.std.proofs.Common.{◌&&◌, sym, ap, ◌∙◌, ap₂, w32, rules}
use Rattle.std.proofs.lemmas.Int.{to_z-of_z}
use Rattle.laws.specs.Blocks.{at}
use Rattle.laws.specs.Widths.{within}
use Rattle.laws.proofs.Steps.{every_more}
use Rattle.transform.proofs.block.line_fits.Goals as goal

pub loop-x-preserved : goal.loop-x-preserved
loop-x-preserved g c =
    let line = c.args.line.now in let j = c.loop-x.x-index in
    ap₂ ◌&&◌ c.loop-x.invariant (c.within-fits.ensures ∙ ap (within _) (to_z-of_z w32 (at line j) (search rules)))
    ∙ sym (every_more (λ j. within _ (at line j)) j)
