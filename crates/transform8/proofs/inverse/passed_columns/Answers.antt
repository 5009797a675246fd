use Rattle.std.proofs.Common.{true, false, ◌&&◌, Some, sym, ap, ◌∙◌, ap₂, rules}
use Rattle.laws.specs.Eight.{sums8}
use Rattle.laws.proofs.Steps.{split, fit_short}
use Rattle.transform.specs.Passes.{on_columns}
use Rattle.transform.proofs.Stages.{fit_at}
use Rattle.transform8.proofs.EightPass.{passed_eight}
use Rattle.transform8.proofs.inverse.passed_columns.Goals as goal

pub shortened-requires : goal.shortened-requires
shortened-requires c =
    let last = fit_at 8 c.args.most c.results-g.result c.block_fits-3.result (search rules) c.block_fits-3.ensures in
    let fits = fit_short 8 c.args.most c.results-g.result c.requires (sym last ∙ (split (c.block_fits.result && c.block_fits-2.result) c.block_fits-3.result c.if-block_fits.true).1) in
    (search rules, (search rules, (search rules, (search rules, (search rules, fits)))))

pub returns-then-block_fits : goal.returns-then-block_fits
returns-then-block_fits c =
    let last = fit_at 8 c.args.most c.results-g.result c.block_fits-3.result (search rules) c.block_fits-3.ensures in
    ap Some c.shortened.ensures
    ∙ passed_eight c.args.most c.args.m c.sums-e.result c.turns-f.result c.results-g.result true (c.sums-e.ensures.value ∙ ap (on_columns 8 sums8) c.widened.ensures.value)
    c.turns-f.ensures.value c.results-g.ensures (sym c.if-block_fits.true ∙ ap₂ ◌&&◌ (ap₂ ◌&&◌ c.block_fits.ensures c.block_fits-2.ensures) last)

pub returns-else-block_fits : goal.returns-else-block_fits
returns-else-block_fits c =
    let last = fit_at 8 c.args.most c.results-g.result c.block_fits-3.result (search rules) c.block_fits-3.ensures in
    passed_eight c.args.most c.args.m c.sums-e.result c.turns-f.result c.results-g.result false (c.sums-e.ensures.value ∙ ap (on_columns 8 sums8) c.widened.ensures.value)
    c.turns-f.ensures.value c.results-g.ensures (sym c.if-block_fits.false ∙ ap₂ ◌&&◌ (ap₂ ◌&&◌ c.block_fits.ensures c.block_fits-2.ensures) last)
