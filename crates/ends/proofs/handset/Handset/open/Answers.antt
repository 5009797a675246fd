use Rattle.ends.proofs.Run.{run_law}
use Rattle.ends.proofs.handset.Handset.open.Goals as goal

pub returns-in_err-open-clause-law : goal.returns-in_err-open-clause-law
returns-in_err-open-clause-law c = run_law c.args.size c.args.first

pub returns-clause-law : goal.returns-clause-law
returns-clause-law c = run_law c.args.size c.args.first
