use Rattle.std.proofs.Common.{rules, of_calls}
use Rattle.ends.proofs.window.Window.predict.Goals as goal

pub write_rows-requires : goal.write_rows-requires
write_rows-requires c κs within = search (of_calls, rules, within.0)

pub write_rows-requires-in-Vertical : goal.write_rows-requires-in-Vertical
write_rows-requires-in-Vertical c κs within = search (of_calls, rules, within.0)

pub write_rows-requires-in-Horizontal : goal.write_rows-requires-in-Horizontal
write_rows-requires-in-Horizontal c κs within = search (of_calls, rules, within.0)
