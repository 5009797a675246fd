use Rattle.ends.specs.declared.mode.Mode.TheVariants.{Colocated, Vertical, Horizontal}
use Rattle.ends.specs.Tiles.{predicted}
use Rattle.ends.proofs.window.Window.predict.Given as goal

-- what a row is filled with, by column and row: the closure of each call holds the window
abbrev pub ghost-write_rows : goal.ghost-write_rows
ghost-write_rows a = let w = a.write.0.now in predicted Colocated w.tile w.plane.now

abbrev pub ghost-write_rows-2 : goal.ghost-write_rows-2
ghost-write_rows-2 a = let w = a.write.0.now in predicted Vertical w.tile w.plane.now

abbrev pub ghost-write_rows-3 : goal.ghost-write_rows-3
ghost-write_rows-3 a = let w = a.write.0.now in predicted Horizontal w.tile w.plane.now

abbrev pub ghost-write_rows-4 : goal.ghost-write_rows-4
ghost-write_rows-4 a = λ j i. a.write.0
