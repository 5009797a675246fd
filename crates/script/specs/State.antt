-- What a session holds as it begins, and with other settings.
use Rattle.std.specs.Prelude.{None}
use Rattle.std.specs.declared.alloc.Global.{Global}
use Rattle.script.specs.declared.command.Amount.{Amount}
use Rattle.script.specs.declared.command.Amount.TheVariants.{All}
use Rattle.script.specs.declared.command.End.{End}
use Rattle.script.specs.declared.command.End.TheVariants as end
use Rattle.script.specs.declared.session.Session.{Session}

-- a session as it begins: nothing is open, and each call is handed all that it asks for
abbrev pub at_first : Global → Session
at_first heap = record { heap = heap; settings = record { camera = All; handset = All; room = All }; opened = None }

abbrev pub with_memory : Session → End → Amount → Session
with_memory s end.Camera amount = record s { settings = record s.settings { camera = amount } }
with_memory s end.Handset amount = record s { settings = record s.settings { handset = amount } }

abbrev pub with_room : Session → Amount → Session
with_room s amount = record s { settings = record s.settings { room = amount } }
