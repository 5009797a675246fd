-- What the answers say.
use Rattle.std.specs.Prelude.{ℕ, Bool, true, false, List, Some, None, Ok, Err, vec_items, Option, Result, ⊤}
use Rattle.ends.specs.declared.plane.Size.{Size}
use Rattle.script.specs.declared.answer.Answer.{Answer}
use Rattle.script.specs.declared.answer.Answer.TheVariants as gives
use Rattle.script.specs.declared.command.End.{End}
use Rattle.script.specs.declared.command.End.TheVariants.{Camera, Handset}
use Rattle.script.specs.declared.opened.Opened.{Opened}
use Rattle.script.specs.declared.undone.Undone.{Undone}
use Rattle.script.specs.declared.undone.Undone.TheVariants.{Refused, InError}

-- a line did nothing: it held no command, or one that was refused or in error
abbrev pub idle_line : Result (Option Answer) Undone → Bool
idle_line (Ok (Some answer)) = false
idle_line (Ok None) = true
idle_line (Err undone) = true

-- P, if no error kept the command from its call, which was then taken or refused
abbrev pub OnTried : Result Answer Undone → Type 0 → Type 0
OnTried (Ok _) P = P
OnTried (Err (Refused _)) P = P
OnTried (Err (InError _)) P = ⊤

abbrev pub count_of : Opened → End → Answer
count_of o Camera = gives.Count o.camera.camera.end.count
count_of o Handset = gives.Count o.handset.handset.end.count

abbrev pub page_of : Opened → Answer
page_of o = gives.Page o.handset.handset.end.count o.handset.last

-- the plane of an end, with its size
abbrev pub shown_plane : Opened → End → Option (Size × List ℕ)
shown_plane o Camera = Some (o.size, o.camera.plane)
shown_plane o Handset = Some (o.size, o.handset.plane)

-- the samples that an answer shows, if it is a plane
abbrev pub samples_of : Answer → Option (Size × List ℕ)
samples_of (gives.Plane size samples) = Some (size, vec_items samples)
samples_of (gives.Opened _ _) = None
samples_of (gives.Unit _ _ _) = None
samples_of (gives.Restart _ _) = None
samples_of (gives.Taken _) = None
samples_of (gives.Memory _ _) = None
samples_of (gives.Room _) = None
samples_of (gives.Count _) = None
samples_of (gives.Page _ _) = None
samples_of (gives.Levels _) = None
samples_of (gives.Residual _) = None
samples_of (gives.Distance _) = None
