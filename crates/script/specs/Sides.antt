-- What a call of an end answers through the script, and what it leaves: by the call itself.
use Rattle.std.specs.Prelude.{ℕ, List, [], ◌∷◌, ◌++◌, Ok, Err, vec_items, Option, Result}
use Rattle.ends.specs.declared.coding.Coding.{Coding}
use Rattle.ends.specs.declared.coding.Heading.{Heading}
use Rattle.ends.specs.declared.refusal.Refusal.{Refusal}
use Rattle.ends.specs.Calls.{Answered, restart_call, follow_call, resume_call}
use Rattle.script.specs.declared.answer.Answer.{Answer}
use Rattle.script.specs.declared.answer.Answer.TheVariants as gives
use Rattle.script.specs.declared.camera_side.Given.{Given}
use Rattle.script.specs.declared.camera_side.Given.TheVariants as given
use Rattle.script.specs.declared.command.Unit.{Unit as CodedUnit}
use Rattle.script.specs.declared.handset_side.HandsetSide.{HandsetSide}
use Rattle.script.specs.declared.memory.Settings.{Settings}
use Rattle.script.specs.declared.undone.Undone.{Undone}
use Rattle.script.specs.declared.undone.Undone.TheVariants.{Refused}
use Rattle.script.specs.CameraState.{CameraState}
use Rattle.script.specs.Kinds.{meaning_of}
use Rattle.script.specs.Memory.{memory_of, written}

-- ---- the camera

abbrev pub restart_of : CameraState → Settings → Answered Heading
restart_of s settings = restart_call s.camera.end (memory_of s.plane settings.camera)

abbrev pub restart_answer : (index : ℕ) → Result Heading Refusal → Result Answer Undone
restart_answer index (Ok heading) = Ok (gives.Restart index heading.number)
restart_answer index (Err refusal) = Err (Refused refusal)

-- what was given out, with one restart more where the call made it
abbrev pub given_after : List Given → Result Heading Refusal → List Given
given_after before (Ok heading) = before ++ given.Restart heading ∷ []
given_after before (Err _) = before

abbrev pub restart_after : CameraState → Answered Heading → CameraState
restart_after s call = record {
  camera = record { end = call.end };
  plane = written s.plane call.plane;
  given = given_after s.given call.answer;
}

-- ---- the handset

abbrev pub follow_of : HandsetSide → Settings → CodedUnit → Answered (Unit {0})
follow_of s settings unit = follow_call (meaning_of unit.kind) s.handset.end (memory_of s.plane settings.handset) unit.heading (vec_items unit.levels)

abbrev pub resume_of : HandsetSide → Settings → Heading → Answered (Unit {0})
resume_of s settings heading = resume_call s.handset.end (memory_of s.plane settings.handset) heading

-- `taken` with the new count, or the refusal
abbrev pub taken_or_refused : Result (Unit {0}) Refusal → (count : ℕ) → Result Answer Undone
taken_or_refused (Ok _) count = Ok (gives.Taken count)
taken_or_refused (Err refusal) count = Err (Refused refusal)

abbrev pub taken : Answered (Unit {0}) → Result Answer Undone
taken call = taken_or_refused call.answer call.end.count

-- the last tile is the new one where the call was taken
abbrev pub last_tile : Result (Unit {0}) Refusal → (new old : Option Coding) → Option Coding
last_tile (Ok _) new old = new
last_tile (Err _) new old = old

abbrev pub handset_after : HandsetSide → Answered (Unit {0}) → (new : Option Coding) → HandsetSide
handset_after s call new = record {
  handset = record { end = call.end };
  plane = written s.plane call.plane;
  last = last_tile call.answer new s.last;
}
