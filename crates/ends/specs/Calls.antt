-- What each call of an end answers, and what it leaves: by its refusal, and by what its kind answers.
use Rattle.std.specs.Prelude.{ℕ, ◌+◌, List, ℤ, Some, None, Ok, Err, Option, Result}
use Rattle.kinds.specs.Meaning.{Meaning}
use Rattle.ends.specs.declared.camera.Camera.{Camera}
use Rattle.ends.specs.Tasks.{Task}
use Rattle.ends.specs.declared.coding.Coding.{Coding}
use Rattle.ends.specs.declared.coding.Heading.{Heading}
use Rattle.ends.specs.declared.end.End.{End}
use Rattle.ends.specs.declared.handset.Handset.{Handset}
use Rattle.ends.specs.declared.plane.Size.{Size}
use Rattle.ends.specs.declared.refusal.Refusal.{Refusal}
use Rattle.ends.specs.declared.refusal.Refusal.TheVariants.{Width}
use Rattle.ends.specs.Planes.{bytes, blank}
use Rattle.ends.specs.Tiles.{mode_of, code_levels, stored}
use Rattle.ends.specs.Refusals.{open_refusal, code_refusal, restart_refusal, follow_refusal, resume_refusal}

-- ---- open

abbrev pub end_of : Size → (count : ℕ) → End
end_of s count = record { size = s; count = count }

pub record Opened : Type 0 where
  pub answer : Result End Refusal
  pub plane : List ℕ

unfoldable pub opened : Size → (first : ℕ) → (plane : List ℕ) → Option Refusal → Opened
opened s first plane (Some r) = record { answer = Err r; plane = plane }
opened s first plane None = record { answer = Ok (end_of s first); plane = blank (bytes s) }

abbrev pub open_call : Size → (first : ℕ) → (plane : List ℕ) → Opened
open_call s first plane = opened s first plane (open_refusal s plane)

abbrev pub as_camera : Result End Refusal → Result Camera Refusal
as_camera (Ok e) = Ok (record { end = e })
as_camera (Err r) = Err r

abbrev pub as_handset : Result End Refusal → Result Handset Refusal
as_handset (Ok e) = Ok (record { end = e })
as_handset (Err r) = Err r

-- ---- code

-- a coding that has passed its rules, for an edge n
abbrev pub task_of : Size → (n : ℕ) → Coding → Task
task_of s n c = record { tile = record { size = s; x = c.x; y = c.y; edge = n }; mode = mode_of c.mode; qp = c.qp }

pub record Coded : Type 0 where
  pub answer : Result Heading Refusal
  pub end : End
  pub plane : List ℕ
  pub levels : List ℤ

unfoldable pub coded : Meaning → End → (plane : List ℕ) → Coding → (source : List ℕ) → (room : List ℤ) → Option Refusal → Option (List ℤ) → Coded
coded m e plane c source room (Some r) rebuilt = record { answer = Err r; end = e; plane = plane; levels = room }
coded m e plane c source room None None = record { answer = Err Width; end = e; plane = plane; levels = room }
coded m e plane c source room None (Some rebuilt) = record {
  answer = Ok (record { number = e.count; tag = m.tag; coding = c });
  end = end_of e.size (e.count + 1);
  plane = stored (task_of e.size m.edge c) plane (Some rebuilt);
  levels = code_levels m (task_of e.size m.edge c) plane source;
}

-- what the kind makes of the levels that it gave
abbrev pub code_rebuilt : Meaning → End → (plane : List ℕ) → Coding → (source : List ℕ) → Option (List ℤ)
code_rebuilt m e plane c source = m.reconstruction c.qp (code_levels m (task_of e.size m.edge c) plane source)

abbrev pub code_call : Meaning → End → (plane : List ℕ) → Coding → (source : List ℕ) → (room : List ℤ) → Coded
code_call m e plane c source room = coded m e plane c source room (code_refusal m e plane c source room) (code_rebuilt m e plane c source)

-- ---- restart, follow and resume

pub record Answered (A : Type 0) : Type 0 where
  pub answer : Result A Refusal
  pub end : End
  pub plane : List ℕ

-- a restart's heading: its number, and zeros
abbrev pub restart_heading : (number : ℕ) → Heading
restart_heading number = record { number = number; tag = 0; coding = record { x = 0; y = 0; qp = 0; mode = 0 } }

unfoldable pub restarted : End → (plane : List ℕ) → Option Refusal → Answered Heading
restarted e plane (Some r) = record { answer = Err r; end = e; plane = plane }
restarted e plane None = record { answer = Ok (restart_heading e.count); end = end_of e.size (e.count + 1); plane = blank (bytes e.size) }

abbrev pub restart_call : End → (plane : List ℕ) → Answered Heading
restart_call e plane = restarted e plane (restart_refusal e plane)

unfoldable pub followed : Meaning → End → (plane : List ℕ) → Heading → Option Refusal → Option (List ℤ) → Answered (Unit {0})
followed m e plane h (Some r) rebuilt = record { answer = Err r; end = e; plane = plane }
followed m e plane h None None = record { answer = Err Width; end = e; plane = plane }
followed m e plane h None (Some rebuilt) = record {
  answer = Ok tt;
  end = end_of e.size (e.count + 1);
  plane = stored (task_of e.size m.edge h.coding) plane (Some rebuilt);
}

abbrev pub follow_call : Meaning → End → (plane : List ℕ) → Heading → (levels : List ℤ) → Answered (Unit {0})
follow_call m e plane h levels = followed m e plane h (follow_refusal m e plane h levels) (m.reconstruction h.coding.qp levels)

unfoldable pub resumed : End → (plane : List ℕ) → Heading → Option Refusal → Answered (Unit {0})
resumed e plane h (Some r) = record { answer = Err r; end = e; plane = plane }
resumed e plane h None = record { answer = Ok tt; end = end_of e.size (h.number + 1); plane = blank (bytes e.size) }

abbrev pub resume_call : End → (plane : List ℕ) → Heading → Answered (Unit {0})
resume_call e plane h = resumed e plane h (resume_refusal e plane h)
