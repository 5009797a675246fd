-- Runs of a camera and a handset that were opened alike, and the law that holds after each.
use Rattle.std.specs.Prelude.{◌≡◌, ℕ, ◌+◌, ◌-◌, ◌<◌, ◌≤◌, Bool, true, false, cond, ◌&&◌, ◌⊎◌, List, [], ◌∷◌, ◌++◌, length, ℤ, is_ok, Some, None, Ok, Err, Option, Result, ◌==◌, nat_le, slice_index, slice_index_or}
use Rattle.std.specs.Option as options
use Rattle.kinds.specs.Meaning.{Meaning, Facts}
use Rattle.ends.specs.declared.coding.Coding.{Coding}
use Rattle.ends.specs.declared.coding.Heading.{Heading}
use Rattle.ends.specs.declared.end.End.{End}
use Rattle.ends.specs.declared.plane.Size.{Size}
use Rattle.ends.specs.declared.refusal.Refusal.{Refusal}
use Rattle.ends.specs.Planes.{bytes, sample, blank}
use Rattle.ends.specs.Tiles.{sort_of, covers, offset}
use Rattle.ends.specs.Calls.{end_of, task_of, code_call, restart_call, follow_call, resume_call}

-- ---- calls

-- A call on the camera (code, restart) or on the handset (follow, resume), with what it is handed beside its end and plane.
-- A kind stands here as its meaning, any meaning: the law is not about the kinds of this product alone.
pub data Call : Type 0 where
  code : Meaning → Coding → (source : List ℕ) → (room : List ℤ) → Call
  restart : Call
  follow : Meaning → Heading → (levels : List ℤ) → Call
  resume : Heading → Call

-- both ends, each with its plane
pub record Pair : Type 0 where
  pub camera : End
  pub camera_plane : List ℕ
  pub handset : End
  pub handset_plane : List ℕ

-- both as open leaves them
abbrev pub opened_alike : Size → (first : ℕ) → Pair
opened_alike s first = record {
  camera = end_of s first;
  camera_plane = blank (bytes s);
  handset = end_of s first;
  handset_plane = blank (bytes s);
}

-- the pair after one call
abbrev pub next : Call → Pair → Pair
next (code m c source room) p =
    let r = code_call m p.camera p.camera_plane c source room in
    record { camera = r.end; camera_plane = r.plane; handset = p.handset; handset_plane = p.handset_plane }
next restart p =
    let r = restart_call p.camera p.camera_plane in
    record { camera = r.end; camera_plane = r.plane; handset = p.handset; handset_plane = p.handset_plane }
next (follow m h levels) p =
    let r = follow_call m p.handset p.handset_plane h levels in
    record { camera = p.camera; camera_plane = p.camera_plane; handset = r.end; handset_plane = r.plane }
next (resume h) p =
    let r = resume_call p.handset p.handset_plane h in
    record { camera = p.camera; camera_plane = p.camera_plane; handset = r.end; handset_plane = r.plane }

-- the call is not refused
abbrev pub taken : Call → Pair → Bool
taken (code m c source room) p = is_ok (code_call m p.camera p.camera_plane c source room).answer
taken restart p = is_ok (restart_call p.camera p.camera_plane).answer
taken (follow m h levels) p = is_ok (follow_call m p.handset p.handset_plane h levels).answer
taken (resume h) p = is_ok (resume_call p.handset p.handset_plane h).answer

abbrev pub by_camera : Call → Bool
by_camera (code m c source room) = true
by_camera restart = true
by_camera (follow m h levels) = false
by_camera (resume h) = false

-- ---- what the camera gives out

-- a unit, with the kind that coded it, or the heading of a restart
pub data Given : Type 0 where
  unit : Meaning → Heading → (levels : List ℤ) → Given
  mark : Heading → Given

abbrev pub unit_of : Meaning → (levels : List ℤ) → Result Heading Refusal → List Given
unit_of m levels (Ok h) = unit m h levels ∷ []
unit_of m levels (Err r) = []

abbrev pub mark_of : Result Heading Refusal → List Given
mark_of (Ok h) = mark h ∷ []
mark_of (Err r) = []

-- what one call has the camera give out: for a taken code the heading with the levels that code left, for a taken restart the heading
abbrev pub gives : Call → Pair → List Given
gives (code m c source room) p = let r = code_call m p.camera p.camera_plane c source room in unit_of m r.levels r.answer
gives restart p = mark_of (restart_call p.camera p.camera_plane).answer
gives (follow m h levels) p = []
gives (resume h) p = []

-- ---- runs

-- A run is a list of calls on a pair, the newest call first; refused calls are in it too.
-- the pair after the run
abbrev pub after : Pair → List Call → Pair
after p [] = p
after p (c ∷ cs) = next c (after p cs)

-- all that the camera has given out
abbrev pub given : Pair → List Call → List Given
given p [] = []
given p (c ∷ cs) = gives c (after p cs) ++ given p cs

-- the camera's planes after the first 0, 1, 2, .. of its taken calls
abbrev pub planes : Pair → List Call → List (List ℕ)
planes p [] = p.camera_plane ∷ []
planes p (c ∷ cs) = planes p cs ++ cond (by_camera c && taken c (after p cs)) ((next c (after p cs)).camera_plane ∷ []) []

-- the plane that the camera held at a count: the one after the first (count less first count) of its taken calls
abbrev pub held_at : Pair → List Call → (count : ℕ) → List ℕ
held_at p cs count = slice_index_or (planes p cs) (count - p.camera.count) []

-- What a taken call makes of the last coding at a place: the source sample coded there, with that coding's distance.
-- A code covers the places of its tile; a restart forgets every coding.
abbrev pub coded_by : Size → Call → (col row : ℕ) → Option (ℕ × ℕ) → Option (ℕ × ℕ)
coded_by s (code m c source room) col row before =
    let t = task_of s m.edge c in
    cond (covers t.tile col row) (Some (slice_index source (offset t.tile col row), m.distance t.qp (sort_of t.mode))) before
coded_by s restart col row before = None
coded_by s (follow m h levels) col row before = before
coded_by s (resume h) col row before = before

-- the source sample last coded at a place, since opening or the latest restart, with its coding's distance
abbrev pub last_coded : Pair → List Call → (col row : ℕ) → Option (ℕ × ℕ)
last_coded p [] col row = None
last_coded p (c ∷ cs) col row =
    let before = last_coded p cs col row in
    cond (taken c (after p cs)) (coded_by p.camera.size c col row before) before

-- ---- proper runs

abbrev pub Among : Given → List Given → Type 0
Among g [] = ⊥
Among g (x ∷ xs) = (g ≡ x) ⊎ Among g xs

-- Kinds show their facts, a source is made of bytes, and the handset is handed only what the camera has given out:
-- lost, late, doubled or out of order, but unchanged, and a unit under the kind that coded it.
abbrev pub ProperCall : Call → (out : List Given) → Type 0
ProperCall (code m c source room) out = Facts m × ((k : ℕ) → slice_index source k < 256)
ProperCall restart out = Unit {0}
ProperCall (follow m h levels) out = Among (unit m h levels) out
ProperCall (resume h) out = Among (mark h) out

abbrev pub Proper : Pair → List Call → Type 0
Proper p [] = Unit {0}
Proper p (c ∷ cs) = Proper p cs × ProperCall c (given p cs)

-- ---- the law

-- Agreement: the handset holds what the camera held at the handset's count.
pub record Agreement (s : Size) (start : Pair) (calls : List Call) : Type 0 where
  -- the camera has held a plane at each count from the first to its own, and the handset's count is one of these
  pub counted : start.camera.count + length (planes start calls) ≡ (after start calls).camera.count + 1
  pub not_before : start.camera.count ≤ (after start calls).handset.count
  pub not_past : (after start calls).handset.count ≤ (after start calls).camera.count
  -- each handset sample is the one that the camera held there at the handset's count
  pub same : (col row : ℕ) → col < s.width → row < s.height
      → sample s (after start calls).handset_plane col row ≡ sample s (held_at start calls (after start calls).handset.count) col row
  -- a unit given out is taken next exactly when its number is the handset's count, a restart exactly when it is that or above
  pub units : (m : Meaning) (h : Heading) (levels : List ℤ) → Among (unit m h levels) (given start calls)
      → taken (follow m h levels) (after start calls) ≡ (h.number == (after start calls).handset.count)
  pub marks : (h : Heading) → Among (mark h) (given start calls)
      → taken (resume h) (after start calls) ≡ nat_le (after start calls).handset.count h.number

-- Error limit: each camera sample is near the source sample last coded there, and 128 where none was.
abbrev pub ErrorLimit : Size → (start : Pair) → List Call → Type 0
ErrorLimit s start calls = (col row : ℕ) → col < s.width → row < s.height
    → let v = sample s (after start calls).camera_plane col row in
    options.MatchOption (last_coded start calls col row) (v ≡ 128) (λ c. (v ≤ c.0 + c.1) × (c.0 ≤ v + c.1))

-- after every proper run of a camera and a handset that were opened alike
abbrev pub RunLaw : Size → (first : ℕ) → Type 0
RunLaw s first = (calls : List Call) → Proper (opened_alike s first) calls → Agreement s (opened_alike s first) calls × ErrorLimit s (opened_alike s first) calls
