-- When a call says no: its rules in their order, of which the first that fits decides.
use Rattle.std.specs.Prelude.{ℕ, ◌+◌, ◌%◌, Bool, cond, not, ◌&&◌, ◌||◌, List, [], ◌∷◌, length, ℤ, Some, None, Option, ◌==◌, nat_lt}
use Rattle.kinds.specs.Meaning.{Meaning, area}
use Rattle.ends.specs.declared.coding.Coding.{Coding}
use Rattle.ends.specs.declared.coding.Heading.{Heading}
use Rattle.ends.specs.declared.end.End.{End}
use Rattle.ends.specs.declared.plane.Size.{Size}
use Rattle.ends.specs.declared.refusal.Refusal.{Refusal}
use Rattle.ends.specs.declared.refusal.Refusal.TheVariants as no
use Rattle.ends.specs.Planes.{bytes}

abbrev pub number_of : Refusal → ℕ
number_of no.Size = 1
number_of no.Plane = 2
number_of no.Count = 3
number_of no.Tag = 4
number_of no.Late = 5
number_of no.Early = 6
number_of no.Qp = 7
number_of no.Mode = 8
number_of no.Place = 9
number_of no.Length = 10
number_of no.Border = 11
number_of no.Width = 12

-- a rule: a test, and the refusal where it holds
abbrev pub Rules : Type 0
Rules = List (Bool × Refusal)

abbrev pub first_of : Rules → Option Refusal
first_of [] = None
first_of (rule ∷ rules) = cond rule.0 (Some rule.1) (first_of rules)

-- ---- tests

-- no multiple of 16 from 16 to 1024
abbrev pub bad_side : ℕ → Bool
bad_side side = not (side % 16 == 0) || (nat_lt side 16 || nat_lt 1024 side)

abbrev pub bad_plane : Size → (n : ℕ) → Bool
bad_plane s n = not (n == bytes s)

-- the largest count, which no unit and no restart has
abbrev pub spent : ℕ → Bool
spent count = count == 4294967295

abbrev pub bad_place : Size → (n x y : ℕ) → Bool
bad_place s n x y = (not (x % n == 0) || not (y % n == 0)) || (nat_lt s.width (x + n) || nat_lt s.height (y + n))

abbrev pub no_border : (mode x y : ℕ) → Bool
no_border mode x y = (mode == 1 && y == 0) || (mode == 2 && x == 0)

-- ---- rules, in their order

-- those that code and follow share, for an edge n
abbrev pub tile_rules : Size → (n : ℕ) → Coding → (miscounted : Bool) → Rules
tile_rules s n c miscounted = (
    (nat_lt 51 c.qp, no.Qp)
    ∷ (nat_lt 3 c.mode, no.Mode)
    ∷ (bad_place s n c.x c.y, no.Place)
    ∷ (miscounted, no.Length)
    ∷ (no_border c.mode c.x c.y, no.Border)
    ∷ [])

abbrev pub open_rules : Size → (plane : List ℕ) → Rules
open_rules s plane = ((bad_side s.width || bad_side s.height, no.Size) ∷ (bad_plane s (length plane), no.Plane) ∷ [])

abbrev pub code_rules : Meaning → End → (plane : List ℕ) → Coding → (source : List ℕ) → (room : List ℤ) → Rules
code_rules m e plane c source room = (
    (bad_plane e.size (length plane), no.Plane)
    ∷ (spent e.count, no.Count)
    ∷ tile_rules e.size m.edge c (not (length source == area m) || not (length room == area m)))

abbrev pub restart_rules : End → (plane : List ℕ) → Rules
restart_rules e plane = ((bad_plane e.size (length plane), no.Plane) ∷ (spent e.count, no.Count) ∷ [])

abbrev pub follow_rules : Meaning → End → (plane : List ℕ) → Heading → (levels : List ℤ) → Rules
follow_rules m e plane h levels = (
    (bad_plane e.size (length plane), no.Plane)
    ∷ (spent h.number, no.Count)
    ∷ (not (h.tag == m.tag), no.Tag)
    ∷ (nat_lt h.number e.count, no.Late)
    ∷ (nat_lt e.count h.number, no.Early)
    ∷ tile_rules e.size m.edge h.coding (not (length levels == area m)))

abbrev pub resume_rules : End → (plane : List ℕ) → Heading → Rules
resume_rules e plane h = (
    (bad_plane e.size (length plane), no.Plane)
    ∷ (spent h.number, no.Count)
    ∷ (not (h.tag == 0), no.Tag)
    ∷ (nat_lt h.number e.count, no.Late)
    ∷ [])

-- ---- the first that fits

abbrev pub open_refusal : Size → (plane : List ℕ) → Option Refusal
open_refusal s plane = first_of (open_rules s plane)

abbrev pub code_refusal : Meaning → End → (plane : List ℕ) → Coding → (source : List ℕ) → (room : List ℤ) → Option Refusal
code_refusal m e plane c source room = first_of (code_rules m e plane c source room)

abbrev pub restart_refusal : End → (plane : List ℕ) → Option Refusal
restart_refusal e plane = first_of (restart_rules e plane)

abbrev pub follow_refusal : Meaning → End → (plane : List ℕ) → Heading → (levels : List ℤ) → Option Refusal
follow_refusal m e plane h levels = first_of (follow_rules m e plane h levels)

abbrev pub resume_refusal : End → (plane : List ℕ) → Heading → Option Refusal
resume_refusal e plane h = first_of (resume_rules e plane h)
