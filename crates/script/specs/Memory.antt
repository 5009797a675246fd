-- How much memory a call is handed, what stands in it, and what the plane is afterwards.
use Rattle.std.specs.Prelude.{◌≡◌, ℕ, ◌-◌, List, ◌++◌, length, replicate, take, drop}
use denote.Param.Members.{Once}
use denote.Ref.{MutBor}
use Rattle.script.specs.declared.command.Amount.{Amount}
use Rattle.script.specs.declared.command.Amount.TheVariants.{All, Exactly}

-- the number that is handed, where the call asks for all
abbrev pub handed : Amount → (all : ℕ) → ℕ
handed All all = all
handed (Exactly number) all = number

-- a plane, with zero bytes behind it up to `bytes` of them
abbrev pub padded : (plane : List ℕ) → (bytes : ℕ) → List ℕ
padded plane bytes = plane ++ replicate (bytes - length plane) 0

-- the bytes that an end is handed: the first of its plane, with zero bytes behind it where it is shorter
abbrev pub memory_of : (plane : List ℕ) → Amount → List ℕ
memory_of plane amount = take (handed amount (length plane)) (padded plane (handed amount (length plane)))

-- a plane, once a call has left `back` in the memory that it was handed
abbrev pub written : (plane back : List ℕ) → List ℕ
written plane back = take (length plane) (back ++ drop (length back) plane)

-- the call of f, lent the end e and memory, may answer r, and leave e' and `back` there
pub record LentTo {F E R : Type 0} (g : Once F (MutBor E × (MutBor (List ℕ) × Unit {0})) (R × (MutBor E × (MutBor (List ℕ) × Unit {0})))) (f : F) (e : E) (memory : List ℕ) (r : R) (e' : E) (back : List ℕ) : Type 0 where
  pub end : MutBor E
  pub is_end : end.now ≡ e
  pub bytes : MutBor (List ℕ)
  pub is_memory : bytes.now ≡ memory
  pub end_left : MutBor E
  pub bytes_left : MutBor (List ℕ)
  pub met : g.post f (end, (bytes, tt)) (r, (end_left, (bytes_left, tt)))
  pub leaves_end : end_left.now ≡ e'
  pub leaves_bytes : bytes_left.now ≡ back
