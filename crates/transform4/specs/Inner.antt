-- What inner functions tell their callers: numbers by class.
use Rattle.std.specs.Prelude.{ℕ, ◌≤◌, List, [], ◌∷◌, slice_index}

-- numbers for places with both indices even, both odd, and the rest, by place
abbrev pub pattern : (even odd mixed : ℕ) → List (List ℕ)
pattern even odd mixed =
    let outer = even ∷ mixed ∷ even ∷ mixed ∷ [] in let inner = mixed ∷ odd ∷ mixed ∷ odd ∷ [] in
    outer ∷ inner ∷ outer ∷ inner ∷ []

-- three numbers, each at most n
abbrev pub Below3 : ℕ → List ℕ → Type 0
Below3 n r = (slice_index r 0 ≤ n) × (slice_index r 1 ≤ n) × (slice_index r 2 ≤ n)
