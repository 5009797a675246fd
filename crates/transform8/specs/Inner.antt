-- What inner functions ask of their callers and tell them: sizes of lines, sums of a line, numbers by class.
use Rattle.std.specs.Prelude.{ℕ, ◌-◌, ◌*◌, ◌^◌, ◌≤◌, List, [], ◌∷◌, ℤ, ◌+ℤ◌, ◌-ℤ◌, slice_index, unsigned_abs}
use Rattle.laws.specs.Blocks.{at, from, dot}
use Rattle.laws.specs.Eight.{forward8}

abbrev pub Each : (ℕ → Type 0) → Type 0
Each P = P 0 × P 1 × P 2 × P 3 × P 4 × P 5 × P 6 × P 7

-- eight numbers, each at most n in size
abbrev pub Sized8 : ℕ → List ℤ → Type 0
Sized8 n d = Each (λ i. unsigned_abs (at d i) ≤ n)

-- four numbers, each at most n in size
abbrev pub Sized4 : ℕ → List ℤ → Type 0
Sized4 n d = (unsigned_abs (at d 0) ≤ n) × (unsigned_abs (at d 1) ≤ n) × (unsigned_abs (at d 2) ≤ n) × (unsigned_abs (at d 3) ≤ n)

-- the sums and the differences of opposite inputs
abbrev pub mirror_sums : List ℤ → List ℤ
mirror_sums x = (at x 0 +ℤ at x 7) ∷ (at x 1 +ℤ at x 6) ∷ (at x 2 +ℤ at x 5) ∷ (at x 3 +ℤ at x 4) ∷ []

abbrev pub mirror_differences : List ℤ → List ℤ
mirror_differences x = (at x 0 -ℤ at x 7) ∷ (at x 1 -ℤ at x 6) ∷ (at x 2 -ℤ at x 5) ∷ (at x 3 -ℤ at x 4) ∷ []

-- C times a line
abbrev pub forward_line : List ℤ → List ℤ
forward_line x = from (λ i. dot (forward8 i) (from (at x) 0 8)) 0 8

-- numbers by class, by place
abbrev pub pattern : (aa bb cc ab ac bc : ℕ) → List (List ℕ)
pattern aa bb cc ab ac bc =
    let a = aa ∷ ab ∷ ac ∷ ab ∷ [] in let b = ab ∷ bb ∷ bc ∷ bb ∷ [] in let c = ac ∷ bc ∷ cc ∷ bc ∷ [] in
    a ∷ b ∷ c ∷ b ∷ []

-- six numbers, each at most n
abbrev pub Below6 : ℕ → List ℕ → Type 0
Below6 n r = (slice_index r 0 ≤ n) × (slice_index r 1 ≤ n) × (slice_index r 2 ≤ n) × (slice_index r 3 ≤ n) × (slice_index r 4 ≤ n) × (slice_index r 5 ≤ n)

-- what a level is multiplied by in rescaling, for a factor and QP / 6
abbrev pub step : (factor k : ℕ) → ℕ
step factor k = 16 * factor * 2 ^ (k - 6)
