-- Numbers by the class of their place: the classes of both transforms repeat after four rows and four columns.
use Rattle.std.specs.Prelude.{ℕ, ◌%◌, ◌^◌, ◌≤◌, List, [], ℤ, pos, ◌+ℤ◌, ◌*ℤ◌, slice_index, slice_index_or}
use Rattle.std.specs.Int.Signed.{shr_z}

-- the number of row i and column j
abbrev pub pattern_at : List (List ℕ) → (i j : ℕ) → ℕ
pattern_at p i j = slice_index (slice_index_or p (i % 4) []) (j % 4)

-- none of them is larger than `most`
abbrev pub AtMost : (most : ℕ) → List (List ℕ) → Type 0
AtMost most p = (i j : ℕ) → pattern_at p i j ≤ most

-- a level times its step, plus `half`, shifted to the right
abbrev pub stepped : (steps : List (List ℕ)) (half shift : ℕ) → (i j : ℕ) → ℤ → ℤ
stepped steps half shift i j level = shr_z (level *ℤ pos (pattern_at steps i j) +ℤ pos half) (2 ^ shift)
