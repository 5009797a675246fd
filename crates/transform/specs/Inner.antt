-- What functions of a block or a line ask of their callers, and tell them.
use Rattle.std.specs.Prelude.{ℕ, ◌+◌, ◌*◌, ◌^◌, ◌<◌, ◌≤◌, List, ℤ, FitsSigned, unsigned_abs}
use Rattle.std.specs.Int.{w16}
use Rattle.laws.specs.Blocks.{at, row, cells}
use Rattle.transform.specs.Pattern.{pattern_at}

-- n numbers of 16 bits, and n lines of such numbers
abbrev pub ShortLine : (n : ℕ) → List ℤ → Type 0
ShortLine n line = (j : ℕ) → j < n → FitsSigned w16 (at line j)

abbrev pub Short : (n : ℕ) → List (List ℤ) → Type 0
Short n m = (i : ℕ) → i < n → ShortLine n (row m i)

-- n numbers, and n lines of numbers, each at most `most` in size
abbrev pub SizedLine : (n most : ℕ) → List ℤ → Type 0
SizedLine n most line = (j : ℕ) → j < n → unsigned_abs (at line j) ≤ most

abbrev pub Sized : (n most : ℕ) → List (List ℤ) → Type 0
Sized n most m = (i j : ℕ) → i < n → j < n → unsigned_abs (cells m i j) ≤ most

-- n numbers of row i whose levels have 16 bits
abbrev pub Room : (n : ℕ) → (multipliers : List (List ℕ)) (shift i : ℕ) → List ℤ → Type 0
Room n multipliers shift i line = (j : ℕ) → j < n → unsigned_abs (at line j) * pattern_at multipliers i j < 2 ^ (shift + 14)
