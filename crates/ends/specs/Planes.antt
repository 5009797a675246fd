-- A plane: the samples of a picture, one byte each.
use Rattle.std.specs.Prelude.{ℕ, ◌+◌, ◌*◌, ◌/◌, ◌%◌, List, map, replicate, sum, slice_index}
use Rattle.std.specs.List.{range_with_len}
use Rattle.ends.specs.declared.plane.Size.{Size}

-- the number of bytes of a plane
abbrev pub bytes : Size → ℕ
bytes s = s.width * s.height

-- The layout, row by row: where the sample of a column and a row stands, and the column and the row of what stands at k.
abbrev pub index : Size → (col row : ℕ) → ℕ
index s col row = row * s.width + col

abbrev pub column : Size → (k : ℕ) → ℕ
column s k = k % s.width

abbrev pub row : Size → (k : ℕ) → ℕ
row s k = k / s.width

-- the sample of a column and a row
abbrev pub sample : Size → List ℕ → (col row : ℕ) → ℕ
sample s plane col row = slice_index plane (index s col row)

-- every sample is 128
abbrev pub blank : (n : ℕ) → List ℕ
blank n = replicate n 128

-- the sum of count samples from (x, y) on, to the right, and downwards
unfoldable pub row_sum : Size → List ℕ → (x y count : ℕ) → ℕ
row_sum s plane x y count = sum (map (λ j. sample s plane (x + j) y) (range_with_len 0 count))

unfoldable pub column_sum : Size → List ℕ → (x y count : ℕ) → ℕ
column_sum s plane x y count = sum (map (λ i. sample s plane x (y + i)) (range_with_len 0 count))
