-- Blocks of numbers: lists of rows where they are held, functions of row and column in formulas.
use Rattle.std.specs.Prelude.{ℕ, zero, suc, ◌+◌, ◌*◌, ◌/◌, ◌%◌, List, [], ◌∷◌, ℤ, pos, ◌+ℤ◌, ◌*ℤ◌, slice_index_or}

-- a number for each row and column
abbrev pub Grid : Type 0
Grid = ℕ → ℕ → ℤ

abbrev pub at : List ℤ → ℕ → ℤ
at line j = slice_index_or line j (pos 0)

abbrev pub row : List (List ℤ) → ℕ → List ℤ
row block i = slice_index_or block i []

abbrev pub cells : List (List ℤ) → Grid
cells block i j = at (row block i) j

-- f i, f (i + 1), .. : n of them
abbrev pub from : {A : Type 0} → (ℕ → A) → (i n : ℕ) → List A
from f i zero = []
from f i (suc n) = f i ∷ from f (suc i) n

-- the n by n numbers of a grid, as rows
abbrev pub block : ℕ → Grid → List (List ℤ)
block n grid = from (λ i. from (grid i) 0 n) 0 n

-- column j of a block of n rows
abbrev pub column : ℕ → List (List ℤ) → ℕ → List ℤ
column n b j = from (λ i. cells b i j) 0 n

-- rows and columns exchanged
abbrev pub transposed : ℕ → List (List ℤ) → List (List ℤ)
transposed n b = from (column n b) 0 n

-- the sum of the products, place by place
abbrev pub dot : List ℤ → List ℤ → ℤ
dot [] ys = pos 0
dot (c ∷ cs) [] = pos 0
dot (c ∷ cs) (y ∷ ys) = c *ℤ y +ℤ dot cs ys

-- a tile of edge n, given as a list that runs row by row
abbrev pub tile : ℕ → List ℤ → Grid
tile n xs i j = at xs (n * i + j)

-- the same list back
abbrev pub row_by_row : ℕ → Grid → List ℤ
row_by_row n grid = from (λ t. grid (t / n) (t % n)) 0 (n * n)
