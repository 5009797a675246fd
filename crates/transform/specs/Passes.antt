-- The passes over a block, each over its columns.
use Rattle.std.specs.Prelude.{ℕ, List, ℤ, Some, Option}
use Rattle.laws.specs.Blocks.{from, column, transposed, dot}
use Rattle.laws.specs.Widths.{then, all}
use Rattle.laws.specs.Transform.{Transform}

-- C times each column, as a row: done twice, that puts each row in its place again
abbrev pub products : Transform → List (List ℤ) → List (List ℤ)
products T x = from (λ j. from (λ i. dot (T.forward i) (column T.points x j)) 0 T.points) 0 T.points

-- every column passed, in its place, where a result may be as large as `most`
abbrev pub passed : Transform → (most : ℤ) → List (List ℤ) → Option (List (List ℤ))
passed T most m = then (all (from (λ j. T.pass most (column T.points m j)) 0 T.points)) (λ c. Some (transposed T.points c))

-- f of each column, in its place
abbrev pub on_columns : (n : ℕ) → (List ℤ → List ℤ) → List (List ℤ) → List (List ℤ)
on_columns n f m = transposed n (from (λ j. f (column n m j)) 0 n)
