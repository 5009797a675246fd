-- Columns of blocks of any elements, with an element for places that a block doesn't have.
use Rattle.std.specs.Prelude.{ℕ, List, [], slice_index_or}
use Rattle.laws.specs.Blocks.{from}

abbrev pub cell_or : {A : Type 0} → A → List (List A) → (i j : ℕ) → A
cell_or d m i j = slice_index_or (slice_index_or m i []) j d

abbrev pub column_or : {A : Type 0} → A → (n : ℕ) → List (List A) → (j : ℕ) → List A
column_or d n m j = from (λ i. cell_or d m i j) 0 n
