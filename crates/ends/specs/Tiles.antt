-- A tile of a plane: its prediction, its residual, and the plane with the tile stored. Lists run row by row over the tile.
use Rattle.std.specs.Prelude.{ℕ, ◌+◌, ◌-◌, ◌*◌, ◌/◌, ◌%◌, min, Bool, cond, ◌&&◌, List, map, length, ℤ, pos, negsuc, ◌+ℤ◌, ◌-ℤ◌, Some, None, Option, ◌==◌, nat_le, nat_lt, slice_index, slice_index_or}
use Rattle.std.specs.List.{range_with_len}
use Rattle.kinds.specs.Meaning.{Meaning}
use Rattle.kinds.specs.declared.kind.Sort.{Sort}
use Rattle.kinds.specs.declared.kind.Sort.TheVariants.{Intra, Inter}
use Rattle.ends.specs.declared.mode.Mode.{Mode}
use Rattle.ends.specs.declared.mode.Mode.TheVariants.{Colocated, Vertical, Horizontal, Mean}
use Rattle.ends.specs.Tasks.{Tile, Task}
use Rattle.ends.specs.Planes.{sample, column, row, row_sum, column_sum}

-- ---- prediction

-- the mode of a number up to 3
abbrev pub mode_of : (number : ℕ) → Mode
mode_of number = cond (number == 0) Colocated (cond (number == 1) Vertical (cond (number == 2) Horizontal Mean))

abbrev pub sort_of : Mode → Sort
sort_of Colocated = Inter
sort_of Vertical = Intra
sort_of Horizontal = Intra
sort_of Mean = Intra

-- the sum of the samples just above the tile, and of those just left of it
abbrev pub above : Tile → List ℕ → ℕ
above t plane = row_sum t.size plane t.x (t.y - 1) t.edge

abbrev pub left : Tile → List ℕ → ℕ
left t plane = column_sum t.size plane (t.x - 1) t.y t.edge

-- the rounded mean of the samples above and left, as far as they lie in the plane, and 128 where none do
unfoldable pub mean : Tile → List ℕ → ℕ
mean t plane =
    let n = t.edge in
    cond (t.y == 0)
    (cond (t.x == 0) 128 ((left t plane + n / 2) / n))
    (cond (t.x == 0) ((above t plane + n / 2) / n) ((above t plane + left t plane + n) / (2 * n)))

-- what a mode predicts for column j and row i of the tile
abbrev pub predicted : Mode → Tile → List ℕ → (j i : ℕ) → ℕ
predicted Colocated t plane j i = sample t.size plane (t.x + j) (t.y + i)
predicted Vertical t plane j i = sample t.size plane (t.x + j) (t.y - 1)
predicted Horizontal t plane j i = sample t.size plane (t.x - 1) (t.y + i)
predicted Mean t plane j i = mean t plane

unfoldable pub prediction : Mode → Tile → List ℕ → List ℕ
prediction mode t plane = map (λ k. predicted mode t plane (k % t.edge) (k / t.edge)) (range_with_len 0 (t.edge * t.edge))

-- ---- residual and reconstruction

-- source less prediction
unfoldable pub residual : (source pred : List ℕ) → List ℤ
residual source pred = map (λ k. pos (slice_index source k) -ℤ pos (slice_index pred k)) (range_with_len 0 (length pred))

-- held to 0..255
abbrev pub clip : ℤ → ℕ
clip (pos n) = min n 255
clip (negsuc n) = 0

-- prediction plus reconstructed residual
unfoldable pub reconstructed : (pred : List ℕ) (rebuilt : List ℤ) → List ℕ
reconstructed pred rebuilt = map (λ k. clip (pos (slice_index pred k) +ℤ slice_index_or rebuilt k (pos 0))) (range_with_len 0 (length pred))

-- ---- the plane with the tile stored

-- the tile covers the column and the row
abbrev pub covers : Tile → (col row : ℕ) → Bool
covers t col row = (nat_le t.x col && nat_lt col (t.x + t.edge)) && (nat_le t.y row && nat_lt row (t.y + t.edge))

-- where the sample of a column and a row stands in the tile
abbrev pub offset : Tile → (col row : ℕ) → ℕ
offset t col row = (row - t.y) * t.edge + (col - t.x)

-- covered samples are the tile's, the others as they were
unfoldable pub with_tile : Tile → (samples plane : List ℕ) → List ℕ
with_tile t samples plane =
    map (λ k. let col = column t.size k in let r = row t.size k in cond (covers t col r) (slice_index samples (offset t col r)) (slice_index plane k))
    (range_with_len 0 (length plane))

-- ---- a task: a tile with its mode and QP

-- the levels that a kind gives for the tile
abbrev pub code_levels : Meaning → Task → (plane source : List ℕ) → List ℤ
code_levels m t plane source = m.levels t.qp (sort_of t.mode) (residual source (prediction t.mode t.tile plane))

-- the plane once the tile's residual was rebuilt, or its levels were refused
abbrev pub stored : Task → (plane : List ℕ) → Option (List ℤ) → List ℕ
stored t plane None = plane
stored t plane (Some rebuilt) = with_tile t.tile (reconstructed (prediction t.mode t.tile plane) rebuilt) plane
