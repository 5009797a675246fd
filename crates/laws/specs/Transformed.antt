-- The kinds whose tile is one block of a transform.
use Rattle.std.specs.Prelude.{ℕ, List, ℤ, Some, Option}
use Rattle.kinds.specs.declared.kind.Sort.{Sort}
use Rattle.laws.specs.Blocks.{cells, block, tile, row_by_row}
use Rattle.laws.specs.Widths.{then}
use Rattle.laws.specs.Transform.{Transform, coefficients, levels, reconstructed}
use Rattle.laws.specs.Four.{four, distance4}
use Rattle.laws.specs.Eight.{eight, distance8}
use Rattle.kinds.specs.Meaning.{Meaning}

-- the levels of a tile's residual
unfoldable pub tile_levels : Transform → (qp : ℕ) → Sort → List ℤ → List ℤ
tile_levels T qp sort residual = row_by_row T.points (levels T qp sort (coefficients T (tile T.points residual)))

-- the residual of a tile's levels, or a refusal
unfoldable pub tile_residual : Transform → (qp : ℕ) → List ℤ → Option (List ℤ)
tile_residual T qp ls = then (reconstructed T qp (block T.points (tile T.points ls))) (λ r. Some (row_by_row T.points (cells r)))

-- the kind of a transform, by its tag and its distance
abbrev pub block_kind : Transform → (tag : ℕ) → (distance : ℕ → Sort → ℕ) → Meaning
block_kind T tag distance = record { edge = T.points; tag = tag; levels = tile_levels T; reconstruction = tile_residual T; distance = distance }

abbrev pub p4 : Meaning
p4 = block_kind four 1 distance4

abbrev pub p8 : Meaning
p8 = block_kind eight 2 distance8
