-- What the steps over a tile come to, for a transform of n points.
use Rattle.std.proofs.Common.{◌≡◌, ℕ, ◌*◌, ◌<◌, ◌≤◌, List, length, ℤ, nat_abs, Some, Option, subst}
use Rattle.kinds.specs.declared.kind.Sort.{Sort}
use Rattle.kinds.specs.Meaning.{Differences}
use Rattle.laws.specs.Blocks.{Grid, cells, block, tile, row_by_row}
use Rattle.laws.specs.Widths.{then}
use Rattle.laws.specs.Transform.{Transform, coefficients, levels, reconstructed}
use Rattle.laws.specs.Transformed.{tile_levels, tile_residual}
use Rattle.laws.proofs.TileSteps.{residual_is, transformed_small, levels_written, round_trip_is}

-- a block as a tile, unless it was refused
abbrev pub written : (n : ℕ) → Option (List (List ℤ)) → Option (List ℤ)
written n o = then o (λ b. Some (row_by_row n (cells b)))

module _ (T : Transform) (n : ℕ) (points : T.points ≡ n) where
  -- the residual of levels that were read into the block r
  pub residual_at : (qp : ℕ) (ls : List ℤ) {r : List (List ℤ)} → r ≡ block n (tile n ls) → (o : Option (List (List ℤ))) → o ≡ reconstructed T qp r
      → tile_residual T qp ls ≡ written n o
  residual_at qp ls {r} read o e =
      subst (λ n. r ≡ block n (tile n ls) → tile_residual T qp ls ≡ written n o) points (λ read. residual_is T qp ls read o e) read

  -- a residual, read into the block r, transformed into w and quantised into a block
  module _ (residual : List ℤ) {r w : List (List ℤ)} (read : r ≡ block n (tile n residual)) (transformed : w ≡ block n (coefficients T (cells r))) where
    pub coefficients_at : (most : ℕ)
        → ((x : Grid) → ((i j : ℕ) → i < n → j < n → nat_abs (x i j) ≤ 255) → (i j : ℕ) → i < n → j < n → nat_abs (coefficients T x i j) ≤ most)
        → Differences residual → length residual ≡ T.points * T.points → (i j : ℕ) → i < n → j < n → nat_abs (cells w i j) ≤ most
    coefficients_at most small differences long =
        subst
        (λ n. r ≡ block n (tile n residual) → w ≡ block n (coefficients T (cells r))
        → ((x : Grid) → ((i j : ℕ) → i < n → j < n → nat_abs (x i j) ≤ 255) → (i j : ℕ) → i < n → j < n → nat_abs (coefficients T x i j) ≤ most)
        → (i j : ℕ) → i < n → j < n → nat_abs (cells w i j) ≤ most) points
        (λ read transformed small. transformed_small T residual read transformed most small differences long)
        read transformed small

    module _ (qp : ℕ) (sort : Sort) {coded : List (List ℤ)} (quantised : coded ≡ block n (levels T qp sort (cells w))) where
      pub levels_at : row_by_row n (cells coded) ≡ tile_levels T qp sort residual
      levels_at =
          subst
          (λ n. r ≡ block n (tile n residual) → w ≡ block n (coefficients T (cells r)) → coded ≡ block n (levels T qp sort (cells w))
          → row_by_row n (cells coded) ≡ tile_levels T qp sort residual) points
          (λ read transformed quantised. levels_written T residual read transformed qp sort quantised)
          read transformed quantised

      pub round_trip_at : (o : Option (List (List ℤ))) → o ≡ reconstructed T qp coded → tile_residual T qp (tile_levels T qp sort residual) ≡ written n o
      round_trip_at o e =
          subst
          (λ n. r ≡ block n (tile n residual) → w ≡ block n (coefficients T (cells r)) → coded ≡ block n (levels T qp sort (cells w))
          → tile_residual T qp (tile_levels T qp sort residual) ≡ written n o) points
          (λ read transformed quantised. round_trip_is T residual read transformed qp sort quantised o e)
          read transformed quantised
