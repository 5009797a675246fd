-- What the steps over a block come to for a tile: they read a block only at its own places.
use Rattle.std.proofs.Common.{◌≡◌, ℕ, ◌*◌, ◌/◌, ◌%◌, ◌<◌, ◌≤◌, length, List, ℤ, nat_abs, Some, Option, sym, ap, ◌∙◌, subst}
use Rattle.kinds.specs.declared.kind.Sort.{Sort}
use Rattle.kinds.specs.Meaning.{Differences}
use Rattle.laws.specs.Blocks.{Grid, cells, block, dot, tile, row_by_row}
use Rattle.laws.specs.Widths.{then}
use Rattle.laws.specs.Transform.{Transform, half_product, coefficients, levels, reconstructed}
use Rattle.laws.specs.Transformed.{tile_levels, tile_residual}
use Rattle.laws.proofs.Lists.{from_same, block_same, cells_block}
use Rattle.laws.proofs.Places.{some_row, place_row, place_column, tile_row_by_row, tile_small}

module _ (T : Transform) where
  abbrev n : ℕ
  n = T.points

  pub coefficients_same : (x y : Grid) → ((i j : ℕ) → i < n → j < n → x i j ≡ y i j) → (i j : ℕ) → i < n → j < n → coefficients T x i j ≡ coefficients T y i j
  coefficients_same x y same i j hi hj =
      ap (dot (T.forward j)) (from_same (half_product T x i) (half_product T y i) n
      (λ q hq. ap (dot (T.forward i)) (from_same (λ p. x p q) (λ p. y p q) n (λ p hp. same p q hp hq))))

  -- the residual of levels that were read into a block
  pub residual_is : (qp : ℕ) (ls : List ℤ) {b : List (List ℤ)} → b ≡ block n (tile n ls) → (o : Option (List (List ℤ))) → o ≡ reconstructed T qp b
      → tile_residual T qp ls ≡ then o (λ r. Some (row_by_row n (cells r)))
  unfolding tile_residual
  residual_is qp ls read o e =
      let f : List (List ℤ) → Option (List ℤ) = λ r. Some (row_by_row n (cells r)) in
      ap (λ b. then (reconstructed T qp b) f) (sym read) ∙ ap (λ o. then o f) (sym e)

  -- a residual, read into a block r and transformed into w
  module _ (residual : List ℤ) {r w : List (List ℤ)} (read : r ≡ block n (tile n residual)) (transformed : w ≡ block n (coefficients T (cells r))) where
    read_at : (i j : ℕ) → i < n → j < n → cells r i j ≡ tile n residual i j
    read_at i j hi hj = ap (λ b. cells b i j) read ∙ cells_block n _ i j hi hj

    transformed_at : (i j : ℕ) → i < n → j < n → cells w i j ≡ coefficients T (tile n residual) i j
    transformed_at i j hi hj =
        ap (λ b. cells b i j) transformed ∙ cells_block n _ i j hi hj ∙ coefficients_same (cells r) (tile n residual) read_at i j hi hj

    pub transformed_small : (most : ℕ)
        → ((x : Grid) → ((i j : ℕ) → i < n → j < n → nat_abs (x i j) ≤ 255) → (i j : ℕ) → i < n → j < n → nat_abs (coefficients T x i j) ≤ most)
        → Differences residual → length residual ≡ n * n → (i j : ℕ) → i < n → j < n → nat_abs (cells w i j) ≤ most
    transformed_small most small differences long i j hi hj =
        subst (λ z. nat_abs z ≤ most) (sym (transformed_at i j hi hj)) (small (tile n residual) (tile_small n residual long differences) i j hi hj)

    -- and quantised into levels, as a block again
    module _ (qp : ℕ) (sort : Sort) {coded : List (List ℤ)} (quantised : coded ≡ block n (levels T qp sort (cells w))) where
      abbrev g : Grid
      g = levels T qp sort (coefficients T (tile n residual))

      quantised_is : coded ≡ block n g
      quantised_is = quantised ∙ block_same n _ g (λ i j hi hj. ap (λ z. levels T qp sort (λ _ _. z) i j) (transformed_at i j hi hj))

      pub levels_written : row_by_row n (cells coded) ≡ tile_levels T qp sort residual
      unfolding tile_levels
      levels_written =
          from_same (λ t. cells coded (t / n) (t % n)) (λ t. g (t / n) (t % n)) (n * n)
          (λ t h. let some = some_row n t h in
          ap (λ b. cells b (t / n) (t % n)) quantised_is ∙ cells_block n g (t / n) (t % n) (place_row n t some h) (place_column n t some))

      pub round_trip_is : (o : Option (List (List ℤ))) → o ≡ reconstructed T qp coded
          → tile_residual T qp (tile_levels T qp sort residual) ≡ then o (λ r. Some (row_by_row n (cells r)))
      unfolding tile_levels
      round_trip_is o e = residual_is qp (row_by_row n g) (quantised_is ∙ sym (block_same n _ g (tile_row_by_row n g))) o e
