-- The facts of a kind whose tile is one block of a transform, from the error limit of the transform.
use Rattle.std.proofs.Common.{◌≡◌, ℕ, ◌*◌, ◌/◌, ◌%◌, ◌<◌, ◌≤◌, ◌⊎◌, List, length, ℤ, ◌-ℤ◌, nat_abs, Some, sym, refl, ap, ◌∙◌, subst, subst₂, inl, inr, arith, lit≤}
use Rattle.std.proofs.lemmas.Int.{ints}
use Rattle.kinds.specs.declared.kind.Sort.{Sort}
use Rattle.kinds.specs.Meaning.{Facts, Differences, Near}
use Rattle.laws.specs.Blocks.{Grid, at, cells, block, tile, row_by_row}
use Rattle.laws.specs.Transform.{Transform, coefficients, levels, reconstructed}
use Rattle.laws.specs.Four.{four, distance4}
use Rattle.laws.specs.Eight.{eight, distance8}
use Rattle.laws.specs.Transformed.{tile_levels, tile_residual, block_kind, p4, p8}
use Rattle.laws.proofs.Accepted.{then_out, some_same}
use Rattle.laws.proofs.Lists.{length_from, at_from, block_same}
use Rattle.laws.proofs.Four.{near4}
use Rattle.laws.proofs.Eight.{near8}
use Rattle.laws.proofs.Places.{some_row, place_is, place_row, place_column, tile_row_by_row, tile_small}
use Rattle.laws.proofs.TileSteps.{residual_is}

close : (a b : ℤ) (d : ℕ) → nat_abs (a -ℤ b) ≤ d → Near a b d
close a b d h = (omega (arith, ints), omega (arith, ints))

module _ (T : Transform) (distance : ℕ → Sort → ℕ)
    (near : (qp : ℕ) (sort : Sort) (x : Grid) (r : List (List ℤ)) → qp ≤ 51
    → ((i j : ℕ) → i < T.points → j < T.points → nat_abs (x i j) ≤ 255)
    → reconstructed T qp (block T.points (levels T qp sort (coefficients T x))) ≡ Some r
    → (p q : ℕ) → p < T.points → q < T.points → nat_abs (cells r p q -ℤ x p q) ≤ distance qp sort) where
  abbrev n : ℕ
  n = T.points

  tile_count : (qp : ℕ) (sort : Sort) (residual : List ℤ) → length (tile_levels T qp sort residual) ≡ n * n
  unfolding tile_levels
  tile_count qp sort residual = length_from _ 0 (n * n)

  tile_near : (qp : ℕ) (sort : Sort) (residual rebuilt : List ℤ)
      → qp ≤ 51 → length residual ≡ n * n → Differences residual
      → tile_residual T qp (tile_levels T qp sort residual) ≡ Some rebuilt
      → (k : ℕ) → k < n * n → Near (at rebuilt k) (at residual k) (distance qp sort)
  unfolding tile_levels
  tile_near qp sort residual rebuilt low long small e k h =
      let x = tile n residual in
      let coded = levels T qp sort (coefficients T x) in
      let o = reconstructed T qp (block n coded) in
      let read : block n coded ≡ block n (tile n (row_by_row n coded)) = sym (block_same n _ coded (tile_row_by_row n coded)) in
      let out = then_out o (λ r. Some (row_by_row n (cells r))) (sym (residual_is T qp (row_by_row n coded) read o refl) ∙ e) in
      let r = out.0 in
      let some = some_row n k h in
      let hi = place_row n k some h in
      let hj = place_column n k some in
      let limit = near qp sort x r low (tile_small n residual long small) out.1 (k / n) (k % n) hi hj in
      let rebuilt_is : at rebuilt k ≡ cells r (k / n) (k % n) = ap (λ l. at l k) (sym (some_same out.2)) ∙ at_from (λ t. cells r (t / n) (t % n)) (n * n) k h in
      let coded_is : at residual k ≡ x (k / n) (k % n) = ap (at residual) (sym (place_is n k)) in
      close _ _ _ (subst₂ (λ a b. nat_abs (a -ℤ b) ≤ distance qp sort) (sym rebuilt_is) (sym coded_is) limit)

  pub block_facts : (tag : ℕ) → (n ≡ 4) ⊎ ((n ≡ 8) ⊎ (n ≡ 16)) → 1 ≤ tag → tag ≤ 63 → Facts (block_kind T tag distance)
  block_facts tag edges low high = record {
    edges = edges;
    tag_low = low;
    tag_high = high;
    level_count = λ qp sort residual _ _ _. tile_count qp sort residual;
    near = tile_near;
  }

-- that a block of n by n comes back within its distance
abbrev pub ComesBack : Transform → (distance : ℕ → Sort → ℕ) → (n : ℕ) → Type 0
ComesBack T distance n = (qp : ℕ) (sort : Sort) (x : Grid) (r : List (List ℤ)) → qp ≤ 51
    → ((i j : ℕ) → i < n → j < n → nat_abs (x i j) ≤ 255)
    → reconstructed T qp (block n (levels T qp sort (coefficients T x))) ≡ Some r
    → (p q : ℕ) → p < n → q < n → nat_abs (cells r p q -ℤ x p q) ≤ distance qp sort

-- the facts, for a transform of n points
pub kind_facts : (T : Transform) (distance : ℕ → Sort → ℕ) (tag n : ℕ) → T.points ≡ n → ComesBack T distance n
    → (n ≡ 4) ⊎ ((n ≡ 8) ⊎ (n ≡ 16)) → 1 ≤ tag → tag ≤ 63 → Facts (block_kind T tag distance)
kind_facts T distance tag n points near edges low high =
    block_facts T distance (subst (ComesBack T distance) (sym points) near) tag (subst (λ n. (n ≡ 4) ⊎ ((n ≡ 8) ⊎ (n ≡ 16))) (sym points) edges) low high

pub p4_facts : Facts p4
p4_facts = block_facts four distance4 near4 1 (inl refl) (lit≤ tt) (lit≤ tt)

pub p8_facts : Facts p8
p8_facts = block_facts eight distance8 near8 2 (inr (inl refl)) (lit≤ tt) (lit≤ tt)
