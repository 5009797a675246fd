-- How large the coefficients of a transform are, by the groups of row and column.
use Rattle.std.proofs.Common.{ℕ, ◌*◌, ◌<◌, ◌≤◌, ℤ, nat_abs, le_trans, mul-le-mul_right}
use Rattle.std.proofs.lemmas.Nat.{mul-le}
use Rattle.laws.specs.Blocks.{Grid, from, dot}
use Rattle.laws.specs.Transform.{Transform, half_product, coefficients}
use Rattle.laws.proofs.Lists.{Each, each_at}
use Rattle.laws.proofs.Linear.{weighed, dot_size}

-- reach: the sum of the sizes of the numbers of a forward row, by the row's group
abbrev pub Reaches : Transform → (ℕ → ℕ) → Type 0
Reaches T reach = (n : ℕ) → Each (λ i. weighed (T.forward i) (from (λ _. n) 0 T.points) ≤ reach (T.group i) * n) T.points

module _ (T : Transform) (reach : ℕ → ℕ) (reaches : Reaches T reach) where
  pub line_size : (u : ℕ → ℤ) (n : ℕ) → ((p : ℕ) → p < T.points → nat_abs (u p) ≤ n) → (i : ℕ) → i < T.points →
      nat_abs (dot (T.forward i) (from u 0 T.points)) ≤ reach (T.group i) * n
  line_size u n small i h =
      le_trans (dot_size (T.forward i) u (λ _. n) T.points small) (each_at _ T.points (reaches n) i h)

  -- C times a block whose numbers are at most `most`
  pub product_most : (x : Grid) (most r : ℕ) → ((g : ℕ) → reach g ≤ r) → ((p q : ℕ) → p < T.points → q < T.points → nat_abs (x p q) ≤ most) →
      (i j : ℕ) → i < T.points → j < T.points → nat_abs (half_product T x i j) ≤ r * most
  product_most x most r least small i j hi hj =
      le_trans (line_size (λ p. x p j) most (λ p hp. small p j hp hj) i hi) (mul-le-mul_right most (least (T.group i)))

  -- of a block whose numbers are at most `most`
  pub coefficient_size : (x : Grid) (most : ℕ) → ((p q : ℕ) → p < T.points → q < T.points → nat_abs (x p q) ≤ most) →
      (i j : ℕ) → i < T.points → j < T.points → nat_abs (coefficients T x i j) ≤ reach (T.group j) * (reach (T.group i) * most)
  coefficient_size x most small i j hi hj =
      line_size (half_product T x i) (reach (T.group i) * most) (λ q hq. line_size (λ p. x p q) most (λ p hp. small p q hp hq) i hi) j hj

  -- at every place
  pub coefficient_most : (x : Grid) (most r : ℕ) → ((g : ℕ) → reach g ≤ r) → ((p q : ℕ) → p < T.points → q < T.points → nat_abs (x p q) ≤ most) →
      (i j : ℕ) → i < T.points → j < T.points → nat_abs (coefficients T x i j) ≤ r * (r * most)
  coefficient_most x most r least small i j hi hj =
      let a = T.group i in let b = T.group j in
      le_trans (coefficient_size x most small i j hi hj) (mul-le (reach b) (reach a * most) r (r * most) (least b) (mul-le-mul_right most (least a)))
