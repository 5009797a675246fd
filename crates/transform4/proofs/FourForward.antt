-- The fast forward steps are the matrix product.
use Rattle.std.proofs.Common.{◌≡◌, ℕ, List, [], ◌∷◌, ℤ, ◌+ℤ◌, ◌-ℤ◌, ap, ◌∙◌, arith}
use borrow.Author.Differences.{ints}
use Rattle.laws.specs.Blocks.{at, cells, from, dot}
use Rattle.laws.specs.Transform.{half_product}
use Rattle.laws.specs.Four.{four, forward4}

abbrev line : (a b c d : ℤ) → List ℤ
line a b c d = a ∷ b ∷ c ∷ d ∷ []

pub fast0 : (a b c d : ℤ) → (a +ℤ d) +ℤ (b +ℤ c) ≡ dot (forward4 0) (line a b c d)
fast0 a b c d = omega (arith, ints)

pub fast1 : (a b c d : ℤ) → ((a -ℤ d) +ℤ (a -ℤ d)) +ℤ (b -ℤ c) ≡ dot (forward4 1) (line a b c d)
fast1 a b c d = omega (arith, ints)

pub fast2 : (a b c d : ℤ) → (a +ℤ d) -ℤ (b +ℤ c) ≡ dot (forward4 2) (line a b c d)
fast2 a b c d = omega (arith, ints)

pub fast3 : (a b c d : ℤ) → (a -ℤ d) -ℤ ((b -ℤ c) +ℤ (b -ℤ c)) ≡ dot (forward4 3) (line a b c d)
fast3 a b c d = omega (arith, ints)

-- the sums and the differences of two rows
abbrev sums : List (List ℤ) → (i j : ℕ) → List ℤ
sums x i j = from (λ q. cells x i q +ℤ cells x j q) 0 4

abbrev differences : List (List ℤ) → (i j : ℕ) → List ℤ
differences x i j = from (λ q. cells x i q -ℤ cells x j q) 0 4

-- each row of C times the columns, as the code puts it together
module _ (x : List (List ℤ)) where
  pub row0 : {s03 s12 : List ℤ} → s03 ≡ sums x 0 3 → s12 ≡ sums x 1 2 → from (λ q. at s03 q +ℤ at s12 q) 0 4 ≡ from (half_product four (cells x) 0) 0 4
  row0 a b = (λ t. from (λ q. at (a t) q +ℤ at (b t) q) 0 4) ∙ (λ t. from (λ q. fast0 (cells x 0 q) (cells x 1 q) (cells x 2 q) (cells x 3 q) t) 0 4)

  pub row1 : {d03 d12 : List ℤ} → d03 ≡ differences x 0 3 → d12 ≡ differences x 1 2 → {w : List ℤ} → w ≡ from (λ q. at d03 q +ℤ at d03 q) 0 4
      → from (λ q. at w q +ℤ at d12 q) 0 4 ≡ from (half_product four (cells x) 1) 0 4
  row1 {d12 = d12} a b e =
      ap (λ w. from (λ q. at w q +ℤ at d12 q) 0 4) e
      ∙ (λ t. from (λ q. (at (a t) q +ℤ at (a t) q) +ℤ at (b t) q) 0 4)
      ∙ (λ t. from (λ q. fast1 (cells x 0 q) (cells x 1 q) (cells x 2 q) (cells x 3 q) t) 0 4)

  pub row2 : {s03 s12 : List ℤ} → s03 ≡ sums x 0 3 → s12 ≡ sums x 1 2 → from (λ q. at s03 q -ℤ at s12 q) 0 4 ≡ from (half_product four (cells x) 2) 0 4
  row2 a b = (λ t. from (λ q. at (a t) q -ℤ at (b t) q) 0 4) ∙ (λ t. from (λ q. fast2 (cells x 0 q) (cells x 1 q) (cells x 2 q) (cells x 3 q) t) 0 4)

  pub row3 : {d03 d12 : List ℤ} → d03 ≡ differences x 0 3 → d12 ≡ differences x 1 2 → {w : List ℤ} → w ≡ from (λ q. at d12 q +ℤ at d12 q) 0 4
      → from (λ q. at d03 q -ℤ at w q) 0 4 ≡ from (half_product four (cells x) 3) 0 4
  row3 {d03 = d03} a b e =
      ap (λ w. from (λ q. at d03 q -ℤ at w q) 0 4) e
      ∙ (λ t. from (λ q. at (a t) q -ℤ (at (b t) q +ℤ at (b t) q)) 0 4)
      ∙ (λ t. from (λ q. fast3 (cells x 0 q) (cells x 1 q) (cells x 2 q) (cells x 3 q) t) 0 4)
