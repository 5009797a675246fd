-- The fast forward steps are the matrix product, and leave room for one another.
use Rattle.std.proofs.Common.{◌≡◌, ℕ, ◌<◌, ◌≤◌, List, [], ◌∷◌, ℤ, pos, negsuc, ◌*ℤ◌, nat_abs, ap, ◌∙◌, arith}
use borrow.Author.Differences.{ints, same_in}
use Rattle.laws.specs.Blocks.{at, cells, from, column, dot}
use Rattle.laws.specs.Eight.{forward8}
use Rattle.laws.proofs.Linear.{dot_is}
use Rattle.laws.proofs.Meant.{Meant, kept, known, product}
use Rattle.transform.specs.Inner.{Sized}
use Rattle.transform8.specs.Inner.{Sized8, Sized4, mirror_sums, mirror_differences}
use Rattle.transform8.proofs.EightLines.{each}

-- ---- each row of C, by its left half

abbrev four : (a b c d : ℤ) → List ℤ
four a b c d = a ∷ b ∷ c ∷ d ∷ []

on : (half : List ℤ) {y z : List ℤ} → y ≡ z → dot half (from (at y) 0 4) ≡ dot half (from (at z) 0 4)
on half e = ap (λ y. dot half (from (at y) 0 4)) e

module _ (x : List ℤ) where
  abbrev inputs : List ℤ
  inputs = from (at x) 0 8

  pub row0 : {y : List ℤ} → y ≡ mirror_sums x → dot (four (pos 8) (pos 8) (pos 8) (pos 8)) (from (at y) 0 4) ≡ dot (forward8 0) inputs
  row0 e = on (four (pos 8) (pos 8) (pos 8) (pos 8)) e ∙ same_in _ _ (omega (arith, ints, dot_is (four (pos 8) (pos 8) (pos 8) (pos 8)) (mirror_sums x), dot_is (forward8 0) inputs))

  pub row1 : {y : List ℤ} → y ≡ mirror_differences x → dot (four (pos 12) (pos 10) (pos 6) (pos 3)) (from (at y) 0 4) ≡ dot (forward8 1) inputs
  row1 e = on (four (pos 12) (pos 10) (pos 6) (pos 3)) e ∙ same_in _ _ (omega (arith, ints, dot_is (four (pos 12) (pos 10) (pos 6) (pos 3)) (mirror_differences x), dot_is (forward8 1) inputs))

  pub row2 : {y : List ℤ} → y ≡ mirror_sums x → dot (four (pos 8) (pos 4) (negsuc 3) (negsuc 7)) (from (at y) 0 4) ≡ dot (forward8 2) inputs
  row2 e = on (four (pos 8) (pos 4) (negsuc 3) (negsuc 7)) e ∙ same_in _ _ (omega (arith, ints, dot_is (four (pos 8) (pos 4) (negsuc 3) (negsuc 7)) (mirror_sums x), dot_is (forward8 2) inputs))

  pub row3 : {y : List ℤ} → y ≡ mirror_differences x → dot (four (pos 10) (negsuc 2) (negsuc 11) (negsuc 5)) (from (at y) 0 4) ≡ dot (forward8 3) inputs
  row3 e = on (four (pos 10) (negsuc 2) (negsuc 11) (negsuc 5)) e ∙ same_in _ _ (omega (arith, ints, dot_is (four (pos 10) (negsuc 2) (negsuc 11) (negsuc 5)) (mirror_differences x), dot_is (forward8 3) inputs))

  pub row4 : {y : List ℤ} → y ≡ mirror_sums x → dot (four (pos 8) (negsuc 7) (negsuc 7) (pos 8)) (from (at y) 0 4) ≡ dot (forward8 4) inputs
  row4 e = on (four (pos 8) (negsuc 7) (negsuc 7) (pos 8)) e ∙ same_in _ _ (omega (arith, ints, dot_is (four (pos 8) (negsuc 7) (negsuc 7) (pos 8)) (mirror_sums x), dot_is (forward8 4) inputs))

  pub row5 : {y : List ℤ} → y ≡ mirror_differences x → dot (four (pos 6) (negsuc 11) (pos 3) (pos 10)) (from (at y) 0 4) ≡ dot (forward8 5) inputs
  row5 e = on (four (pos 6) (negsuc 11) (pos 3) (pos 10)) e ∙ same_in _ _ (omega (arith, ints, dot_is (four (pos 6) (negsuc 11) (pos 3) (pos 10)) (mirror_differences x), dot_is (forward8 5) inputs))

  pub row6 : {y : List ℤ} → y ≡ mirror_sums x → dot (four (pos 4) (negsuc 7) (pos 8) (negsuc 3)) (from (at y) 0 4) ≡ dot (forward8 6) inputs
  row6 e = on (four (pos 4) (negsuc 7) (pos 8) (negsuc 3)) e ∙ same_in _ _ (omega (arith, ints, dot_is (four (pos 4) (negsuc 7) (pos 8) (negsuc 3)) (mirror_sums x), dot_is (forward8 6) inputs))

  pub row7 : {y : List ℤ} → y ≡ mirror_differences x → dot (four (pos 3) (negsuc 5) (pos 10) (negsuc 11)) (from (at y) 0 4) ≡ dot (forward8 7) inputs
  row7 e = on (four (pos 3) (negsuc 5) (pos 10) (negsuc 11)) e ∙ same_in _ _ (omega (arith, ints, dot_is (four (pos 3) (negsuc 5) (pos 10) (negsuc 11)) (mirror_differences x), dot_is (forward8 7) inputs))

-- ---- four products and their sum, in 32 bits

module _ (x c : List ℤ) (p : Sized4 4194304 x) (q : Sized4 12 c) where
  pub product0 : Meant (kept (at c 0) *ℤ kept (at x 0)) (at c 0 *ℤ at x 0) 50331648
  product0 = product (known (at c 0) 12 q.0 tt) (known (at x 0) 4194304 p.0 tt)

  pub product1 : Meant (kept (at c 1) *ℤ kept (at x 1)) (at c 1 *ℤ at x 1) 50331648
  product1 = product (known (at c 1) 12 q.1 tt) (known (at x 1) 4194304 p.1 tt)

  pub product2 : Meant (kept (at c 2) *ℤ kept (at x 2)) (at c 2 *ℤ at x 2) 50331648
  product2 = product (known (at c 2) 12 q.2 tt) (known (at x 2) 4194304 p.2 tt)

  pub product3 : Meant (kept (at c 3) *ℤ kept (at x 3)) (at c 3 *ℤ at x 3) 50331648
  product3 = product (known (at c 3) 12 q.3 tt) (known (at x 3) 4194304 p.3 tt)

-- a column of a block is a line
pub column_sized : (n : ℕ) (x : List (List ℤ)) → Sized 8 n x → (j : ℕ) → j < 8 → Sized8 n (column 8 x j)
column_sized n x small j hj = each (λ i. nat_abs (cells x i j) ≤ n) (λ i hi. small i j hi hj)
