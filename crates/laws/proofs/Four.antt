-- The transform of 4 by 4 points is sound, and a block comes back within its distance.
-- Groups of an index: 0 is even, 1 is odd.
use Rattle.std.proofs.Common.{◌≡◌, ℕ, zero, suc, ◌<◌, ◌≤◌, List, [], ◌∷◌, ℤ, pos, negsuc, ◌-ℤ◌, nat_abs, Some, refl, ap, ◌∙◌, le_trans, arith, lit<, lit≤}
use borrow.Author.Differences.{ints}
use Rattle.std.proofs.lemmas.Nat.{le-div}
use Rattle.kinds.specs.declared.kind.Sort.{Sort}
use Rattle.laws.specs.Blocks.{Grid, cells, block}
use Rattle.laws.specs.Widths.{largest, held}
use Rattle.laws.specs.Transform.{half_product, coefficients, levels, reconstructed}
use Rattle.laws.specs.Four.{forward4, sums4, results4, pass4, four, distance4}
use Rattle.laws.proofs.Linear.{shr_is}
use Rattle.laws.proofs.Sizes.{product_most, coefficient_most}
use Rattle.laws.proofs.Inverts.{Inverts}
use Rattle.laws.proofs.Accepted.{then_out, held_out}
use Rattle.laws.proofs.Sound.{Sound}
use Rattle.laws.proofs.Distance.{reconstructed_near}

abbrev weight : ℕ → ℕ
weight zero = 5
weight (suc g) = 4

-- twice what the pass makes of each input
abbrev basis : ℕ → List ℤ
basis zero = pos 2 ∷ pos 2 ∷ pos 2 ∷ pos 1 ∷ []
basis (suc zero) = pos 2 ∷ pos 1 ∷ negsuc 1 ∷ negsuc 1 ∷ []
basis (suc (suc zero)) = pos 2 ∷ negsuc 0 ∷ negsuc 1 ∷ pos 2 ∷ []
basis (suc (suc (suc t))) = pos 2 ∷ negsuc 1 ∷ pos 2 ∷ negsuc 0 ∷ []

abbrev inverts : Inverts 4 forward4 (λ i. weight (four.group i))
inverts = record {
  value = λ d. results4 (sums4 d);
  basis = basis;
  part = 2;
  loss = 1;
  near = λ d. omega (arith, ints, shr_is 2 (lit< tt) (d 1), shr_is 2 (lit< tt) (d 3));
  unit = 40;
  undo = (refl, (refl, (refl, (refl, tt))));
}

pub accepted : (most : ℤ) (d r : List ℤ) → pass4 most d ≡ Some r → r ≡ results4 (sums4 d)
accepted most d r e =
    let p = then_out (held 4 largest (sums4 d)) (λ s. held 4 most (results4 s)) e in
    held_out 4 most (results4 p.0) r p.2 ∙ ap results4 (held_out 4 largest (sums4 d) p.0 p.1)

abbrev share : ℕ → ℕ
share zero = 4
share (suc g) = 3

abbrev pub reach : ℕ → ℕ
reach zero = 4
reach (suc g) = 6

abbrev slack : ℕ → ℕ
slack zero = 5
slack (suc zero) = 19
slack (suc (suc c)) = 9

abbrev pub sound4 : Sound four
sound4 = record {
  weight = weight;
  inverts = inverts;
  accepted = accepted;
  groups = 2;
  grouped = omega arith;
  share = share;
  head = 2;
  shares = λ f a. omega arith;
  reach = reach;
  reaches = λ n. omega arith;
  scale = 1;
  spill = 0;
  rescaling = λ z. omega (arith, ints);
  gain = 25;
  some = lit< tt;
  slack = slack;
  tables = tt;
  exact = refl;
}

pub near4 : (qp : ℕ) (sort : Sort) (x : Grid) (r : List (List ℤ)) → qp ≤ 51 → ((i j : ℕ) → i < 4 → j < 4 → nat_abs (x i j) ≤ 255) →
    reconstructed four qp (block 4 (levels four qp sort (coefficients four x))) ≡ Some r →
    (p q : ℕ) → p < 4 → q < 4 → nat_abs (cells r p q -ℤ x p q) ≤ distance4 qp sort
near4 qp sort x r low small e p q hp hq =
    let near = reconstructed_near four sound4 qp sort x low small r e p q hp hq in le-div _ _ 1536 (lit< tt) (omega arith)

least : (g : ℕ) → reach g ≤ 6
least zero = omega arith
least (suc g) = omega arith

pub small4 : (x : Grid) → ((i j : ℕ) → i < 4 → j < 4 → nat_abs (x i j) ≤ 255) →
    (i j : ℕ) → i < 4 → j < 4 → nat_abs (coefficients four x i j) ≤ 9180
small4 x small = coefficient_most four reach sound4.reaches x 255 6 least small

pub products4 : (x : Grid) → ((i j : ℕ) → i < 4 → j < 4 → nat_abs (x i j) ≤ 32768) →
    (i j : ℕ) → i < 4 → j < 4 → nat_abs (half_product four x i j) ≤ 2097152
products4 x small i j hi hj = le_trans (product_most four reach sound4.reaches x 32768 6 least small i j hi hj) (lit≤ tt)
