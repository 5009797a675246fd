-- The transform of 8 by 8 points is sound, and a block comes back within its distance.
-- Groups of an index: 0 is divisible by 4, 1 is odd, 2 is the rest.
use Rattle.std.proofs.Common.{◌≡◌, ℕ, zero, suc, ◌+◌, ◌-◌, ◌*◌, ◌^◌, ◌<◌, ◌≤◌, List, ℤ, pos, ◌+ℤ◌, ◌-ℤ◌, ◌*ℤ◌, nat_abs, Some, refl, ap, ◌∙◌, arith, lit<}
use lib.Signed.{shr_z}
use borrow.Author.Differences.{up, down, ints, sum_is_lem, neg_is}
use Rattle.std.proofs.lemmas.Nat.{le-div}
use Rattle.kinds.specs.declared.kind.Sort.{Sort}
use Rattle.laws.specs.Blocks.{Grid, at, cells, from, block, dot}
use Rattle.laws.specs.Widths.{largest, held, then}
use Rattle.laws.specs.Transform.{half_product, coefficients, levels, reconstructed}
use Rattle.laws.specs.Eight.{forward8, sums8, turns8, results8, pass8, rescale8, eight, distance8}
use Rattle.laws.proofs.Lists.{Each, each_at}
use Rattle.laws.proofs.Linear.{scale_is, Floor, shr_is, half_up, plus, minus, dot_is, Near}
use Rattle.laws.proofs.Sizes.{product_most, coefficient_most}
use Rattle.laws.proofs.Inverts.{Inverts}
use Rattle.laws.proofs.Accepted.{then_out, held_out}
use Rattle.laws.proofs.Sound.{Sound}
use Rattle.laws.proofs.Distance.{reconstructed_near}

abbrev weight : ℕ → ℕ
weight zero = 1445
weight (suc zero) = 1280
weight (suc (suc g)) = 2312

-- eight times what the pass makes of each input: the columns of C
abbrev basis : ℕ → List ℤ
basis t = from (λ j. at (forward8 j) t) 0 8

ruleset steps = (sum_is_lem, neg_is, scale_is)

-- ---- the results at t and 7 - t are the sum and the difference of a number from the even inputs and one from the odd inputs
module _ (d : ℕ → ℤ) where
  abbrev x : List ℤ
  x = from d 0 8

  abbrev even : ℕ → ℤ
  even t = at (turns8 (sums8 x)) (2 * t)

  abbrev odd : ℕ → ℤ
  odd t = at (turns8 (sums8 x)) (7 - 2 * t)

  row : ℕ → ℤ
  row t = dot (basis t) x

  row_is : (t : ℕ) → up (row t) + minus (basis t) x ≡ down (row t) + plus (basis t) x
  unfolding row
  row_is t = dot_is (basis t) x

  half : (i : ℕ) → Floor 2 (d i)
  half i = shr_is 2 (lit< tt) (d i)

  quarter : (i : ℕ) → Floor 4 (at (sums8 x) i)
  quarter i = shr_is 4 (lit< tt) (at (sums8 x) i)

  from_even : Each (λ t. Near (pos 16 *ℤ even t) (row t +ℤ row (7 - t)) 8) 4
  from_even = omega (arith, steps, row_is, half 2, half 6)

  from_odd : (t : ℕ) → t < 4 → Near (pos 16 *ℤ odd t) (row t -ℤ row (7 - t)) 14
  from_odd zero h = omega (arith, steps, row_is, half 1, half 7, quarter 1)
  from_odd (suc zero) h = omega (arith, steps, row_is, half 3, half 5, quarter 3)
  from_odd (suc (suc zero)) h = omega (arith, steps, row_is, half 3, half 5, quarter 5)
  from_odd (suc (suc (suc zero))) h = omega (arith, steps, row_is, half 1, half 7, quarter 7)
  from_odd (suc (suc (suc (suc t)))) h = absurd (omega arith)

  pair : (t : ℕ) → t < 4 → Near (pos 8 *ℤ (even t +ℤ odd t)) (row t) 11 × Near (pos 8 *ℤ (even t -ℤ odd t)) (row (7 - t)) 11
  pair t h =
      let e = each_at (λ t. Near (pos 16 *ℤ even t) (row t +ℤ row (7 - t)) 8) 4 from_even t h in let o = from_odd t h in
      omega (arith, ints)

  pub pass_near : Each (λ t. Near (pos 8 *ℤ at (results8 (turns8 (sums8 x))) t) (dot (basis t) x) 11) 8
  unfolding row
  pass_near =
      let p = pair 0 (lit< tt) in let q = pair 1 (lit< tt) in let r = pair 2 (lit< tt) in let s = pair 3 (lit< tt) in
      (p.0, (q.0, (r.0, (s.0, (s.1, (r.1, (q.1, (p.1, tt))))))))

abbrev inverts : Inverts 8 forward8 (λ i. weight (eight.group i))
inverts = record {
  value = λ d. results8 (turns8 (sums8 d));
  basis = basis;
  part = 8;
  loss = 11;
  near = pass_near;
  unit = 739840;
  undo = (refl, (refl, (refl, (refl, (refl, (refl, (refl, (refl, tt))))))));
}

pub accepted : (most : ℤ) (d r : List ℤ) → pass8 most d ≡ Some r → r ≡ results8 (turns8 (sums8 d))
accepted most d r p =
    let a = then_out (held 8 largest (sums8 d)) (λ e. then (held 8 largest (turns8 e)) (λ f. held 8 most (results8 f))) p in
    let b = then_out (held 8 largest (turns8 a.0)) (λ f. held 8 most (results8 f)) a.2 in
    held_out 8 most (results8 b.0) r b.2
    ∙ ap results8 (held_out 8 largest (turns8 a.0) b.0 b.1 ∙ ap turns8 (held_out 8 largest (sums8 d) a.0 a.1))

abbrev share : ℕ → ℕ
share zero = 16
share (suc zero) = 31
share (suc (suc g)) = 12

abbrev pub reach : ℕ → ℕ
reach zero = 64
reach (suc zero) = 62
reach (suc (suc g)) = 48

pub rescaling : (z : ℤ) → Each (λ k. Near (pos 4 *ℤ rescale8 k z) (z *ℤ pos (2 ^ k)) 2) 9
rescaling z = omega (arith, ints, up_to 32 (lit< tt), up_to 16 (lit< tt), up_to 8 (lit< tt), up_to 4 (lit< tt), up_to 2 (lit< tt), up_to 1 (lit< tt))
  where
    up_to : (h : ℕ) → 0 < h → Near (pos (2 * h) *ℤ shr_z (pos 16 *ℤ z +ℤ pos h) (2 * h)) (pos 16 *ℤ z) h
    up_to h some = half_up h some (pos 16 *ℤ z)

abbrev slack : ℕ → ℕ
slack zero = 18
slack (suc zero) = 13
slack (suc (suc zero)) = 25
slack (suc (suc (suc zero))) = 16
slack (suc (suc (suc (suc zero)))) = 11
slack (suc (suc (suc (suc (suc c))))) = 19

abbrev pub sound8 : Sound eight
sound8 = record {
  weight = weight;
  inverts = inverts;
  accepted = accepted;
  groups = 3;
  grouped = omega arith;
  share = share;
  head = 8;
  shares = λ f a. omega arith;
  reach = reach;
  reaches = λ n. omega arith;
  scale = 4;
  spill = 2;
  rescaling = rescaling;
  gain = 133633600;
  some = lit< tt;
  slack = slack;
  tables = tt;
  exact = refl;
}

pub near8 : (qp : ℕ) (sort : Sort) (x : Grid) (r : List (List ℤ)) → qp ≤ 51 → ((i j : ℕ) → i < 8 → j < 8 → nat_abs (x i j) ≤ 255) →
    reconstructed eight qp (block 8 (levels eight qp sort (coefficients eight x))) ≡ Some r →
    (p q : ℕ) → p < 8 → q < 8 → nat_abs (cells r p q -ℤ x p q) ≤ distance8 qp sort
near8 qp sort x r low small e p q hp hq =
    let near = reconstructed_near eight sound8 qp sort x low small r e p q hp hq in le-div _ _ 98304 (lit< tt) (omega arith)

least : (g : ℕ) → reach g ≤ 64
least zero = omega arith
least (suc zero) = omega arith
least (suc (suc g)) = omega arith

pub small8 : (x : Grid) → ((i j : ℕ) → i < 8 → j < 8 → nat_abs (x i j) ≤ 255) →
    (i j : ℕ) → i < 8 → j < 8 → nat_abs (coefficients eight x i j) ≤ 1044480
small8 x small = coefficient_most eight reach sound8.reaches x 255 64 least small

pub products8 : (x : Grid) → ((i j : ℕ) → i < 8 → j < 8 → nat_abs (x i j) ≤ 32768) →
    (i j : ℕ) → i < 8 → j < 8 → nat_abs (half_product eight x i j) ≤ 2097152
products8 x small = product_most eight reach sound8.reaches x 32768 64 least small
