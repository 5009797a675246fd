-- The steps of a block, as the code takes them and as the definitions have them, for a transform of n points.
use Rattle.std.proofs.Common.{◌≡◌, ℕ, ◌+◌, ◌*◌, ◌/◌, ◌%◌, ◌^◌, ◌<◌, ◌≤◌, List, ℤ, pos, negsuc, ◌+ℤ◌, ◌*ℤ◌, nat_abs, Some, None, Option, sym, refl, ap, ◌∙◌, subst, mul-le-mul_right, pow_mono, div-one, arith}
use lib.IntN.{+ℤ_idr}
use lib.Signed.{shr_z}
use Rattle.kinds.specs.declared.kind.Sort.{Sort}
use Rattle.laws.specs.Blocks.{Grid, at, row, cells, from, block, column, transposed, dot}
use Rattle.laws.specs.Widths.{largest, largest_column, held, then, all}
use Rattle.laws.specs.Quantiser.{rounding, quantised}
use Rattle.laws.specs.Transform.{Transform, class_at, half_product, coefficients, shift_at, levels, rescaled, rescaled_block, rows_passed, columns_passed, inverse}
use Rattle.laws.proofs.Lists.{at_from, row_from, cells_block, from_same, block_same}
use Rattle.laws.proofs.TileSteps.{coefficients_same}
use Rattle.transform.specs.Pattern.{pattern_at, stepped}
use Rattle.transform.specs.Passes.{products, passed}
use Rattle.transform.specs.Inner.{Sized}

module _ (T : Transform) where
  products_at : (x : List (List ℤ)) (j i : ℕ) → j < T.points → i < T.points → cells (products T x) j i ≡ half_product T (cells x) i j
  products_at x j i hj hi =
      ap (λ l. at l i) (row_from (λ j. from (λ i. dot (T.forward i) (column T.points x j)) 0 T.points) T.points j hj)
      ∙ at_from (λ i. dot (T.forward i) (column T.points x j)) T.points i hi

  products_twice : (x : List (List ℤ)) → products T (products T x) ≡ block T.points (coefficients T (cells x))
  products_twice x =
      block_same T.points (λ j i. dot (T.forward i) (column T.points (products T x) j)) (coefficients T (cells x))
      (λ j i hj hi. ap (dot (T.forward i)) (from_same (λ p. cells (products T x) p j) (half_product T (cells x) j) T.points (λ p hp. products_at x p j hp hj)))

  module _ (n : ℕ) (points : T.points ≡ n) where
    pub forward_is : (m : List (List ℤ)) → products T (products T (block n (cells m))) ≡ block n (coefficients T (cells m))
    forward_is m =
        subst (λ n. products T (products T (block n (cells m))) ≡ block n (coefficients T (cells m))) points
        (products_twice (block T.points (cells m))
        ∙ block_same T.points (coefficients T (cells (block T.points (cells m)))) (coefficients T (cells m))
        (coefficients_same T (cells (block T.points (cells m))) (cells m) (cells_block T.points (cells m))))

    pub products_sized : (a b : ℕ) (x : List (List ℤ))
        → ((x : Grid) → ((i j : ℕ) → i < n → j < n → nat_abs (x i j) ≤ a) → (i j : ℕ) → i < n → j < n → nat_abs (half_product T x i j) ≤ b)
        → Sized n a x → Sized n b (products T x)
    products_sized a b x law small =
        subst (λ n. ((i j : ℕ) → i < n → j < n → nat_abs (half_product T (cells x) i j) ≤ b) → Sized n b (products T x)) points
        (λ h j i hj hi. subst (λ z. nat_abs z ≤ b) (sym (products_at x j i hj hi)) (h i j hi hj))
        (law (cells x) small)

    -- quantised by the pattern of the multipliers
    pub levels_are : (qp : ℕ) (sort : Sort) (w : Grid) (pattern : List (List ℕ)) (add shift : ℕ)
        → ((i j : ℕ) → i < n → j < n → pattern_at pattern i j ≡ T.multiplier (qp % 6) (class_at T i j)) → add ≡ rounding sort (2 ^ shift) → shift ≡ shift_at T qp
        → block n (λ i j. quantised (w i j) (pattern_at pattern i j) add shift) ≡ block n (levels T qp sort w)
    levels_are qp sort w pattern add shift p q s =
        let f : add ≡ rounding sort (2 ^ shift_at T qp) = q ∙ ap (λ s. rounding sort (2 ^ s)) s in
        block_same n (λ i j. quantised (w i j) (pattern_at pattern i j) add shift) (levels T qp sort w)
        (λ i j hi hj. λ t. quantised (w i j) (p i j hi hj t) (f t) (s t))

    -- rescaled by the pattern of the steps, and held
    pub rescaled_are : (qp : ℕ) (l : List (List ℤ)) (steps : List (List ℕ)) (half shift : ℕ)
        → ((i j : ℕ) (level : ℤ) → i < n → j < n → stepped steps half shift i j level ≡ T.rescale (qp / 6) (level *ℤ pos (T.factor (qp % 6) (class_at T i j))))
        → {d : List (List ℤ)} → d ≡ block n (λ i j. stepped steps half shift i j (cells l i j))
        → all (from (λ i. held n largest (row d i)) 0 n) ≡ rescaled_block T qp l
    rescaled_are qp l steps half shift p {d} e =
        let same : d ≡ block n (rescaled T qp (cells l)) =
        e ∙ block_same n (λ i j. stepped steps half shift i j (cells l i j)) (rescaled T qp (cells l)) (λ i j hi hj. p i j (cells l i j) hi hj) in
        ap (λ d. all (from (λ i. held n largest (row d i)) 0 n)) same
        ∙ subst (λ n. all (from (λ i. held n largest (row (block n (rescaled T qp (cells l))) i)) 0 n) ≡ rescaled_block T qp l) points
        (ap all (from_same (λ i. held T.points largest (row (block T.points (rescaled T qp (cells l))) i)) (λ i. held T.points largest (from (rescaled T qp (cells l) i) 0 T.points)) T.points
        (λ i hi. ap (held T.points largest) (row_from (λ i. from (rescaled T qp (cells l) i) 0 T.points) T.points i hi))))

    -- what is left to do once the columns have passed, and once the rows have
    abbrev pub after_columns : Option (List (List ℤ)) → Option (List (List ℤ))
    after_columns o = then o (λ c. Some (block n (λ i j. shr_z (cells c i j +ℤ pos 32) 64)))

    abbrev pub after_rows : Option (List (List ℤ)) → Option (List (List ℤ))
    after_rows o = then o (λ r. after_columns (passed T largest_column (transposed n r)))

  -- the rows pass as the columns of the transposed block
  rows_are : ((most : ℤ) (line : List ℤ) → T.pass most (from (at line) 0 T.points) ≡ T.pass most line) → (m : List (List ℤ))
      → passed T largest (transposed T.points m) ≡ then (rows_passed T m) (λ r. Some (transposed T.points r))
  rows_are reads m =
      ap (λ (ls : List (Option (List ℤ))). then (all ls) (λ r. Some (transposed T.points r)))
      (from_same (λ i. T.pass largest (column T.points (transposed T.points m) i)) (λ i. T.pass largest (row m i)) T.points
      (λ i hi. ap (T.pass largest) (from_same (λ j. cells (transposed T.points m) j i) (cells m i) T.points (λ j hj. cells_block T.points (λ a b. cells m b a) j i hj hi)) ∙ reads largest (row m i)))

  -- rows and columns exchanged twice
  columns_are : (r : List (List ℤ)) → passed T largest_column (transposed T.points (transposed T.points r)) ≡ columns_passed T r
  columns_are r =
      let n = T.points in
      ap (λ (ls : List (Option (List ℤ))). then (all ls) (λ c. Some (transposed n c)))
      (from_same (λ j. T.pass largest_column (column n (transposed n (transposed n r)) j)) (λ j. T.pass largest_column (column n r j)) n
      (λ j hj. ap (T.pass largest_column) (from_same (λ i. cells (transposed n (transposed n r)) i j) (λ i. cells r i j) n
      (λ i hi. cells_block n (λ a b. cells (transposed n r) b a) i j hi hj ∙ cells_block n (λ a b. cells r b a) j i hj hi))))

  then_then : {A B C : Type 0} (o : Option A) (f : A → B) (k : B → Option C) → then (then o (λ a. Some (f a))) k ≡ then o (λ a. k (f a))
  then_then None f k = refl
  then_then (Some a) f k = refl

  pub inverse_is : (n : ℕ) (points : T.points ≡ n) → ((most : ℤ) (line : List ℤ) → T.pass most (from (at line) 0 n) ≡ T.pass most line)
      → (m : List (List ℤ)) → after_rows n points (passed T largest (transposed n m)) ≡ inverse T m
  inverse_is n points reads m =
      subst (λ n. (points : T.points ≡ n) → ((most : ℤ) (line : List ℤ) → T.pass most (from (at line) 0 n) ≡ T.pass most line) → after_rows n points (passed T largest (transposed n m)) ≡ inverse T m) points
      (λ points reads.
      ap (after_rows T.points points) (rows_are reads m)
      ∙ then_then (rows_passed T m) (transposed T.points) (λ r. after_columns T.points points (passed T largest_column (transposed T.points r)))
      ∙ (λ t. then (rows_passed T m) (λ r. after_columns T.points points (columns_are r t))))
      points reads

-- a coefficient's product has room: the levels have 16 bits
pub room : (w most m s d shift : ℕ) → w ≤ most → most * m < 2 ^ (shift + 14) → s ≡ shift → w * m < 2 ^ (s + d + 14)
room w most m s d shift h r e =
    let further : shift + 14 ≤ s + d + 14 = omega (arith, e) in
    omega (arith, pow_mono further, mul-le-mul_right m h)

-- nothing added, and nothing shifted
pub unshifted : (z : ℤ) → shr_z (z +ℤ pos 0) 1 ≡ z
unshifted z = ap (λ z. shr_z z 1) (+ℤ_idr z) ∙ whole z
  where
    whole : (z : ℤ) → shr_z z 1 ≡ z
    whole (pos n) = ap pos (div-one n)
    whole (negsuc n) = ap negsuc (div-one n)
