-- A transform of n by n points with its quantiser, and the steps of a block: out to levels, and back to a residual.
-- QP enters by its remainder QP mod 6, which chooses a row of each table, and its quotient QP / 6, which doubles the steps.
use Rattle.std.specs.Prelude.{ℕ, ◌+◌, ◌/◌, ◌%◌, ◌^◌, List, ℤ, pos, ◌+ℤ◌, ◌*ℤ◌, Some, Option}
use Rattle.std.specs.Int.Signed.{shr_z}
use Rattle.kinds.specs.declared.kind.Sort.{Sort}
use Rattle.laws.specs.Blocks.{Grid, row, cells, from, block, column, transposed, dot}
use Rattle.laws.specs.Widths.{largest, largest_column, held, then, all}
use Rattle.laws.specs.Quantiser.{rounding, quantised}

pub record Transform : Type 0 where
  -- the points of a line: a block is points × points
  pub points : ℕ
  -- row i of the forward matrix C
  pub forward : ℕ → List ℤ
  -- one inverse pass over a line, refused where a number leaves its width; a result may be as large as the first argument
  pub pass : ℤ → List ℤ → Option (List ℤ)
  -- indices of a line fall into groups, and places of a block into classes by the groups of row and column
  pub group : ℕ → ℕ
  pub class : ℕ → ℕ → ℕ
  -- the tables, by QP mod 6 and class: the quantiser's multiplier, and the factor of rescaling
  pub multiplier : ℕ → ℕ → ℕ
  pub factor : ℕ → ℕ → ℕ
  -- the quantiser's shift for QP 0 to 5
  pub shift : ℕ
  -- rescaling by QP / 6, of a level times its factor
  pub rescale : ℕ → ℤ → ℤ

module _ (T : Transform) where
  -- the class of row i and column j
  abbrev pub class_at : ℕ → ℕ → ℕ
  class_at i j = T.class (T.group i) (T.group j)

  -- C X
  abbrev pub half_product : Grid → Grid
  half_product x i q = dot (T.forward i) (from (λ p. x p q) 0 T.points)

  -- C X Cᵀ
  abbrev pub coefficients : Grid → Grid
  coefficients x i j = dot (T.forward j) (from (half_product x i) 0 T.points)

  abbrev pub shift_at : (qp : ℕ) → ℕ
  shift_at qp = T.shift + qp / 6

  abbrev pub levels : (qp : ℕ) → Sort → Grid → Grid
  levels qp sort w i j = quantised (w i j) (T.multiplier (qp % 6) (class_at i j)) (rounding sort (2 ^ shift_at qp)) (shift_at qp)

  abbrev pub rescaled : (qp : ℕ) → Grid → Grid
  rescaled qp l i j = T.rescale (qp / 6) (l i j *ℤ pos (T.factor (qp % 6) (class_at i j)))

  -- the rescaled levels, refused where one leaves 16 bits
  abbrev pub rescaled_block : (qp : ℕ) → List (List ℤ) → Option (List (List ℤ))
  rescaled_block qp l = all (from (λ i. held T.points largest (from (rescaled qp (cells l) i) 0 T.points)) 0 T.points)

  -- every row passed
  abbrev pub rows_passed : List (List ℤ) → Option (List (List ℤ))
  rows_passed d = all (from (λ i. T.pass largest (row d i)) 0 T.points)

  -- every column passed
  abbrev pub columns_passed : List (List ℤ) → Option (List (List ℤ))
  columns_passed d = then (all (from (λ j. T.pass largest_column (column T.points d j)) 0 T.points)) (λ c. Some (transposed T.points c))

  -- (h + 32) >> 6, of each number
  abbrev pub rounded : List (List ℤ) → List (List ℤ)
  rounded h = block T.points (λ i j. shr_z (cells h i j +ℤ pos 32) 64)

  -- all rows pass first, then all columns, then comes the last rounding
  abbrev pub inverse : List (List ℤ) → Option (List (List ℤ))
  inverse d = then (rows_passed d) (λ r. then (columns_passed r) (λ c. Some (rounded c)))

  -- the residual that levels stand for
  abbrev pub reconstructed : (qp : ℕ) → List (List ℤ) → Option (List (List ℤ))
  reconstructed qp l = then (rescaled_block qp l) inverse
