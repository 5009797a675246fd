-- What the steps back accept is the value that they have without tests.
use Rattle.std.proofs.Common.{◌≡◌, ℕ, zero, suc, ◌/◌, ◌%◌, ◌<◌, Bool, true, false, cond, List, ◌∷◌, ℤ, pos, ◌+ℤ◌, ◌*ℤ◌, Some, None, Option, sym, refl, ap, ◌∙◌, subst, ap₂}
use lib.Signed.{shr_z}
use Rattle.laws.specs.Blocks.{Grid, at, row, cells, from, block, column, transposed}
use Rattle.laws.specs.Widths.{largest, largest_column, fits, held, then, all}
use Rattle.laws.specs.Transform.{Transform, class_at, rescaled, rescaled_block, rows_passed, columns_passed, rounded, inverse, reconstructed}
use Rattle.laws.proofs.Lists.{at_from, row_from, cells_block, from_same, block_same}
use Rattle.laws.proofs.Inverts.{untested}
use Rattle.laws.proofs.Steps.{none_some}

pub some_same : {A : Type 0} {a b : A} → Some a ≡ Some b → a ≡ b
some_same {A} {a} {b} e = cc

pub then_out : {A B : Type 0} (o : Option A) (next : A → Option B) {b : B} → then o next ≡ Some b → (a : A) × (o ≡ Some a) × (next a ≡ Some b)
then_out None next e = none_some e
then_out (Some a) next e = (a, refl, e)

pub held_out : (n : ℕ) (most : ℤ) (line r : List ℤ) → held n most line ≡ Some r → r ≡ from (at line) 0 n
held_out n most line r e = out (fits n most line) e
  where
    out : (t : Bool) → cond t (Some (from (at line) 0 n)) None ≡ Some r → r ≡ from (at line) 0 n
    out true e = sym (some_same e)
    out false e = none_some e

all_out : {A : Type 0} (f : ℕ → Option A) (g : ℕ → A) → ((i : ℕ) (a : A) → f i ≡ Some a → a ≡ g i) →
    (i n : ℕ) (r : List A) → all (from f i n) ≡ Some r → r ≡ from g i n
all_out f g h i zero r e = sym (some_same e)
all_out f g h i (suc n) r e =
    let p = then_out (f i) (λ a. then (all (from f (suc i) n)) (λ rest. Some (a ∷ rest))) e in
    let q = then_out (all (from f (suc i) n)) (λ rest. Some (p.0 ∷ rest)) p.2 in
    sym (some_same q.2) ∙ ap₂ (λ a as'. a ∷ as') (h i p.0 p.1) (all_out f g h (suc i) n q.0 q.1)

module _ (T : Transform) (value : List ℤ → List ℤ) (accepted : (most : ℤ) (d r : List ℤ) → T.pass most d ≡ Some r → r ≡ value d) where
  abbrev n : ℕ
  n = T.points

  lines_are : (most : ℤ) (lines : ℕ → List ℤ) (r : List (List ℤ)) → all (from (λ i. T.pass most (lines i)) 0 n) ≡ Some r →
      (i : ℕ) → i < n → row r i ≡ value (lines i)
  lines_are most lines r e i h =
      ap (λ b. row b i) (all_out (λ i. T.pass most (lines i)) (λ i. value (lines i)) (λ i a p. accepted most (lines i) a p) 0 n r e)
      ∙ row_from (λ i. value (lines i)) n i h

  rows_are : (g : Grid) (r : List (List ℤ)) → rows_passed T (block n g) ≡ Some r →
      (q i : ℕ) → i < n → cells r i q ≡ at (value (from (g i) 0 n)) q
  rows_are g r e q i h = ap (λ l. at l q) (lines_are largest (row (block n g)) r e i h ∙ ap value (row_from (λ i. from (g i) 0 n) n i h))

  columns_are : (b r : List (List ℤ)) → columns_passed T b ≡ Some r → (p q : ℕ) → p < n → q < n → cells r p q ≡ at (value (column n b q)) p
  columns_are b r e p q hp hq =
      let c = then_out (all (from (λ j. T.pass largest_column (column n b j)) 0 n)) (λ c. Some (transposed n c)) e in
      ap (λ m. cells m p q) (sym (some_same c.2)) ∙ cells_block n (λ j i. cells c.0 i j) p q hp hq
      ∙ ap (λ l. at l p) (lines_are largest_column (column n b) c.0 c.1 q hq)

  -- rows, columns and the last rounding
  pub inverse_is : (g : Grid) (r : List (List ℤ)) → inverse T (block n g) ≡ Some r →
      (p q : ℕ) → p < n → q < n → cells r p q ≡ shr_z (untested n value g p q +ℤ pos 32) 64
  inverse_is g r e p q hp hq =
      let a = then_out (rows_passed T (block n g)) (λ b. then (columns_passed T b) (λ c. Some (rounded T c))) e in
      let b = then_out (columns_passed T a.0) (λ c. Some (rounded T c)) a.2 in
      let rows = from_same (λ i. cells a.0 i q) (λ i. at (value (from (g i) 0 n)) q) n (rows_are g a.0 a.1 q) in
      let before = columns_are a.0 b.0 b.1 p q hp hq ∙ ap (λ l. at (value l) p) rows in
      ap (λ m. cells m p q) (sym (some_same b.2)) ∙ cells_block n (λ i j. shr_z (cells b.0 i j +ℤ pos 32) 64) p q hp hq
      ∙ ap (λ z. shr_z (z +ℤ pos 32) 64) before

  rescaled_is : (qp : ℕ) (l : Grid) (r : List (List ℤ)) → rescaled_block T qp (block n l) ≡ Some r → r ≡ block n (rescaled T qp l)
  rescaled_is qp l r e =
      let d = rescaled T qp (cells (block n l)) in
      let scaled : ℕ → ℕ → ℤ → ℤ = λ i j z. T.rescale (qp / 6) (z *ℤ pos (T.factor (qp % 6) (class_at T i j))) in
      all_out (λ i. held n largest (from (d i) 0 n)) (λ i. from (at (from (d i) 0 n)) 0 n) (λ i a h. held_out n largest (from (d i) 0 n) a h) 0 n r e
      ∙ block_same n (λ i. at (from (d i) 0 n)) (rescaled T qp l) (λ i j hi hj. at_from (d i) n j hj ∙ ap (scaled i j) (cells_block n l i j hi hj))

  pub reconstructed_is : (qp : ℕ) (l : Grid) (r : List (List ℤ)) → reconstructed T qp (block n l) ≡ Some r →
      (p q : ℕ) → p < n → q < n → cells r p q ≡ shr_z (untested n value (rescaled T qp l) p q +ℤ pos 32) 64
  reconstructed_is qp l r e =
      let a = then_out (rescaled_block T qp (block n l)) (inverse T) e in
      inverse_is (rescaled T qp l) r (subst (λ b. inverse T b ≡ Some r) (rescaled_is qp l a.0 a.1) a.2)
