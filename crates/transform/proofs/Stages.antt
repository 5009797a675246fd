-- A pass in stages: one test of all columns at the end is as good as the tests of each column on its way.
use Rattle.std.proofs.Common.{◌≡◌, ℕ, zero, suc, ◌+◌, ◌<◌, ◌≤◌, Bool, true, false, cond, ◌&&◌, List, [], ◌∷◌, ℤ, Some, None, Option, sym, refl, ap, ◌∙◌, ap₂, arith, w32, SFits}
use Rattle.std.proofs.lemmas.Int.{to_z-of_z}
use Rattle.laws.specs.Blocks.{at, row, cells, from, block, column, transposed}
use Rattle.laws.specs.Widths.{largest, within, every, fits, held, then, all}
use Rattle.laws.proofs.Lists.{row_from, cells_block, from_same, block_same}
use Rattle.laws.proofs.Meant.{kept}
use Rattle.laws.proofs.Steps.{every_swap, then_cond, all_cond}
use Rattle.transform.specs.Passes.{on_columns}

-- each stage takes the numbers of the one before it, and is refused where one leaves its width
abbrev pub staged : (n : ℕ) (most : ℤ) → List (List ℤ → List ℤ) → (List ℤ → List ℤ) → List ℤ → Option (List ℤ)
staged n most [] last d = held n most (last d)
staged n most (f ∷ fs) last d = then (held n largest (f d)) (staged n most fs last)

-- every line of a block fits
abbrev pub all_fit : (n : ℕ) (most : ℤ) → List (List ℤ) → Bool
all_fit n most m = every (λ i. fits n most (row m i)) 0 n

-- the same test, at a bound that was handed over in 32 bits
pub fit_at : (n : ℕ) (most : ℤ) (m : List (List ℤ)) (b : Bool) → SFits w32 most → b ≡ all_fit n (kept most) m → b ≡ all_fit n most m
fit_at n most m b f e = e ∙ ap (λ most. all_fit n most m) (to_z-of_z w32 most f)

-- all columns side by side: their tests, and what they come to
abbrev pub tests : (n : ℕ) (most : ℤ) → List (List ℤ → List ℤ) → (List ℤ → List ℤ) → List (List ℤ) → Bool
tests n most [] last m = all_fit n most (on_columns n last m)
tests n most (f ∷ fs) last m = all_fit n largest (on_columns n f m) && tests n most fs last (on_columns n f m)

abbrev pub outcome : (n : ℕ) → List (List ℤ → List ℤ) → (List ℤ → List ℤ) → List (List ℤ) → List (List ℤ)
outcome n [] last m = on_columns n last m
outcome n (f ∷ fs) last m = outcome n fs last (on_columns n f m)

every_same : (t u : ℕ → Bool) (n : ℕ) → ((k : ℕ) → k < n → t k ≡ u k) → every t 0 n ≡ every u 0 n
every_same t u n h = go 0 n (omega arith)
  where
    go : (i k : ℕ) → i + k ≤ n → every t i k ≡ every u i k
    go i zero l = refl
    go i (suc k) l = ap₂ ◌&&◌ (h i (omega arith)) (go (suc i) k (omega arith))

-- ---- one stage

module _ (n : ℕ) (f : List ℤ → List ℤ) (m : List (List ℤ)) where
  abbrev line : ℕ → List ℤ
  line j = f (column n m j)

  at_place : (i j : ℕ) → i < n → j < n → cells (on_columns n f m) i j ≡ at (line j) i
  at_place i j hi hj = cells_block n (λ i j. cells (from line 0 n) j i) i j hi hj ∙ ap (λ l. at l i) (row_from line n j hj)

  column_is : (j : ℕ) → j < n → from (at (line j)) 0 n ≡ column n (on_columns n f m) j
  column_is j hj = from_same (at (line j)) (λ i. cells (on_columns n f m) i j) n (λ i hi. sym (at_place i j hi hj))

  fit_columns : (most : ℤ) → every (λ j. fits n most (line j)) 0 n ≡ all_fit n most (on_columns n f m)
  fit_columns most =
      every_swap (λ j i. within most (at (line j) i)) 0 n 0 n
      ∙ every_same (λ i. every (λ j. within most (at (line j) i)) 0 n) (λ i. fits n most (row (on_columns n f m) i)) n
      (λ i hi. every_same (λ j. within most (at (line j) i)) (λ j. within most (cells (on_columns n f m) i j)) n (λ j hj. ap (within most) (sym (at_place i j hi hj))))

  held_columns : transposed n (from (λ j. from (at (line j)) 0 n) 0 n) ≡ on_columns n f m
  held_columns =
      block_same n (λ i j. cells (from (λ j. from (at (line j)) 0 n) 0 n) j i) (λ i j. cells (from line 0 n) j i)
      (λ i j hi hj. cells_block n (λ j i. at (line j) i) j i hj hi ∙ ap (λ l. at l i) (sym (row_from line n j hj)))

-- ---- all stages

then_none : {A B : Type 0} (o : Option A) → then {B = B} o (λ a. None) ≡ None
then_none None = refl
then_none (Some a) = refl

-- a test of each, and then a step of each
all_then : {A B : Type 0} (t : ℕ → Bool) (x : ℕ → A) (k : A → Option B) (i n : ℕ)
    → all (from (λ j. then (cond (t j) (Some (x j)) None) k) i n) ≡ cond (every t i n) (all (from (λ j. k (x j)) i n)) None
all_then t x k i zero = refl
all_then {A} {B} t x k i (suc n) =
    ap (λ (o : Option (List B)). then (then (cond (t i) (Some (x i)) None) k) (λ a. then o (λ rest. Some (a ∷ rest)))) (all_then t x k (suc i) n)
    ∙ go (t i) (every t (suc i) n)
  where
    go : (a b : Bool) → then (then (cond a (Some (x i)) None) k) (λ y. then (cond b (all (from (λ j. k (x j)) (suc i) n)) None) (λ rest. Some (y ∷ rest)))
        ≡ cond (a && b) (then (k (x i)) (λ y. then (all (from (λ j. k (x j)) (suc i) n)) (λ rest. Some (y ∷ rest)))) None
    go true true = refl
    go true false = then_none (k (x i))
    go false b = refl

both : {A B : Type 0} (a b : Bool) (o : Option A) (k : A → Option B) (x : B) → then o k ≡ cond b (Some x) None → then (cond a o None) k ≡ cond (a && b) (Some x) None
both true b o k x e = e
both false b o k x e = refl

all_staged : (n : ℕ) (most : ℤ) (fs : List (List ℤ → List ℤ)) (last : List ℤ → List ℤ) (m : List (List ℤ))
    → then (all (from (λ j. staged n most fs last (column n m j)) 0 n)) (λ c. Some (transposed n c)) ≡ cond (tests n most fs last m) (Some (outcome n fs last m)) None
all_staged n most [] last m =
    ap (λ o. then o (λ c. Some (transposed n c))) (all_cond (λ j. fits n most (line n last m j)) (λ j. from (at (line n last m j)) 0 n) 0 n)
    ∙ then_cond (every (λ j. fits n most (line n last m j)) 0 n) (from (λ j. from (at (line n last m j)) 0 n) 0 n) (transposed n)
    ∙ (λ t. cond (fit_columns n last m most t) (Some (held_columns n last m t)) None)
all_staged n most (f ∷ fs) last m =
    ap (λ o. then o (λ c. Some (transposed n c)))
    (all_then (λ j. fits n largest (line n f m j)) (λ j. from (at (line n f m j)) 0 n) (staged n most fs last) 0 n
    ∙ ap₂ (λ b (ls : List (Option (List ℤ))). cond b (all ls) None) (fit_columns n f m largest)
    (from_same (λ j. staged n most fs last (from (at (line n f m j)) 0 n)) (λ j. staged n most fs last (column n (on_columns n f m) j)) n
    (λ j hj. ap (staged n most fs last) (column_is n f m j hj))))
    ∙ both (all_fit n largest (on_columns n f m)) (tests n most fs last (on_columns n f m)) (all (from (λ j. staged n most fs last (column n (on_columns n f m) j)) 0 n))
    (λ c. Some (transposed n c)) (outcome n fs last (on_columns n f m)) (all_staged n most fs last (on_columns n f m))

outcome_block : (n : ℕ) (fs : List (List ℤ → List ℤ)) (last : List ℤ → List ℤ) (m : List (List ℤ)) → block n (cells (outcome n fs last m)) ≡ outcome n fs last m
outcome_block n [] last m =
    block_same n (cells (on_columns n last m)) (λ i j. cells (from (line n last m) 0 n) j i) (λ i j hi hj. cells_block n (λ i j. cells (from (line n last m) 0 n) j i) i j hi hj)
outcome_block n (f ∷ fs) last m = outcome_block n fs last (on_columns n f m)

-- the same of what the code computes
pub passed_is : (n : ℕ) (most : ℤ) (fs : List (List ℤ → List ℤ)) (last : List ℤ → List ℤ) (m g : List (List ℤ)) (b : Bool)
    → g ≡ outcome n fs last m → b ≡ tests n most fs last m
    → cond b (Some (block n (cells g))) None ≡ then (all (from (λ j. staged n most fs last (column n m j)) 0 n)) (λ c. Some (transposed n c))
passed_is n most fs last m g b p q =
    ap₂ (λ b g. cond b (Some g) None) q (ap (λ g. block n (cells g)) p ∙ outcome_block n fs last m) ∙ sym (all_staged n most fs last m)
