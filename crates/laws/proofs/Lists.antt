-- Reading lists and blocks that were made from functions of the index, and statements about every index below a number.
use Rattle.std.proofs.Common.{◌≡◌, ℕ, zero, suc, ◌+◌, ◌<◌, ◌≤◌, Bool, true, false, ◌&&◌, T, List, [], ◌∷◌, length, get_or, ℤ, pos, refl, ap, ◌∙◌, subst, ap₂, arith}
use Rattle.laws.specs.Blocks.{Grid, at, row, cells, from, block}
use Rattle.laws.specs.Widths.{every}

-- P at 0, 1, .. : n proofs, nested to the right
abbrev pub Each : (ℕ → Type 0) → ℕ → Type 0
Each P zero = Unit {0}
Each P (suc n) = P zero × Each (λ i. P (suc i)) n

pub each_at : (P : ℕ → Type 0) (n : ℕ) → Each P n → (i : ℕ) → i < n → P i
each_at P zero h i k = absurd (omega arith)
each_at P (suc n) h zero k = h.0
each_at P (suc n) h (suc i) k = each_at (λ i. P (suc i)) n h.1 i (omega arith)

and_out : (a b : Bool) → T (a && b) → T a × T b
and_out true b t = (tt, t)
and_out false b t = absurd t

-- a test that is computed, at an index
pub every_at : (test : ℕ → Bool) (n : ℕ) → T (every test 0 n) → (i : ℕ) → i < n → T (test i)
every_at test n t i h = let e : i + 0 ≡ i = omega arith in subst (λ k. T (test k)) e (go 0 n t i h)
  where
    go : (s n : ℕ) → T (every test s n) → (i : ℕ) → i < n → T (test (i + s))
    go s zero t i h = absurd (omega arith)
    go s (suc n) t zero h = let e : s ≡ 0 + s = omega arith in subst (λ k. T (test k)) e (and_out (test s) (every test (suc s) n) t).0
    go s (suc n) t (suc i) h =
        let e : i + suc s ≡ suc i + s = omega arith in
        subst (λ k. T (test k)) e (go (suc s) n (and_out (test s) (every test (suc s) n) t).1 i (omega arith))

pub length_from : {A : Type 0} (f : ℕ → A) (i n : ℕ) → length (from f i n) ≡ n
length_from f i zero = refl
length_from f i (suc n) = ap suc (length_from f (suc i) n)

get_or_from : {A : Type 0} (f : ℕ → A) (a : A) (i n t : ℕ) → t < n → get_or (from f i n) t a ≡ f (t + i)
get_or_from f a i zero t h = absurd (omega arith)
get_or_from f a i (suc n) zero h = ap f (omega arith)
get_or_from f a i (suc n) (suc t) h = get_or_from f a (suc i) n t (omega arith) ∙ ap f (omega arith)

pub at_from : (f : ℕ → ℤ) (n t : ℕ) → t < n → at (from f 0 n) t ≡ f t
at_from f n t h = get_or_from f (pos 0) 0 n t h ∙ ap f (omega arith)

pub row_from : (f : ℕ → List ℤ) (n t : ℕ) → t < n → row (from f 0 n) t ≡ f t
row_from f n t h = get_or_from f [] 0 n t h ∙ ap f (omega arith)

pub cells_block : (n : ℕ) (g : Grid) (i j : ℕ) → i < n → j < n → cells (block n g) i j ≡ g i j
cells_block n g i j hi hj = ap (λ l. at l j) (row_from (λ k. from (g k) 0 n) n i hi) ∙ at_from (g i) n j hj

-- lists from functions that agree at every index read
pub from_same : {A : Type 0} (f g : ℕ → A) (n : ℕ) → ((i : ℕ) → i < n → f i ≡ g i) → from f 0 n ≡ from g 0 n
from_same f g n h = go 0 n (omega arith)
  where
    go : (i k : ℕ) → i + k ≤ n → from f i k ≡ from g i k
    go i zero l = refl
    go i (suc k) l = ap₂ (λ a as'. a ∷ as') (h i (omega arith)) (go (suc i) k (omega arith))

pub block_same : (n : ℕ) (g h : Grid) → ((i j : ℕ) → i < n → j < n → g i j ≡ h i j) → block n g ≡ block n h
block_same n g h same = from_same (λ i. from (g i) 0 n) (λ i. from (h i) 0 n) n (λ i hi. from_same (g i) (h i) n (λ j hj. same i j hi hj))

-- a list, by its length and its elements
pub from_is : {A : Type 0} (f : ℕ → A) (a : A) (n : ℕ) (xs : List A) → length xs ≡ n → ((k : ℕ) → k < n → get_or xs k a ≡ f k) → xs ≡ from f 0 n
from_is {A = A} f a n xs e h = go 0 n xs e (λ k l. h k l ∙ ap f (omega arith))
  where
    go : (i n : ℕ) (xs : List A) → length xs ≡ n → ((k : ℕ) → k < n → get_or xs k a ≡ f (k + i)) → xs ≡ from f i n
    go i zero [] e h = refl
    go i zero (x ∷ xs) e h = absurd (omega (arith, e))
    go i (suc n) [] e h = absurd (omega (arith, e))
    go i (suc n) (x ∷ xs) e h =
        ap₂ (λ y ys. y ∷ ys) (h 0 (omega arith) ∙ ap f (omega arith)) (go (suc i) n xs (omega (arith, e)) (λ k l. h (suc k) (omega arith) ∙ ap f (omega arith)))
