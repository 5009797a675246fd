-- Steps that may be refused: one test over all lines is as good as a test of each.
use Rattle.std.proofs.Common.{◌≡◌, ℕ, zero, suc, ◌+◌, ◌<◌, ◌≤◌, Bool, true, false, cond, ◌&&◌, List, ◌∷◌, ℤ, ◌≤ℤ◌, Some, None, Option, sym, refl, ap, ◌∙◌, inl, inr, eq-or-lt_of_le, arith, w16, SFits}
use Rattle.std.proofs.Math.Bool.{and_assoc, and-true}
use borrow.Author.Differences.{ints}
use Rattle.laws.specs.Blocks.{at, row, cells, from, block}
use Rattle.laws.specs.Widths.{largest, within, every, fits, held, then, all}

-- ---- tests

and_false : (a : Bool) → false ≡ (a && false)
and_false true = refl
and_false false = refl

exchange : (a b c d : Bool) → ((a && b) && (c && d)) ≡ ((a && c) && (b && d))
exchange true true c d = refl
exchange true false c d = and_false c
exchange false b c d = refl

pub split : (a b : Bool) → (a && b) ≡ true → (a ≡ true) × (b ≡ true)
split true b e = (refl, e)
split false b e = (e, absurd (let z : ◌≡◌ {A = ℕ} 0 1 = cc in omega arith))

every_true : (i n : ℕ) → true ≡ every (λ k. true) i n
every_true i zero = refl
every_true i (suc n) = every_true (suc i) n

pub every_and : (f g : ℕ → Bool) (i n : ℕ) → every (λ k. f k && g k) i n ≡ (every f i n && every g i n)
every_and f g i zero = refl
every_and f g i (suc n) =
    ap (λ b. (f i && g i) && b) (every_and f g (suc i) n) ∙ exchange (f i) (g i) (every f (suc i) n) (every g (suc i) n)

-- rows first or columns first
pub every_swap : (t : ℕ → ℕ → Bool) (i m j n : ℕ) → every (λ a. every (t a) j n) i m ≡ every (λ b. every (λ a. t a b) i m) j n
every_swap t i zero j n = every_true j n
every_swap t i (suc m) j n =
    ap (λ b. every (t i) j n && b) (every_swap t (suc i) m j n) ∙ sym (every_and (t i) (λ b. every (λ a. t a b) (suc i) m) j n)

-- one number more
pub every_more : (t : ℕ → Bool) (n : ℕ) → every t 0 (n + 1) ≡ (every t 0 n && t n)
every_more t n =
    let e : n + 1 ≡ suc n = omega arith in let f : 0 + n ≡ n = omega arith in
    ap (every t 0) e ∙ go 0 n ∙ ap (λ k. every t 0 n && t k) f
  where
    go : (i n : ℕ) → every t i (suc n) ≡ (every t i n && t (i + n))
    go i zero = let e : i ≡ i + 0 = omega arith in and-true (t i) ∙ ap t e
    go i (suc n) =
        let e : suc i + n ≡ i + suc n = omega arith in
        ap (λ b. t i && b) (go (suc i) n)
        ∙ sym (and_assoc (t i) (every t (suc i) n) (t (suc i + n)))
        ∙ ap (λ k. (t i && every t (suc i) n) && t k) e

-- a test of every number below n, at one of them
pub every_is : (t : ℕ → Bool) (n : ℕ) → every t 0 n ≡ true → (k : ℕ) → k < n → t k ≡ true
every_is t n e k h = go 0 n e (omega arith) (omega arith)
  where
    go : (i n : ℕ) → every t i n ≡ true → i ≤ k → k < i + n → t k ≡ true
    go i zero e low high = absurd (omega arith)
    go i (suc n) e low high =
        let both = split _ _ e in
        elim (eq-or-lt_of_le low) [
          | inl here ↦ ap t (sym here) ∙ both.0
          | inr after ↦ go (suc i) n both.1 (omega arith) (omega arith)
        ]

pub within_fits : (most z : ℤ) → most ≤ℤ largest → within most z ≡ true → SFits w16 z
within_fits most z l e = grind (arith, ints)

-- the numbers of a block whose lines fit have 16 bits
pub fit_short : (n : ℕ) (most : ℤ) (m : List (List ℤ)) → most ≤ℤ largest → every (λ i. fits n most (row m i)) 0 n ≡ true
    → (i : ℕ) → i < n → (j : ℕ) → j < n → SFits w16 (at (row m i) j)
fit_short n most m l e i hi j hj =
    within_fits most _ l (every_is (λ j. within most (at (row m i) j)) n (every_is (λ i. fits n most (row m i)) n e i hi) j hj)

-- ---- steps

pub none_some : {A X : Type 0} {a : A} → None ≡ Some a → X
none_some {A} {X} {a} e = absurd (let z : ◌≡◌ {A = ℕ} 0 1 = cc in omega arith)

-- two tested steps are one step with both tests
pub tested : {A B : Type 0} (a b : Bool) (e : A) (next : A → Option B) (x : B) → next e ≡ cond b (Some x) None
    → then (cond a (Some e) None) next ≡ cond (a && b) (Some x) None
tested true b e next x h = h
tested false b e next x h = refl

pub then_cond : {A B : Type 0} (t : Bool) (a : A) (f : A → B) → then (cond t (Some a) None) (λ a. Some (f a)) ≡ cond t (Some (f a)) None
then_cond true a f = refl
then_cond false a f = refl

pub all_cond : {A : Type 0} (b : ℕ → Bool) (x : ℕ → A) (i n : ℕ) → all (from (λ k. cond (b k) (Some (x k)) None) i n) ≡ cond (every b i n) (Some (from x i n)) None
all_cond b x i zero = refl
all_cond b x i (suc n) =
    ap (λ o. then (cond (b i) (Some (x i)) None) (λ a. then o (λ rest. Some (a ∷ rest)))) (all_cond b x (suc i) n)
    ∙ tested (b i) (every b (suc i) n) (x i) (λ a. then (cond (every b (suc i) n) (Some (from x (suc i) n)) None) (λ rest. Some (a ∷ rest)))
    (from x i (suc n)) (then_cond (every b (suc i) n) (from x (suc i) n) (λ rest. x i ∷ rest))

-- a block whose lines are held one by one, by one test
pub held_block : (n : ℕ) (m : List (List ℤ)) (b : Bool) → b ≡ every (λ i. fits n largest (row m i)) 0 n
    → cond b (Some (block n (cells m))) None ≡ all (from (λ i. held n largest (row m i)) 0 n)
held_block n m b e =
    ap (λ b. cond b (Some (block n (cells m))) None) e
    ∙ sym (all_cond (λ i. fits n largest (row m i)) (λ i. from (cells m i) 0 n) 0 n)
