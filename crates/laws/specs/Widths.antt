-- The widths that numbers on the way back must keep to, and steps that are refused where one leaves its width.
use Rattle.std.specs.Prelude.{ℕ, zero, suc, Bool, true, cond, ◌&&◌, List, [], ◌∷◌, ℤ, pos, negsuc, Some, None, Option, int_le}
use Rattle.laws.specs.Blocks.{at, from}

-- the largest number of 16 bits, and the largest column result: the last rounding adds 32 to it
abbrev pub largest : ℤ
largest = pos 32767

abbrev pub largest_column : ℤ
largest_column = pos 32735

-- from -32768 to `most`
abbrev pub within : (most : ℤ) → ℤ → Bool
within most z = int_le (negsuc 32767) z && int_le z most

abbrev pub every : (ℕ → Bool) → (i n : ℕ) → Bool
every test i zero = true
every test i (suc n) = test i && every test (suc i) n

abbrev pub fits : (n : ℕ) (most : ℤ) → List ℤ → Bool
fits n most line = every (λ i. within most (at line i)) 0 n

-- a line of n numbers, refused where one leaves its width
abbrev pub held : (n : ℕ) (most : ℤ) → List ℤ → Option (List ℤ)
held n most line = cond (fits n most line) (Some (from (at line) 0 n)) None

-- a step after another, which may have been refused
abbrev pub then : {A B : Type 0} → Option A → (A → Option B) → Option B
then None next = None
then (Some a) next = next a

-- all of them, unless one is refused
abbrev pub all : {A : Type 0} → List (Option A) → Option (List A)
all [] = Some []
all (o ∷ os) = then o (λ a. then (all os) (λ rest. Some (a ∷ rest)))
