-- Numbers by class, at their places.
use Rattle.std.proofs.Common.{◌≡◌, ℕ, ◌%◌, ◌≤◌, List, [], get_or, refl}
use Rattle.laws.specs.Eight.{group8, class8}
use Rattle.transform.specs.Pattern.{pattern_at, AtMost}
use Rattle.transform.proofs.Places.{every_row}
use Rattle.transform8.specs.Inner.{pattern}

abbrev by_class : (ℕ → ℕ) → List (List ℕ)
by_class f = pattern (f 0) (f 1) (f 2) (f 3) (f 4) (f 5)

-- the class of a place chooses its number
pub pattern_is : (f : ℕ → ℕ) (i j : ℕ) → pattern_at (pattern (f 0) (f 1) (f 2) (f 3) (f 4) (f 5)) i j ≡ f (class8 (group8 (i % 4)) (group8 (j % 4)))
pattern_is f i j =
    let P : ℕ → ℕ → Type 0 = λ a b. get_or (get_or (by_class f) a []) b 0 ≡ f (class8 (group8 a) (group8 b)) in
    let row : (a : ℕ) → P a 0 → P a 1 → P a 2 → P a 3 → P a (j % 4) = λ a p q r s. every_row (P a) p q r s j in
    every_row (λ a. P a (j % 4)) (row 0 refl refl refl refl) (row 1 refl refl refl refl) (row 2 refl refl refl refl) (row 3 refl refl refl refl) i

pub pattern_most : (n : ℕ) (f : ℕ → ℕ) → (f 0 ≤ n) × (f 1 ≤ n) × (f 2 ≤ n) × (f 3 ≤ n) × (f 4 ≤ n) × (f 5 ≤ n) → AtMost n (pattern (f 0) (f 1) (f 2) (f 3) (f 4) (f 5))
pattern_most n f h i j =
    let P : ℕ → ℕ → Type 0 = λ a b. get_or (get_or (by_class f) a []) b 0 ≤ n in
    let row : (a : ℕ) → P a 0 → P a 1 → P a 2 → P a 3 → P a (j % 4) = λ a p q r s. every_row (P a) p q r s j in
    every_row (λ a. P a (j % 4)) (row 0 h.0 h.3 h.4 h.3) (row 1 h.3 h.1 h.5 h.1) (row 2 h.4 h.5 h.2 h.5) (row 3 h.3 h.1 h.5 h.1) i
