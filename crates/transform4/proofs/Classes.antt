-- Numbers by class, at their places.
use Rattle.std.proofs.Common.{◌≡◌, ℕ, ◌%◌, ◌<◌, refl}
use Rattle.laws.specs.Four.{class4}
use Rattle.transform.specs.Pattern.{pattern_at}
use Rattle.transform.proofs.Places.{at4}
use Rattle.transform4.specs.Inner.{pattern}

-- the class of a place chooses its number
pub pattern_is : (f : ℕ → ℕ) (i j : ℕ) → i < 4 → j < 4 → pattern_at (pattern (f 0) (f 1) (f 2)) i j ≡ f (class4 (i % 2) (j % 2))
pattern_is f i j hi hj =
    let P : ℕ → ℕ → Type 0 = λ i j. pattern_at (pattern (f 0) (f 1) (f 2)) i j ≡ f (class4 (i % 2) (j % 2)) in
    at4 (λ i. P i j) (at4 (P 0) refl refl refl refl j hj) (at4 (P 1) refl refl refl refl j hj) (at4 (P 2) refl refl refl refl j hj) (at4 (P 3) refl refl refl refl j hj) i hi
