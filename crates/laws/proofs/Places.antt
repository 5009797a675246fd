-- Places of a tile of n by n that runs row by row, n i + j for row i and column j, and the numbers at them.
use Rattle.std.proofs.Common.{◌≡◌, ℕ, zero, suc, ◌+◌, ◌*◌, ◌/◌, ◌%◌, ◌<◌, ◌≤◌, List, length, ℤ, pos, negsuc, ◌≤ℤ◌, nat_abs, ap, ◌∙◌, div-lt_iff_lt-mul, mul-le-mul_left, arith}
use Rattle.std.proofs.Math.Nat.{div-add-mod}
use Rattle.std.proofs.lemmas.Int.{ints}
use Rattle.std.proofs.lemmas.Nat.{mod_below, div-mul-add, mod-mul-add}
use Rattle.kinds.specs.Meaning.{Differences}
use Rattle.laws.specs.Blocks.{Grid, tile, row_by_row}
use Rattle.laws.proofs.Lists.{at_from}

-- a row ends before the next begins
pub row_end : (n i k : ℕ) → i < k → n * i + n ≤ n * k
row_end n i k h = omega (arith, mul-le-mul_left n h)

pub place_below : (n i j : ℕ) → i < n → j < n → n * i + j < n * n
place_below n i j hi hj = omega (arith, row_end n i n hi)

-- a tile with a place in it has rows
pub some_row : (n t : ℕ) → t < n * n → 0 < n
some_row zero t h = absurd (omega arith)
some_row (suc n) t h = omega arith

-- a place, by its row and its column
pub place_is : (n t : ℕ) → n * (t / n) + t % n ≡ t
place_is n t = div-add-mod t n

pub place_row : (n t : ℕ) → 0 < n → t < n * n → t / n < n
place_row n t h l = (div-lt_iff_lt-mul h).1 l

pub place_column : (n t : ℕ) → 0 < n → t % n < n
place_column n t h = mod_below t n h

-- the row and the column of a place
row_of_place : (n i j : ℕ) → j < n → (n * i + j) / n ≡ i
row_of_place n i j h = ap (λ k. k / n) (omega arith) ∙ div-mul-add i n j h

column_of_place : (n i j : ℕ) → j < n → (n * i + j) % n ≡ j
column_of_place n i j h = ap (λ k. k % n) (omega arith) ∙ mod-mul-add i n j h

-- a place of a tile that was written row by row
pub tile_row_by_row : (n : ℕ) (g : Grid) (i j : ℕ) → i < n → j < n → tile n (row_by_row n g) i j ≡ g i j
tile_row_by_row n g i j hi hj =
    at_from (λ t. g (t / n) (t % n)) (n * n) (n * i + j) (place_below n i j hi hj)
    ∙ ap (λ k. g k ((n * i + j) % n)) (row_of_place n i j hj)
    ∙ ap (g i) (column_of_place n i j hj)

-- a difference of two bytes
sized : (z : ℤ) → (negsuc 254 ≤ℤ z) × (z ≤ℤ pos 255) → nat_abs z ≤ 255
sized z h = omega (arith, ints, h.0, h.1)

-- a residual, by its places
pub tile_small : (n : ℕ) (residual : List ℤ) → length residual ≡ n * n → Differences residual
    → (i j : ℕ) → i < n → j < n → nat_abs (tile n residual i j) ≤ 255
tile_small n residual long small i j hi hj = sized (tile n residual i j) (small (n * i + j) (omega (arith, place_below n i j hi hj)))
