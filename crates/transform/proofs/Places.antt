-- A pattern of four rows and four columns, place by place.
use Rattle.std.proofs.Common.{ℕ, zero, suc, ◌%◌, ◌<◌, arith, lit<}
use Rattle.std.proofs.lemmas.Nat.{mod_below}

pub at4 : (P : ℕ → Type 0) → P 0 → P 1 → P 2 → P 3 → (i : ℕ) → i < 4 → P i
at4 P p q r s zero h = p
at4 P p q r s (suc zero) h = q
at4 P p q r s (suc (suc zero)) h = r
at4 P p q r s (suc (suc (suc zero))) h = s
at4 P p q r s (suc (suc (suc (suc i)))) h = absurd (omega arith)

-- what holds at each index below four holds at every index, modulo four
pub every_row : (P : ℕ → Type 0) → P 0 → P 1 → P 2 → P 3 → (i : ℕ) → P (i % 4)
every_row P p q r s i = at4 P p q r s (i % 4) (mod_below i 4 (lit< tt))
