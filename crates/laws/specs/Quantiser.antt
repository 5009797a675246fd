-- The quantiser: from a coefficient to its level.
use Rattle.std.specs.Prelude.{ℕ, ◌+◌, ◌*◌, ◌/◌, ◌^◌, ℤ, pos, negsuc, neg_ℤ, unsigned_abs}
use Rattle.kinds.specs.declared.kind.Sort.{Sort}
use Rattle.kinds.specs.declared.kind.Sort.TheVariants.{Intra, Inter}

-- what is added before the shift, where the shift divides by `unit`
abbrev pub rounding : Sort → (unit : ℕ) → ℕ
rounding Intra unit = unit / 3
rounding Inter unit = unit / 6

-- the largest error that this leaves, in sixths of a level
abbrev pub error_sixths : Sort → ℕ
error_sixths Intra = 4
error_sixths Inter = 5

abbrev pub with_sign : ℤ → ℕ → ℤ
with_sign (pos n) size = pos size
with_sign (negsuc n) size = neg_ℤ (pos size)

-- the sign of the coefficient, and the size (|coefficient| × multiplier + add) >> shift
abbrev pub quantised : (coefficient : ℤ) (multiplier add shift : ℕ) → ℤ
quantised coefficient multiplier add shift = with_sign coefficient ((unsigned_abs coefficient * multiplier + add) / 2 ^ shift)
