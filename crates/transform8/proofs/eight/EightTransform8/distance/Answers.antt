use Rattle.std.proofs.Common.{ℕ, ◌*◌, ◌%◌, ◌^◌, ◌≤◌, arith, pow_mono}
use Rattle.std.proofs.lemmas.Nat.{mul-le}
use Rattle.transform8.proofs.eight.EightTransform8.distance.Goals as goal

-- the error in sixths of a level, times the weighed factors
product_small : (g k w : ℕ) → g ≤ 5 → k ≤ 8 → w ≤ 201898 → ((g * 2 ^ k) % 4294967296) * w ≤ 258429440
product_small g k w hg hk hw =
    mul-le ((g * 2 ^ k) % 4294967296) w 1280 201898 (omega (arith, mul-le g (2 ^ k) 5 256 hg (pow_mono hk))) hw

pub overflow_mul-result : goal.overflow_mul-result
overflow_mul-result c =
    omega (arith, product_small c.error_sixths.result c.doublings.result c.weighed_factors.result c.error_sixths.ensures.small c.doublings.ensures.small c.weighed_factors.ensures.small)

pub overflow_add-result : goal.overflow_add-result
overflow_add-result c =
    omega (arith, product_small c.error_sixths.result c.doublings.result c.weighed_factors.result c.error_sixths.ensures.small c.doublings.ensures.small c.weighed_factors.ensures.small)
