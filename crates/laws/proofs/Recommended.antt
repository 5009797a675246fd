-- The Recommendation's form of rescaling a 4 by 4 level is level × v × 2^k: what it adds to round is shifted out again.
use Rattle.std.proofs.Common.{◌≡◌, ℕ, zero, suc, ◌*◌, ℤ, pos, ◌+ℤ◌, ◌*ℤ◌, ap, ◌∙◌, arith, lit<}
use lib.IntN.{*ℤ_comm}
use lib.Signed.{shr_z}
use borrow.Author.Differences.{product_is, sum_is_lem, same_in}
use Rattle.laws.specs.Four.{RecommendedRescaling}
use Rattle.laws.proofs.Linear.{*ℤ-assoc, scale_is, shr_is}

-- 16 v, taken out of the product
scaled : (level : ℤ) (v : ℕ) → level *ℤ pos (16 * v) ≡ pos 16 *ℤ (level *ℤ pos v)
scaled level v = *ℤ_comm level (pos (16 * v)) ∙ *ℤ-assoc (pos 16) (pos v) level ∙ ap (λ z. pos 16 *ℤ z) (*ℤ_comm (pos v) level)

-- below QP 24: to the right
right0 : (z : ℤ) → shr_z (pos 16 *ℤ z +ℤ pos 8) 16 ≡ z *ℤ pos 1
right0 z = same_in _ _ (omega (arith, shr_is 16 (lit< tt) (pos 16 *ℤ z +ℤ pos 8), sum_is_lem (pos 16 *ℤ z) (pos 8), scale_is 16 z, product_is z (pos 1)))

right1 : (z : ℤ) → shr_z (pos 16 *ℤ z +ℤ pos 4) 8 ≡ z *ℤ pos 2
right1 z = same_in _ _ (omega (arith, shr_is 8 (lit< tt) (pos 16 *ℤ z +ℤ pos 4), sum_is_lem (pos 16 *ℤ z) (pos 4), scale_is 16 z, product_is z (pos 2)))

right2 : (z : ℤ) → shr_z (pos 16 *ℤ z +ℤ pos 2) 4 ≡ z *ℤ pos 4
right2 z = same_in _ _ (omega (arith, shr_is 4 (lit< tt) (pos 16 *ℤ z +ℤ pos 2), sum_is_lem (pos 16 *ℤ z) (pos 2), scale_is 16 z, product_is z (pos 4)))

right3 : (z : ℤ) → shr_z (pos 16 *ℤ z +ℤ pos 1) 2 ≡ z *ℤ pos 8
right3 z = same_in _ _ (omega (arith, shr_is 2 (lit< tt) (pos 16 *ℤ z +ℤ pos 1), sum_is_lem (pos 16 *ℤ z) (pos 1), scale_is 16 z, product_is z (pos 8)))

-- from there on: to the left
left : (z : ℤ) (p : ℕ) → pos 16 *ℤ z *ℤ pos p ≡ z *ℤ pos (16 * p)
left z p = ap (λ y. y *ℤ pos p) (*ℤ_comm (pos 16) z) ∙ *ℤ-assoc z (pos 16) (pos p)

pub recommended_rescaling : RecommendedRescaling
recommended_rescaling level v zero h = ap (λ z. shr_z (z +ℤ pos 8) 16) (scaled level v) ∙ right0 (level *ℤ pos v)
recommended_rescaling level v (suc zero) h = ap (λ z. shr_z (z +ℤ pos 4) 8) (scaled level v) ∙ right1 (level *ℤ pos v)
recommended_rescaling level v (suc (suc zero)) h = ap (λ z. shr_z (z +ℤ pos 2) 4) (scaled level v) ∙ right2 (level *ℤ pos v)
recommended_rescaling level v (suc (suc (suc zero))) h = ap (λ z. shr_z (z +ℤ pos 1) 2) (scaled level v) ∙ right3 (level *ℤ pos v)
recommended_rescaling level v (suc (suc (suc (suc zero)))) h = ap (λ z. z *ℤ pos 1) (scaled level v) ∙ left (level *ℤ pos v) 1
recommended_rescaling level v (suc (suc (suc (suc (suc zero))))) h = ap (λ z. z *ℤ pos 2) (scaled level v) ∙ left (level *ℤ pos v) 2
recommended_rescaling level v (suc (suc (suc (suc (suc (suc zero)))))) h = ap (λ z. z *ℤ pos 4) (scaled level v) ∙ left (level *ℤ pos v) 4
recommended_rescaling level v (suc (suc (suc (suc (suc (suc (suc zero))))))) h = ap (λ z. z *ℤ pos 8) (scaled level v) ∙ left (level *ℤ pos v) 8
recommended_rescaling level v (suc (suc (suc (suc (suc (suc (suc (suc zero)))))))) h = ap (λ z. z *ℤ pos 16) (scaled level v) ∙ left (level *ℤ pos v) 16
recommended_rescaling level v (suc (suc (suc (suc (suc (suc (suc (suc (suc k))))))))) h = absurd (omega arith)
