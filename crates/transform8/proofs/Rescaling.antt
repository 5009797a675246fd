-- One line of code does for the two shifts of rescaling.
use Rattle.std.proofs.Common.{◌≡◌, ℕ, zero, suc, ◌-◌, ◌*◌, ◌/◌, ◌^◌, ◌≤◌, ℤ, pos, ◌+ℤ◌, ◌*ℤ◌, sym, ap, ◌∙◌, arith}
use Rattle.std.proofs.Math.IntN.{*ℤ-one}
use lib.IntN.{*ℤ_comm}
use lib.Signed.{shr_z}
use Rattle.laws.specs.Eight.{rescale8}
use Rattle.laws.proofs.Linear.{*ℤ-assoc}
use Rattle.transform.proofs.Blocks.{unshifted}
use Rattle.transform8.specs.Inner.{step}

-- the step, taken out of the product
stepped : (l : ℤ) (v p : ℕ) → l *ℤ pos (16 * v * p) ≡ pos 16 *ℤ (l *ℤ pos v) *ℤ pos p
stepped l v p =
    sym (*ℤ-assoc l (pos (16 * v)) (pos p))
    ∙ ap (λ z. z *ℤ pos p) (*ℤ_comm l (pos (16 * v)) ∙ *ℤ-assoc (pos 16) (pos v) l ∙ ap (λ z. pos 16 *ℤ z) (*ℤ_comm (pos v) l))

right : (l : ℤ) (v half m : ℕ) → shr_z (l *ℤ pos (16 * v * 1) +ℤ pos half) m ≡ shr_z (pos 16 *ℤ (l *ℤ pos v) +ℤ pos half) m
unfolding lib.IntN.one
right l v half m = ap (λ z. shr_z (z +ℤ pos half) m) (stepped l v 1 ∙ *ℤ-one (pos 16 *ℤ (l *ℤ pos v)))

left : (l : ℤ) (v p : ℕ) → shr_z (l *ℤ pos (16 * v * p) +ℤ pos 0) 1 ≡ pos 16 *ℤ (l *ℤ pos v) *ℤ pos p
left l v p = unshifted _ ∙ stepped l v p

pub rescale_is : (l : ℤ) (v k : ℕ) → k ≤ 8 → shr_z (l *ℤ pos (step v k) +ℤ pos (2 ^ (6 - k) / 2)) (2 ^ (6 - k)) ≡ rescale8 k (l *ℤ pos v)
rescale_is l v zero h = right l v 32 64
rescale_is l v (suc zero) h = right l v 16 32
rescale_is l v (suc (suc zero)) h = right l v 8 16
rescale_is l v (suc (suc (suc zero))) h = right l v 4 8
rescale_is l v (suc (suc (suc (suc zero)))) h = right l v 2 4
rescale_is l v (suc (suc (suc (suc (suc zero))))) h = right l v 1 2
rescale_is l v (suc (suc (suc (suc (suc (suc zero)))))) h = left l v 1
rescale_is l v (suc (suc (suc (suc (suc (suc (suc zero))))))) h = left l v 2
rescale_is l v (suc (suc (suc (suc (suc (suc (suc (suc zero)))))))) h = left l v 4
rescale_is l v (suc (suc (suc (suc (suc (suc (suc (suc (suc k))))))))) h = absurd (omega arith)
