-- How far a level lies from its coefficient.
-- Below, w is a coefficient and l its level, m and v are the entries of the two tables, 2 ^ s = q p with p = 2 ^ (QP / 6),
-- and g is the error in sixths of a level.
use Rattle.std.proofs.Common.{◌≡◌, ℕ, ◌+◌, ◌*◌, ◌/◌, ◌^◌, ◌<◌, ◌≤◌, ℤ, pos, negsuc, ◌*ℤ◌, neg_ℤ, nat_abs, sym, refl, ap, ◌∙◌, subst, mul-le-mul_left, arith}
use lib.IntN.{*ℤ_comm}
use Rattle.std.proofs.lemmas.Nat.{pow_pos, div-add-mod', mod_below}
use borrow.Author.Differences.{neg_is}
use Rattle.kinds.specs.declared.kind.Sort.{Sort}
use Rattle.kinds.specs.declared.kind.Sort.TheVariants.{Intra, Inter}
use Rattle.laws.specs.Quantiser.{rounding, error_sixths, with_sign, quantised}
use Rattle.laws.proofs.Linear.{times_times, scale_is, Near, near_same, near_wider, near_trans, near_pos, near_cancel, near_factor}

-- f is added before a unit u is divided out: the level is then too large by at most f, and too small by at most u - f - 1.
-- Neither is more than g sixths of u, but for r sixths.
pub record Rounds (f u g r : ℕ) : Type 0 where
  pub most : 6 * f + g * u ≤ 6 * u
  pub least : 6 * u ≤ 6 * f + g * u + 6 + r
  pub half : 3 ≤ g

rounds : (sort : Sort) (u : ℕ) → Rounds (rounding sort u) u (error_sixths sort) 0
rounds Intra u = omega arith
rounds Inter u = omega arith

-- sizes at most n apart
abbrev Apart : ℕ → ℕ → ℕ → Type 0
Apart a b n = (a ≤ b + n) × (b ≤ a + n)

level_size : (w m v p f l g q r : ℕ) → l * (q * p) ≤ w * m + f → w * m + f < l * (q * p) + q * p → Rounds f (q * p) g r →
    Apart (6 * (q * (v * p)) * l) (6 * (m * v) * w) (q * (g * (v * p)) + v * r)
level_size w m v p f l g q r low high h =
    let a = mul-le-mul_left v low in let b = mul-le-mul_left v high in
    let c = mul-le-mul_left v h.most in let d = mul-le-mul_left v h.least in let e = mul-le-mul_left (v * (q * p)) h.half in
    omega arith

with_sign_near : (w : ℤ) (l c s n : ℕ) → Apart (c * l) (s * nat_abs w) n → Near (pos c *ℤ with_sign w l) (pos s *ℤ w) n
with_sign_near (pos a) l c s n h = omega arith
with_sign_near (negsuc a) l c s n h =
    let e = neg_is (pos l) in omega (arith, scale_is s (negsuc a), scale_is c (neg_ℤ (pos l)), ap (λ i. c * i) e.0, ap (λ i. c * i) e.1)

-- a level beside its coefficient, for any rounding
pub level_near : (w : ℤ) (m v p f s g q r : ℕ) → 2 ^ s ≡ q * p → Rounds f (q * p) g r →
    Near (pos (6 * (q * (v * p))) *ℤ quantised w m f s) (pos (6 * (m * v)) *ℤ w) (q * (g * (v * p)) + v * r)
level_near w m v p f s g q r e h =
    let a = nat_abs w * m + f in let u = 2 ^ s in let l = a / u in
    let low : l * u ≤ a = omega (arith, div-add-mod' a u) in
    let high : a < l * u + u = omega (arith, div-add-mod' a u, mod_below a u (pow_pos s)) in
    with_sign_near w l (6 * (q * (v * p))) (6 * (m * v)) (q * (g * (v * p)) + v * r)
    (level_size (nat_abs w) m v p f l g q r (subst (λ z. l * z ≤ a) e low) (subst (λ z. a < l * z + z) e high) h)

-- what a level stands for beside its coefficient: G 6 (l v p) and Ω w, where the tables bring G 6 m v within d of Ω q
module _ (w : ℤ) (m v p s q G Ω d t : ℕ) (sort : Sort) (e : 2 ^ s ≡ q * p) where
  abbrev f : ℕ
  f = rounding sort (2 ^ s)

  abbrev g : ℕ
  g = error_sixths sort

  abbrev l : ℤ
  l = quantised w m f s

  abbrev stands : ℤ
  stands = pos (G * 6) *ℤ (l *ℤ pos (v * p))

  exact : Near (pos G *ℤ (pos (6 * (q * (v * p))) *ℤ l)) (pos (G * (6 * (m * v))) *ℤ w) (G * (q * (g * (v * p)) + v * 0))
  exact =
      let h = subst (λ u. Rounds f u g 0) e (rounds sort (2 ^ s)) in
      near_same refl (times_times G (6 * (m * v)) w) (near_pos G (level_near w m v p f s g q 0 e h))

  regrouped : pos G *ℤ (pos (6 * (q * (v * p))) *ℤ l) ≡ pos q *ℤ stands
  regrouped =
      times_times G (6 * (q * (v * p))) l ∙ ap (λ n. pos n *ℤ l) (omega arith) ∙ sym (times_times q (G * 6 * (v * p)) l)
      ∙ ap (λ z. pos q *ℤ z) (sym (times_times (G * 6) (v * p) l) ∙ ap (λ z. pos (G * 6) *ℤ z) (*ℤ_comm (pos (v * p)) l))

  pub entry_near : 0 < q → G * (6 * (m * v)) ≤ Ω * q + d → Ω * q ≤ G * (6 * (m * v)) + d → nat_abs w * d ≤ q * (G * t) →
      Near stands (pos Ω *ℤ w) (G * (g * (v * p) + t))
  entry_near some over under small =
      let table = near_factor (G * (6 * (m * v))) (q * Ω) d (q * (G * t)) w (omega arith) (omega arith) small in
      let near = near_same regrouped (sym (times_times q Ω w)) (near_trans exact table) in
      near_cancel q stands (pos Ω *ℤ w) (G * (g * (v * p) + t)) some (near_wider near (omega arith))
