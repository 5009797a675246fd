use Rattle.std.proofs.Common.{◌≡◌, ℕ, ◌-◌, ◌*◌, ◌%◌, ◌^◌, ◌≤◌, ap, ◌∙◌, arith, pow_mono}
use Rattle.std.proofs.lemmas.Nat.{mul-le}
use Rattle.transform8.proofs.tables.step.Goals as goal

pub returns : goal.returns
returns c =
    let v = c.args.factor in let k = c.args.k in
    let e : c.saturating_sub.result ≡ k - 6 = c.saturating_sub.ensures in
    let d : k - 6 ≤ 2 = omega (arith, c.requires.k) in
    let small : 16 * v * 2 ^ (k - 6) ≤ 3712 = omega (arith, mul-le v (2 ^ (k - 6)) 58 4 c.requires.factor (pow_mono d)) in
    let whole : (16 * v * 2 ^ (k - 6)) % 4294967296 ≡ 16 * v * 2 ^ (k - 6) = omega arith in
    let value = ap (λ (n : ℕ). (16 * v * 2 ^ n) % 4294967296) e ∙ whole in
    record { value = value; small = omega (arith, value) }
