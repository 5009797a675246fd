use Rattle.std.proofs.Common.{◌≡◌, ℕ, ◌*◌, ◌/◌, ◌%◌, ◌^◌, ◌≤◌, sym, ap, ◌∙◌, arith, pow_mono}
use Rattle.laws.specs.Quantiser.{rounding}
use Rattle.laws.proofs.quantiser.rounding.Goals as goal

-- the divisor, as it is shifted into place
unit_is : (s : ℕ) → s ≤ 30 → (1 * 2 ^ s) % 4294967296 ≡ 2 ^ s
unit_is s h = omega (arith, pow_mono h)

pub returns-in-Intra : goal.returns-in-Intra
returns-in-Intra c =
    let e = unit_is c.args.shift c.requires in
    record { value = ap (λ (n : ℕ). n / 3) e ∙ ap (λ s. rounding s (2 ^ c.args.shift)) (sym c.in-Intra.is); third = omega (arith, e) }

pub returns-in-Inter : goal.returns-in-Inter
returns-in-Inter c =
    let e = unit_is c.args.shift c.requires in
    record { value = ap (λ (n : ℕ). n / 6) e ∙ ap (λ s. rounding s (2 ^ c.args.shift)) (sym c.in-Inter.is); third = omega (arith, e) }
