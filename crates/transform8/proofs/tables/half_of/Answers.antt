use Rattle.std.proofs.Common.{◌≡◌, ℕ, ◌*◌, ◌/◌, ◌%◌, ◌^◌, ◌≤◌, ap, arith, pow_mono}
use Rattle.transform8.proofs.tables.half_of.Goals as goal

pub returns : goal.returns
returns c =
    let s = c.args.shift in let m : 2 ^ s ≤ 2 ^ 6 = pow_mono c.requires in
    let e : (1 * 2 ^ s) % 4294967296 ≡ 2 ^ s = omega (arith, m) in
    record { value = ap (λ (n : ℕ). n / 2) e; small = omega (arith, m) }
