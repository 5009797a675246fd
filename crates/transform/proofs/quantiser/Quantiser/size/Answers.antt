use Rattle.std.proofs.Common.{ℕ, ◌+◌, ◌*◌, ◌/◌, ◌^◌, ◌<◌, ◌≤◌, ◌≡◌, pos, sym, ap, ap₂, subst, ◌∙◌, div-lt_iff_lt-mul, arith, pow_pos, w16}
use Rattle.std.proofs.lemmas.Nat.{pow-add}
use Rattle.std.proofs.lemmas.Int.{to_z_pos}
use Rattle.transform.proofs.quantiser.Quantiser.size.Goals as goal

-- a level has 16 bits
short : (product add shift : ℕ) → product < 2 ^ (shift + 14) → 3 * add ≤ 2 ^ shift → (product + add) / 2 ^ shift < 32768
short product add shift room small =
    let e : 2 ^ (shift + 14) ≡ 2 ^ shift * 16384 = pow-add 2 shift 14 in
    (div-lt_iff_lt-mul (pow_pos shift)).1 (omega arith)

-- of numbers in 64 bits, that of the numbers
same : (shift : ℕ) {a b c x y z : ℕ} → a ≡ x → b ≡ y → c ≡ z → (a * b + c) / 2 ^ shift ≡ (x * y + z) / 2 ^ shift
same shift e f g = ap (λ sum. sum / 2 ^ shift) (ap₂ ◌+◌ (ap₂ ◌*◌ e f) g)

pub overflow_cast-result-2 : goal.overflow_cast-result-2
overflow_cast-result-2 c =
    record { sfits = subst (λ size. size < 32768) (sym (same c.args.self.now.shift c.from.ensures c.from-2.ensures c.from-3.ensures)) (short _ _ _ c.requires.room c.args.self.now.add_small) }

pub returns : goal.returns
returns c = to_z_pos w16 _ (overflow_cast-result-2 c).sfits ∙ ap pos (same c.args.self.now.shift c.from.ensures c.from-2.ensures c.from-3.ensures)
