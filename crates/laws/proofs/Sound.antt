-- What a transform must meet for the error limit, by the groups and classes of its places.
use Rattle.std.proofs.Common.{◌≡◌, ℕ, zero, suc, ◌+◌, ◌-◌, ◌*◌, ◌^◌, ◌<◌, ◌≤◌, Bool, T as Holds, leb, List, ℤ, pos, ◌*ℤ◌, Some}
use Rattle.laws.specs.Blocks.{from}
use Rattle.laws.specs.Widths.{every}
use Rattle.laws.specs.Transform.{Transform}
use Rattle.laws.proofs.Lists.{Each}
use Rattle.laws.proofs.Linear.{Near, weighed}
use Rattle.laws.proofs.Sizes.{Reaches}
use Rattle.laws.proofs.Inverts.{Inverts}

-- f 0 + f 1 + .. : n of them
abbrev pub total : ℕ → (ℕ → ℕ) → ℕ
total zero f = 0
total (suc n) f = total n f + f n

-- a at index 0, and nothing at the others
abbrev pub first : ℕ → ℕ → ℕ
first a zero = a
first a (suc i) = 0

abbrev pub apart : ℕ → ℕ → ℕ
apart a b = (a - b) + (b - a)

-- how far the products of the two tables, times 6 gain, lie from 24 times the weights of row and column: at QP mod 6 = r,
-- for the groups a and b of row and column
abbrev pub mismatch : Transform → (weight : ℕ → ℕ) (gain : ℕ) → (r a b : ℕ) → ℕ
mismatch T weight gain r a b =
    let c = T.class a b in apart (gain * (6 * (T.multiplier r c * T.factor r c))) (24 * weight a * weight b * 2 ^ T.shift)

-- over a coefficient of the largest size, this is at most `slack`
abbrev pub close : Transform → (weight reach slack : ℕ → ℕ) (gain : ℕ) → (r a b : ℕ) → Bool
close T weight reach slack gain r a b =
    leb (reach b * (reach a * 255) * mismatch T weight gain r a b) (2 ^ T.shift * (gain * slack (T.class a b)))

pub record Sound (T : Transform) : Type 0 where
  -- the pass, without its tests, undoes the forward rows, weighed by group
  pub weight : ℕ → ℕ
  pub inverts : Inverts T.points T.forward (λ i. weight (T.group i))
  pub accepted : (most : ℤ) (d r : List ℤ) → T.pass most d ≡ Some r → r ≡ inverts.value d
  pub groups : ℕ
  pub grouped : Each (λ i. T.group i < groups) T.points
  -- the sizes of the numbers of a basis row, added up over each group; the first place may have an error of its own
  pub share : ℕ → ℕ
  pub head : ℕ
  pub shares : (f : ℕ → ℕ) (a : ℕ) → let sum = total groups (λ g. share g * f g) + head * a in
      Each (λ t. weighed (inverts.basis t) (from (λ j. f (T.group j) + first a j) 0 T.points) ≤ sum) T.points
  -- the sizes of the numbers of a forward row, added up
  pub reach : ℕ → ℕ
  pub reaches : Reaches T reach
  -- scale times a rescaled number is the number times 2 ^ k, up to `spill`
  pub scale : ℕ
  pub spill : ℕ
  pub rescaling : (z : ℤ) → Each (λ k. Near (pos scale *ℤ T.rescale k z) (z *ℤ pos (2 ^ k)) spill) 9
  -- what the tables lose, by class; the gain is a common factor of all errors
  pub gain : ℕ
  pub some : 0 < gain
  pub slack : ℕ → ℕ
  pub tables : Holds (every (λ r. every (λ a. every (close T weight reach slack gain r a) 0 groups) 0 groups) 0 6)
  -- a block that is quantised without loss comes back 64 times as large
  pub exact : 24 * inverts.unit * inverts.unit ≡ gain * (6 * scale * inverts.part * inverts.part * 64)
