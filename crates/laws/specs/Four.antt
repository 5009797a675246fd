-- The transform of 4 by 4 points.
use Rattle.std.specs.Prelude.{◌≡◌, ℕ, zero, suc, ◌+◌, ◌-◌, ◌*◌, ◌/◌, ◌%◌, ◌^◌, ◌≤◌, cond, List, [], ◌∷◌, ℤ, pos, negsuc, ◌+ℤ◌, ◌-ℤ◌, ◌*ℤ◌, Option, nat_lt, slice_index, slice_index_or}
use Rattle.std.specs.Int.Signed.{shr_z}
use Rattle.kinds.specs.declared.kind.Sort.{Sort}
use Rattle.laws.specs.Blocks.{at}
use Rattle.laws.specs.Widths.{largest, held, then}
use Rattle.laws.specs.Quantiser.{error_sixths}
use Rattle.laws.specs.Transform.{Transform}

-- the rows of C
abbrev pub forward4 : ℕ → List ℤ
forward4 zero = pos 1 ∷ pos 1 ∷ pos 1 ∷ pos 1 ∷ []
forward4 (suc zero) = pos 2 ∷ pos 1 ∷ negsuc 0 ∷ negsuc 1 ∷ []
forward4 (suc (suc zero)) = pos 1 ∷ negsuc 0 ∷ negsuc 0 ∷ pos 1 ∷ []
forward4 (suc (suc (suc i))) = pos 1 ∷ negsuc 1 ∷ pos 2 ∷ negsuc 0 ∷ []

-- e0 .. e3 of an inverse pass
abbrev pub sums4 : List ℤ → List ℤ
sums4 d = (at d 0 +ℤ at d 2) ∷ (at d 0 -ℤ at d 2) ∷ (shr_z (at d 1) 2 -ℤ at d 3) ∷ (at d 1 +ℤ shr_z (at d 3) 2) ∷ []

-- its results
abbrev pub results4 : List ℤ → List ℤ
results4 e = (at e 0 +ℤ at e 3) ∷ (at e 1 +ℤ at e 2) ∷ (at e 1 -ℤ at e 2) ∷ (at e 0 -ℤ at e 3) ∷ []

abbrev pub pass4 : (most : ℤ) → List ℤ → Option (List ℤ)
pass4 most d = then (held 4 largest (sums4 d)) (λ e. held 4 most (results4 e))

-- 0: both even, 1: both odd, 2: the rest
abbrev pub class4 : ℕ → ℕ → ℕ
class4 zero zero = 0
class4 zero (suc j) = 2
class4 (suc i) zero = 2
class4 (suc i) (suc j) = 1

-- rows: QP mod 6; entries: class
abbrev pub multipliers4 : List (List ℕ)
multipliers4 =
    (13107 ∷ 5243 ∷ 8066 ∷ [])
    ∷ (11916 ∷ 4660 ∷ 7490 ∷ [])
    ∷ (10082 ∷ 4194 ∷ 6554 ∷ [])
    ∷ (9362 ∷ 3647 ∷ 5825 ∷ [])
    ∷ (8192 ∷ 3355 ∷ 5243 ∷ [])
    ∷ (7282 ∷ 2893 ∷ 4559 ∷ []) ∷ []

abbrev pub factors4 : List (List ℕ)
factors4 =
    (10 ∷ 16 ∷ 13 ∷ [])
    ∷ (11 ∷ 18 ∷ 14 ∷ [])
    ∷ (13 ∷ 20 ∷ 16 ∷ [])
    ∷ (14 ∷ 23 ∷ 18 ∷ [])
    ∷ (16 ∷ 25 ∷ 20 ∷ [])
    ∷ (18 ∷ 29 ∷ 23 ∷ []) ∷ []

abbrev pub m4 : ℕ → ℕ → ℕ
m4 r c = slice_index (slice_index_or multipliers4 r []) c

abbrev pub v4 : ℕ → ℕ → ℕ
v4 r c = slice_index (slice_index_or factors4 r []) c

abbrev pub four : Transform
four = record {
  points = 4;
  forward = forward4;
  pass = pass4;
  group = λ i. i % 2;
  class = class4;
  multiplier = m4;
  factor = v4;
  shift = 15;
  rescale = λ k z. z *ℤ pos (2 ^ k);
}

-- the Recommendation's own form of rescaling, whose level scale is 16 v: rounded and shifted to the right below QP 24
abbrev pub recommended : (level : ℤ) (v k : ℕ) → ℤ
recommended level v k = cond (nat_lt k 4) (shr_z (level *ℤ pos (16 * v) +ℤ pos (2 ^ (3 - k))) (2 ^ (4 - k))) (level *ℤ pos (16 * v) *ℤ pos (2 ^ (k - 4)))

-- it is level × v × 2^k
abbrev pub RecommendedRescaling : Type 0
RecommendedRescaling = (level : ℤ) (v k : ℕ) → k ≤ 8 → recommended level v k ≡ four.rescale k (level *ℤ pos v)

-- how far a reconstructed sample may lie from the coded one
abbrev pub distance4 : (qp : ℕ) → Sort → ℕ
distance4 qp sort = (error_sixths sort * 2 ^ (qp / 6) * (16 * v4 (qp % 6) 0 + 9 * v4 (qp % 6) 1 + 24 * v4 (qp % 6) 2) + 1344) / 1536
