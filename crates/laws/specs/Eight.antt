-- The transform of 8 by 8 points.
use Rattle.std.specs.Prelude.{ℕ, zero, suc, ◌+◌, ◌-◌, ◌*◌, ◌/◌, ◌%◌, ◌^◌, cond, List, [], ◌∷◌, ℤ, pos, negsuc, ◌+ℤ◌, ◌-ℤ◌, ◌*ℤ◌, Option, nat_lt, slice_index, slice_index_or}
use Rattle.std.specs.Int.Signed.{shr_z}
use Rattle.kinds.specs.declared.kind.Sort.{Sort}
use Rattle.laws.specs.Blocks.{at}
use Rattle.laws.specs.Widths.{largest, held, then}
use Rattle.laws.specs.Quantiser.{error_sixths}
use Rattle.laws.specs.Transform.{Transform}

-- the rows of C
abbrev pub forward8 : ℕ → List ℤ
forward8 zero = pos 8 ∷ pos 8 ∷ pos 8 ∷ pos 8 ∷ pos 8 ∷ pos 8 ∷ pos 8 ∷ pos 8 ∷ []
forward8 (suc zero) = pos 12 ∷ pos 10 ∷ pos 6 ∷ pos 3 ∷ negsuc 2 ∷ negsuc 5 ∷ negsuc 9 ∷ negsuc 11 ∷ []
forward8 (suc (suc zero)) = pos 8 ∷ pos 4 ∷ negsuc 3 ∷ negsuc 7 ∷ negsuc 7 ∷ negsuc 3 ∷ pos 4 ∷ pos 8 ∷ []
forward8 (suc (suc (suc zero))) = pos 10 ∷ negsuc 2 ∷ negsuc 11 ∷ negsuc 5 ∷ pos 6 ∷ pos 12 ∷ pos 3 ∷ negsuc 9 ∷ []
forward8 (suc (suc (suc (suc zero)))) = pos 8 ∷ negsuc 7 ∷ negsuc 7 ∷ pos 8 ∷ pos 8 ∷ negsuc 7 ∷ negsuc 7 ∷ pos 8 ∷ []
forward8 (suc (suc (suc (suc (suc zero))))) = pos 6 ∷ negsuc 11 ∷ pos 3 ∷ pos 10 ∷ negsuc 9 ∷ negsuc 2 ∷ pos 12 ∷ negsuc 5 ∷ []
forward8 (suc (suc (suc (suc (suc (suc zero)))))) = pos 4 ∷ negsuc 7 ∷ pos 8 ∷ negsuc 3 ∷ negsuc 3 ∷ pos 8 ∷ negsuc 7 ∷ pos 4 ∷ []
forward8 (suc (suc (suc (suc (suc (suc (suc i))))))) = pos 3 ∷ negsuc 5 ∷ pos 10 ∷ negsuc 11 ∷ pos 12 ∷ negsuc 9 ∷ pos 6 ∷ negsuc 2 ∷ []

-- e0 .. e7 of an inverse pass
abbrev pub sums8 : List ℤ → List ℤ
sums8 d =
    (at d 0 +ℤ at d 4)
    ∷ (at d 5 -ℤ at d 3 -ℤ at d 7 -ℤ shr_z (at d 7) 2)
    ∷ (at d 0 -ℤ at d 4)
    ∷ (at d 1 +ℤ at d 7 -ℤ at d 3 -ℤ shr_z (at d 3) 2)
    ∷ (shr_z (at d 2) 2 -ℤ at d 6)
    ∷ (at d 7 -ℤ at d 1 +ℤ at d 5 +ℤ shr_z (at d 5) 2)
    ∷ (at d 2 +ℤ shr_z (at d 6) 2)
    ∷ (at d 3 +ℤ at d 5 +ℤ at d 1 +ℤ shr_z (at d 1) 2) ∷ []

-- f0 .. f7
abbrev pub turns8 : List ℤ → List ℤ
turns8 e =
    (at e 0 +ℤ at e 6)
    ∷ (at e 1 +ℤ shr_z (at e 7) 4)
    ∷ (at e 2 +ℤ at e 4)
    ∷ (at e 3 +ℤ shr_z (at e 5) 4)
    ∷ (at e 2 -ℤ at e 4)
    ∷ (shr_z (at e 3) 4 -ℤ at e 5)
    ∷ (at e 0 -ℤ at e 6)
    ∷ (at e 7 -ℤ shr_z (at e 1) 4) ∷ []

-- its results
abbrev pub results8 : List ℤ → List ℤ
results8 f =
    (at f 0 +ℤ at f 7)
    ∷ (at f 2 +ℤ at f 5)
    ∷ (at f 4 +ℤ at f 3)
    ∷ (at f 6 +ℤ at f 1)
    ∷ (at f 6 -ℤ at f 1)
    ∷ (at f 4 -ℤ at f 3)
    ∷ (at f 2 -ℤ at f 5)
    ∷ (at f 0 -ℤ at f 7) ∷ []

abbrev pub pass8 : (most : ℤ) → List ℤ → Option (List ℤ)
pass8 most d = then (held 8 largest (sums8 d)) (λ e. then (held 8 largest (turns8 e)) (λ f. held 8 most (results8 f)))

-- 0: divisible by 4, 1: odd, 2: the rest; of an index mod 4
abbrev pub group8 : ℕ → ℕ
group8 zero = 0
group8 (suc zero) = 1
group8 (suc (suc zero)) = 2
group8 (suc (suc (suc i))) = 1

-- by the groups of row and column, in either order
abbrev pub class8 : ℕ → ℕ → ℕ
class8 zero zero = 0
class8 zero (suc zero) = 3
class8 zero (suc (suc j)) = 4
class8 (suc zero) zero = 3
class8 (suc zero) (suc zero) = 1
class8 (suc zero) (suc (suc j)) = 5
class8 (suc (suc i)) zero = 4
class8 (suc (suc i)) (suc zero) = 5
class8 (suc (suc i)) (suc (suc j)) = 2

-- rows: QP mod 6; entries: class
abbrev pub multipliers8 : List (List ℕ)
multipliers8 =
    (13107 ∷ 11428 ∷ 20972 ∷ 12222 ∷ 16777 ∷ 15481 ∷ [])
    ∷ (11916 ∷ 10826 ∷ 19174 ∷ 11058 ∷ 14980 ∷ 14290 ∷ [])
    ∷ (10082 ∷ 8943 ∷ 15978 ∷ 9675 ∷ 12710 ∷ 11985 ∷ [])
    ∷ (9362 ∷ 8228 ∷ 14913 ∷ 8931 ∷ 11984 ∷ 11259 ∷ [])
    ∷ (8192 ∷ 7346 ∷ 13159 ∷ 7740 ∷ 10486 ∷ 9777 ∷ [])
    ∷ (7282 ∷ 6428 ∷ 11570 ∷ 6830 ∷ 9118 ∷ 8640 ∷ []) ∷ []

abbrev pub factors8 : List (List ℕ)
factors8 =
    (20 ∷ 18 ∷ 32 ∷ 19 ∷ 25 ∷ 24 ∷ [])
    ∷ (22 ∷ 19 ∷ 35 ∷ 21 ∷ 28 ∷ 26 ∷ [])
    ∷ (26 ∷ 23 ∷ 42 ∷ 24 ∷ 33 ∷ 31 ∷ [])
    ∷ (28 ∷ 25 ∷ 45 ∷ 26 ∷ 35 ∷ 33 ∷ [])
    ∷ (32 ∷ 28 ∷ 51 ∷ 30 ∷ 40 ∷ 38 ∷ [])
    ∷ (36 ∷ 32 ∷ 58 ∷ 34 ∷ 46 ∷ 43 ∷ []) ∷ []

abbrev pub m8 : ℕ → ℕ → ℕ
m8 r c = slice_index (slice_index_or multipliers8 r []) c

abbrev pub v8 : ℕ → ℕ → ℕ
v8 r c = slice_index (slice_index_or factors8 r []) c

-- 16 z shifted by k - 6 places, rounded to the nearest where that is to the right
abbrev pub rescale8 : ℕ → ℤ → ℤ
rescale8 k z = cond (nat_lt k 6) (shr_z (pos 16 *ℤ z +ℤ pos (2 ^ (5 - k))) (2 ^ (6 - k))) (pos 16 *ℤ z *ℤ pos (2 ^ (k - 6)))

abbrev pub eight : Transform
eight = record {
  points = 8;
  forward = forward8;
  pass = pass8;
  group = λ i. group8 (i % 4);
  class = class8;
  multiplier = m8;
  factor = v8;
  shift = 22;
  rescale = rescale8;
}

-- how far a reconstructed sample may lie from the coded one
abbrev pub distance8 : (qp : ℕ) → Sort → ℕ
distance8 qp sort = (error_sixths sort * 2 ^ (qp / 6) * (256 * v8 (qp % 6) 0 + 961 * v8 (qp % 6) 1 + 144 * v8 (qp % 6) 2 + 992 * v8 (qp % 6) 3 + 384 * v8 (qp % 6) 4 + 744 * v8 (qp % 6) 5) + 172032) / 98304
