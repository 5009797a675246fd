-- What a kind of tile coding is, as a value, and what each kind must show of it.
use Rattle.std.specs.Prelude.{◌≡◌, ℕ, ◌*◌, ◌<◌, ◌≤◌, ◌⊎◌, List, length, ℤ, pos, negsuc, ◌+ℤ◌, ◌≤ℤ◌, Some, Option, slice_index_or}
use Rattle.kinds.specs.declared.kind.Sort.{Sort}

-- A kind: a way to code square tiles. Lists of samples and levels run row by row over the tile.
pub record Meaning : Type 0 where
  -- the side of a tile
  pub edge : ℕ
  -- the number that names the kind in a heading
  pub tag : ℕ
  -- the levels of a residual, by QP and sort
  pub levels : ℕ → Sort → List ℤ → List ℤ
  -- the residual that levels stand for, by QP, or a refusal
  pub reconstruction : ℕ → List ℤ → Option (List ℤ)
  -- how far a reconstructed residual may lie from the coded one, by QP and sort
  pub distance : ℕ → Sort → ℕ

-- the number of samples, and of levels, of a tile
abbrev pub area : Meaning → ℕ
area m = m.edge * m.edge

-- what a residual comes back as, once coded
abbrev pub round_trip : Meaning → ℕ → Sort → List ℤ → Option (List ℤ)
round_trip m qp sort residual = m.reconstruction qp (m.levels qp sort residual)

-- each element lies in -255..255, as the difference of two bytes does
abbrev pub Differences : List ℤ → Type 0
Differences zs = (k : ℕ) → k < length zs → (negsuc 254 ≤ℤ slice_index_or zs k (pos 0)) × (slice_index_or zs k (pos 0) ≤ℤ pos 255)

-- a and b differ by at most d
abbrev pub Near : ℤ → ℤ → ℕ → Type 0
Near a b d = (a ≤ℤ (b +ℤ pos d)) × (b ≤ℤ (a +ℤ pos d))

-- What a kind must show. That equal questions get equal answers needs no line here: a meaning is made of functions, and
-- each method equals it. That a residual is refused just where its levels' reconstruction is, is the contract of `levels`.
pub record Facts (m : Meaning) : Type 0 where
  pub edges : (m.edge ≡ 4) ⊎ ((m.edge ≡ 8) ⊎ (m.edge ≡ 16))
  pub tag_low : 1 ≤ m.tag
  pub tag_high : m.tag ≤ 63
  -- a tile has as many levels as samples
  pub level_count : (qp : ℕ) (sort : Sort) (residual : List ℤ)
      → qp ≤ 51 → length residual ≡ area m → Differences residual
      → length (m.levels qp sort residual) ≡ area m
  -- an accepted residual and its reconstruction differ at each sample by at most the distance
  pub near : (qp : ℕ) (sort : Sort) (residual rebuilt : List ℤ)
      → qp ≤ 51 → length residual ≡ area m → Differences residual
      → round_trip m qp sort residual ≡ Some rebuilt
      → (k : ℕ) → k < area m → Near (slice_index_or rebuilt k (pos 0)) (slice_index_or residual k (pos 0)) (m.distance qp sort)
