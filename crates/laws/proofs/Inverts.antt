-- A pass that undoes a matrix up to its roundings: how far the pass over rows and columns lies from a block,
-- where its input lies near the block's weighed coefficients.
use Rattle.std.proofs.Common.{◌≡◌, ℕ, ◌+◌, ◌*◌, ◌<◌, List, ℤ, pos, ◌*ℤ◌, sym, refl, ap, ◌∙◌, mul_assoc, arith}
use Rattle.laws.specs.Blocks.{Grid, at, from, dot}
use Rattle.laws.proofs.Lists.{Each, each_at}
use Rattle.laws.proofs.Linear.{times_times, scaled, combined, spike, dot_combined, dot_times, dot_spike, weighed, weighed_times}
use Rattle.laws.proofs.Linear.{Near, near_same, near_wider, near_trans, near_pos, near_dot}

-- a pass over every row and then over every column, without tests
abbrev pub untested : (n : ℕ) (pass : List ℤ → List ℤ) → Grid → Grid
untested n pass d p q = at (pass (from (λ i. at (pass (from (d i) 0 n)) q) 0 n)) p

pub record Inverts (n : ℕ) (forward : ℕ → List ℤ) (weight : ℕ → ℕ) : Type 0 where
  -- a pass over a line, without tests
  pub value : List ℤ → List ℤ
  -- part times a result is the product with a row of the basis, but for the roundings, which lose at most `loss`
  pub basis : ℕ → List ℤ
  pub part : ℕ
  pub loss : ℕ
  pub near : (d : ℕ → ℤ) → Each (λ t. Near (pos part *ℤ at (value (from d 0 n)) t) (dot (basis t) (from d 0 n)) loss) n
  -- the basis times the weighed rows of the matrix is `unit` times one
  pub unit : ℕ
  pub undo : Each (λ t. combined (basis t) (from (λ j. scaled (pos (weight j)) (forward j)) 0 n) ≡ spike (pos unit) t n) n

module _ {n : ℕ} {forward : ℕ → List ℤ} {weight : ℕ → ℕ} (I : Inverts n forward weight) where
  -- the coefficients of a line, and of a block
  abbrev line : (ℕ → ℤ) → ℕ → ℤ
  line u j = dot (forward j) (from u 0 n)

  abbrev both_ways : Grid → Grid
  both_ways x i j = line (λ q. line (λ p. x p q) i) j

  abbrev passed : (ℕ → ℤ) → ℕ → ℤ
  passed d t = at (I.value (from d 0 n)) t

  undone : (u : ℕ → ℤ) (t : ℕ) → t < n → dot (I.basis t) (from (λ j. pos (weight j) *ℤ line u j) 0 n) ≡ pos I.unit *ℤ u t
  undone u t h =
      let rows = from (λ j. scaled (pos (weight j)) (forward j)) 0 n in
      let one : combined (I.basis t) rows ≡ spike (pos I.unit) t n = each_at _ n I.undo t h in
      dot_combined (λ j. pos (weight j)) forward (from u 0 n) (I.basis t) 0 n ∙ ap (λ r. dot r (from u 0 n)) one
      ∙ dot_spike (pos I.unit) u t 0 n h ∙ ap (λ k. pos I.unit *ℤ u k) (omega arith)

  -- k c times the input is near s times the weighed coefficients of a line u; k stays a common factor
  line_near : (k c s : ℕ) (d u : ℕ → ℤ) (b : ℕ → ℕ) →
      ((j : ℕ) → j < n → Near (pos (k * c) *ℤ d j) (pos (s * weight j) *ℤ line u j) (k * b j)) → (t : ℕ) → t < n →
      Near (pos (k * (c * I.part)) *ℤ passed d t) (pos (s * I.unit) *ℤ u t) (k * (c * I.loss + weighed (I.basis t) (from b 0 n)))
  line_near k c s d u b h t l =
      let r = I.basis t in let y = passed d t in let w : ℕ → ℤ = λ j. pos (weight j) *ℤ line u j in
      let input = λ (j : ℕ). sym (times_times s (weight j) (line u j)) in
      let sums = near_dot r (λ j. pos (k * c) *ℤ d j) (λ j. pos s *ℤ w j) (λ j. k * b j) n (λ j m. near_same refl (input j) (h j m)) in
      let right = dot_times (pos s) w r 0 n ∙ ap (λ z. pos s *ℤ z) (undone u t l) ∙ times_times s I.unit (u t) in
      let pass : Near (pos I.part *ℤ y) (dot r (from d 0 n)) I.loss = each_at _ n (I.near d) t l in
      let whole = near_trans (near_pos (k * c) pass) (near_same (dot_times (pos (k * c)) d r 0 n) right sums) in
      let left = times_times (k * c) I.part y ∙ ap (λ m. pos m *ℤ y) (mul_assoc k c I.part) in
      near_wider (near_same left refl whole) (omega (arith, weighed_times k r b 0 n))

  -- the same for a block x: its rows, and then its columns
  module _ (k c s : ℕ) (d x : Grid) (b : ℕ → ℕ → ℕ)
      (h : (i j : ℕ) → i < n → j < n → Near (pos (k * c) *ℤ d i j) (pos (s * weight i * weight j) *ℤ both_ways x i j) (k * b i j)) where
    abbrev row_error : ℕ → ℕ → ℕ
    row_error q i = c * I.loss + weighed (I.basis q) (from (b i) 0 n)

    row_near : (q : ℕ) → q < n → (i : ℕ) → i < n →
        Near (pos (k * (c * I.part)) *ℤ passed (d i) q) (pos (s * I.unit * weight i) *ℤ line (λ p. x p q) i) (k * row_error q i)
    row_near q hq i hi =
        near_same refl (ap (λ m. pos m *ℤ line (λ p. x p q) i) (omega arith))
        (line_near k c (s * weight i) (d i) (λ a. line (λ p. x p a) i) (b i) (λ j hj. h i j hi hj) q hq)

    pub block_near : (p q : ℕ) → p < n → q < n →
        Near (pos (k * (c * I.part * I.part)) *ℤ untested n I.value d p q) (pos (s * I.unit * I.unit) *ℤ x p q)
        (k * (c * I.part * I.loss + weighed (I.basis p) (from (row_error q) 0 n)))
    block_near p q hp hq = line_near k (c * I.part) (s * I.unit) (λ i. passed (d i) q) (λ i. x i q) (row_error q) (row_near q hq) p hp
