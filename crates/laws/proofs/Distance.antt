-- How far a reconstructed residual lies from the one that was coded, for every sound transform.
use Rattle.std.proofs.Common.{◌≡◌, ℕ, zero, suc, ◌+◌, ◌*◌, ◌/◌, ◌%◌, ◌^◌, ◌<◌, ◌≤◌, List, ℤ, pos, ◌+ℤ◌, ◌-ℤ◌, ◌*ℤ◌, nat_abs, Some, sym, refl, ap, ◌∙◌, subst, le_trans, mul-le-mul_right, mul_assoc, arith, lit<, leb→le}
use lib.Signed.{shr_z}
use Rattle.std.proofs.lemmas.Nat.{pow_pos, pow-add, mod_below}
use Rattle.kinds.specs.declared.kind.Sort.{Sort}
use Rattle.laws.specs.Blocks.{Grid, cells, from, block}
use Rattle.laws.specs.Quantiser.{error_sixths}
use Rattle.laws.specs.Widths.{every}
use Rattle.laws.specs.Transform.{Transform, class_at, coefficients, levels, rescaled, reconstructed}
use Rattle.laws.proofs.Lists.{each_at, every_at}
use Rattle.laws.proofs.Linear.{*ℤ-assoc, times_times, weighed, weighed_le}
use Rattle.laws.proofs.Linear.{Near, near_same, near_wider, near_trans, near_pos, near_cancel, near_size, half_up}
use Rattle.laws.proofs.Sizes.{coefficient_size}
use Rattle.laws.proofs.Quantised.{entry_near}
use Rattle.laws.proofs.Inverts.{Inverts, untested, block_near}
use Rattle.laws.proofs.Accepted.{reconstructed_is}
use Rattle.laws.proofs.Sound.{total, first, mismatch, close, Sound}

first_times : (k a i : ℕ) → k * first a i ≡ first (k * a) i
first_times k a zero = refl
first_times k a (suc i) = omega arith

module _ (T : Transform) (S : Sound T) where
  abbrev I : Inverts T.points T.forward (λ i. S.weight (T.group i))
  I = S.inverts

  -- the unit of errors is one part in `inner` of a rescaled number, and one in `outer` of a result before the last rounding
  abbrev pub inner : ℕ
  inner = 6 * S.scale

  abbrev pub outer : ℕ
  outer = inner * I.part * I.part

  -- rescaled numbers d stand for the coefficients of x
  abbrev pub Stands : (d x : Grid) (error : ℕ → ℕ → ℕ) → Type 0
  Stands d x error =
      (i j : ℕ) → i < T.points → j < T.points →
      Near (pos (S.gain * inner) *ℤ d i j) (pos (24 * S.weight (T.group i) * S.weight (T.group j)) *ℤ coefficients T x i j) (S.gain * error i j)

  -- ---- the spread of errors over the samples of a block
  -- errors by class, and what the first place has besides
  abbrev pub at_place : (error : ℕ → ℕ) (extra : ℕ) → ℕ → ℕ → ℕ
  at_place error extra i j = error (class_at T i j) + first (first extra i) j

  abbrev over : (ℕ → ℕ) → ℕ
  over f = total S.groups (λ g. S.share g * f g)

  abbrev row_error : (error : ℕ → ℕ) → ℕ → ℕ
  row_error error a = inner * I.loss + over (λ b. error (T.class a b))

  abbrev pub spread : (error : ℕ → ℕ) (extra : ℕ) → ℕ
  spread error extra = inner * I.part * I.loss + (over (row_error error) + S.head * (S.head * extra))

  shared : (f : ℕ → ℕ) (a t : ℕ) → t < T.points → weighed (I.basis t) (from (λ j. f (T.group j) + first a j) 0 T.points) ≤ over f + S.head * a
  shared f a t h = each_at _ T.points (S.shares f a) t h

  module _ (d x : Grid) (error : ℕ → ℕ) (extra : ℕ) (h : Stands d x (at_place error extra)) where
    abbrev row : ℕ → ℕ → ℕ
    row q i = inner * I.loss + weighed (I.basis q) (from (at_place error extra i) 0 T.points)

    row_most : (q : ℕ) → q < T.points → (i : ℕ) → i < T.points → row q i ≤ row_error error (T.group i) + first (S.head * extra) i
    row_most q hq i hi = omega (arith, shared (λ b. error (T.class (T.group i) b)) (first extra i) q hq, first_times S.head extra i)

    -- before the last rounding
    pub result_near : (p q : ℕ) → p < T.points → q < T.points →
        Near (pos outer *ℤ untested T.points I.value d p q) (pos (outer * 64) *ℤ x p q) (spread error extra)
    result_near p q hp hq =
        let k = S.gain in let y = untested T.points I.value d p q in let z = x p q in
        let rows = weighed_le (I.basis p) (row q) (λ i. row_error error (T.group i) + first (S.head * extra) i) T.points (row_most q hq) in
        let columns = shared (row_error error) (S.head * extra) p hp in
        let right = ap (λ m. pos m *ℤ z) S.exact ∙ sym (times_times k (outer * 64) z) in
        let whole = near_same (sym (times_times k outer y)) right (block_near I k inner 24 d x (at_place error extra) h p q hp hq) in
        near_wider (near_cancel k (pos outer *ℤ y) (pos (outer * 64) *ℤ z) _ S.some whole) (omega arith)

    pub sample_near : (p q : ℕ) → p < T.points → q < T.points →
        outer * 64 * nat_abs (shr_z (untested T.points I.value d p q +ℤ pos 32) 64 -ℤ x p q) ≤ outer * 32 + spread error extra
    sample_near p q hp hq =
        let z = untested T.points I.value d p q in let y = shr_z (z +ℤ pos 32) 64 in
        let last = near_same (times_times outer 64 y) refl (near_pos outer (half_up 32 (lit< tt) z)) in
        near_size (outer * 64) y (x p q) (outer * 32 + spread error extra) (near_trans last (result_near p q hp hq))

  -- ---- the error of a coefficient that was quantised and rescaled, by class
  abbrev pub entry_error : (qp : ℕ) → Sort → ℕ → ℕ
  entry_error qp sort c = error_sixths sort * (T.factor (qp % 6) c * 2 ^ (qp / 6)) + S.slack c + 6 * S.spill

  -- the tables at a place
  close_at : (r i j : ℕ) → r < 6 → i < T.points → j < T.points → let a = T.group i in let b = T.group j in
      S.reach b * (S.reach a * 255) * mismatch T S.weight S.gain r a b ≤ 2 ^ T.shift * (S.gain * S.slack (T.class a b))
  close_at r i j hr hi hj =
      let a = T.group i in let b = T.group j in let n = S.groups in
      let test = close T S.weight S.reach S.slack S.gain in
      let grouped : (i : ℕ) → i < T.points → T.group i < n = λ i h. each_at _ T.points S.grouped i h in
      let rows = every_at (λ r. every (λ a. every (test r a) 0 n) 0 n) 6 S.tables r hr in
      leb→le _ _ (every_at (test r a) n (every_at (λ a. every (test r a) 0 n) n rows a (grouped i hi)) b (grouped j hj))

  module _ (qp : ℕ) (sort : Sort) (x : Grid) (low : qp ≤ 51) (small : (i j : ℕ) → i < T.points → j < T.points → nat_abs (x i j) ≤ 255) where
    abbrev coded : Grid
    coded = levels T qp sort (coefficients T x)

    pub coded_near : Stands (rescaled T qp coded) x (λ i j. entry_error qp sort (class_at T i j))
    coded_near i j hi hj =
        let a = T.group i in let b = T.group j in let c = T.class a b in let r = qp % 6 in let k = qp / 6 in let s = T.shift in
        let m = T.multiplier r c in let v = T.factor r c in let w = coefficients T x i j in let z = coded i j *ℤ pos v in
        let off = mismatch T S.weight S.gain r a b in let ideal = 24 * S.weight a * S.weight b in
        let size = mul-le-mul_right off (coefficient_size T S.reach S.reaches x 255 small i j hi hj) in
        let lost = le_trans size (close_at r i j (mod_below qp 6 (lit< tt)) hi hj) in
        let entry = entry_near w m v (2 ^ k) (s + k) (2 ^ s) S.gain ideal off (S.slack c) sort (pow-add 2 s k) in
        let level = entry (pow_pos s) (omega arith) (omega arith) lost in
        let scaling = each_at (λ k. Near (pos S.scale *ℤ T.rescale k z) (z *ℤ pos (2 ^ k)) S.spill) 9 (S.rescaling z) k (omega arith) in
        let y = T.rescale k z in
        let left = times_times (S.gain * 6) S.scale y ∙ ap (λ n. pos n *ℤ y) (mul_assoc S.gain 6 S.scale) in
        let right = ap (λ z. pos (S.gain * 6) *ℤ z) (*ℤ-assoc (coded i j) (pos v) (pos (2 ^ k))) in
        let whole = near_same left right (near_pos (S.gain * 6) scaling) in
        near_wider (near_trans whole level) (omega arith)

    pub reconstructed_near : (r : List (List ℤ)) → reconstructed T qp (block T.points coded) ≡ Some r →
        (p q : ℕ) → p < T.points → q < T.points → outer * 64 * nat_abs (cells r p q -ℤ x p q) ≤ outer * 32 + spread (entry_error qp sort) 0
    reconstructed_near r e p q hp hq =
        let value = reconstructed_is T I.value S.accepted qp coded r e p q hp hq in
        let error = entry_error qp sort in
        subst (λ z. outer * 64 * nat_abs (z -ℤ x p q) ≤ outer * 32 + spread error 0) (sym value)
        (sample_near (rescaled T qp coded) x error 0 (λ i j hi hj. near_wider (coded_near i j hi hj) (omega arith)) p q hp hq)
