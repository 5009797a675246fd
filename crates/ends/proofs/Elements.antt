-- What predictions, residuals and with_tile tiles hold.
use Rattle.std.proofs.Common.{◌≡◌, ℕ, zero, suc, ◌+◌, ◌-◌, ◌*◌, ◌/◌, ◌%◌, ◌<◌, ◌≤◌, Bool, true, false, cond, eqb, List, map, length, get_or, ℤ, pos, negsuc, ◌+ℤ◌, ◌-ℤ◌, ◌≤ℤ◌, sum, sym, refl, subst, ⊎_elim, arith}
use Rattle.std.specs.List.{range_with_len}
use Rattle.std.proofs.lemmas.Nat.{div_below}
use Rattle.std.proofs.lemmas.List.FromFn.{length-map-range_with_len, get_or-map-range_with_len}
use Rattle.std.proofs.lemmas.List.{get_or_past, get_or-replicate, length-replicate}
use Rattle.std.proofs.lemmas.Int.{ints}
use Rattle.std.proofs.lemmas.List.Sums.{sum_by-cons}
use Rattle.std.proofs.lemmas.Bool.{cases_lt}
use Rattle.kinds.specs.Meaning.{Near, Differences}
use Rattle.ends.specs.Tasks.{Tile}
use Rattle.ends.specs.declared.mode.Mode.{Mode}
use Rattle.ends.specs.declared.mode.Mode.TheVariants.{Colocated, Vertical, Horizontal, Mean}
use Rattle.ends.specs.Planes.{sample, blank, row_sum, column_sum}
use Rattle.ends.specs.Tiles.{prediction, predicted, mean, above, left, residual, clip, reconstructed, covers, with_tile}

-- ---- lengths

pub length_prediction : (mode : Mode) (t : Tile) (plane : List ℕ) → length (prediction mode t plane) ≡ t.edge * t.edge
unfolding prediction
length_prediction mode t plane = length-map-range_with_len _ 0 (t.edge * t.edge)

pub length_residual : (source pred : List ℕ) → length (residual source pred) ≡ length pred
unfolding residual
length_residual source pred = length-map-range_with_len _ 0 (length pred)

-- ---- elements

pub get_or_residual : (source pred : List ℕ) (k : ℕ) → k < length pred → get_or (residual source pred) k (pos 0) ≡ pos (get_or source k 0) -ℤ pos (get_or pred k 0)
unfolding residual
get_or_residual source pred k h = get_or-map-range_with_len _ 0 (length pred) k k (pos 0) h (omega arith)

pub get_or_reconstructed : (pred : List ℕ) (rebuilt : List ℤ) (k : ℕ) → k < length pred → get_or (reconstructed pred rebuilt) k 0 ≡ clip (pos (get_or pred k 0) +ℤ get_or rebuilt k (pos 0))
unfolding reconstructed
get_or_reconstructed pred rebuilt k h = get_or-map-range_with_len _ 0 (length pred) k k 0 h (omega arith)

-- ---- bytes

abbrev pub Bytes : List ℕ → Type 0
Bytes xs = (k : ℕ) → get_or xs k 0 < 256

clip_byte : (z : ℤ) → clip z < 256
clip_byte (pos n) = omega arith
clip_byte (negsuc n) = omega arith

byte_cond : (b : Bool) (x y : ℕ) → x < 256 → y < 256 → cond b x y < 256
byte_cond true x y hx hy = hx
byte_cond false x y hx hy = hy

bytes_counted : (f : ℕ → ℕ) (n : ℕ) → ((k : ℕ) → f k < 256) → Bytes (map f (range_with_len 0 n))
bytes_counted f n h k = ⊎_elim
    (λ (l : k < n). let e = get_or-map-range_with_len f 0 n k k 0 l (omega arith) in omega (arith, h k))
    (λ (l : n ≤ k). let e = get_or_past (map f (range_with_len 0 n)) k 0 (omega (arith, length-map-range_with_len f 0 n)) in omega arith)
    (cases_lt k n)

pub bytes_blank : (n : ℕ) → Bytes (blank n)
bytes_blank n k = ⊎_elim
    (λ (h : k < n). omega (arith, get_or-replicate {A = ℕ} n k 128 0 h))
    (λ (h : n ≤ k). omega (arith, get_or_past (blank n) k 0 (omega (arith, length-replicate {A = ℕ} n 128))))
    (cases_lt k n)

pub bytes_reconstructed : (pred : List ℕ) (rebuilt : List ℤ) → Bytes (reconstructed pred rebuilt)
unfolding reconstructed
bytes_reconstructed pred rebuilt = bytes_counted _ (length pred) (λ k. clip_byte (pos (get_or pred k 0) +ℤ get_or rebuilt k (pos 0)))

pub bytes_with_tile : (t : Tile) (tile plane : List ℕ) → Bytes tile → Bytes plane → Bytes (with_tile t tile plane)
unfolding with_tile
bytes_with_tile t tile plane a b = bytes_counted _ (length plane) (λ k. byte_cond (covers t (k % t.size.width) (k / t.size.width)) _ _ (a _) (b k))

sum_counted : (f : ℕ → ℕ) → ((k : ℕ) → f k < 256) → (a n : ℕ) → sum (map f (range_with_len a n)) ≤ 255 * n
sum_counted f h a zero = omega arith
sum_counted f h a (suc n) =
    let rest = sum_counted f h (a + 1) n in
    let one = h a in
    rw (sum_by-cons (λ (x : ℕ). x) (f a) (map f (range_with_len (a + 1) n))) (omega arith)

mean_byte : (t : Tile) (plane : List ℕ) → 0 < t.edge → Bytes plane → mean t plane < 256
unfolding mean row_sum column_sum
mean_byte t plane some b =
    let n = t.edge in
    let a : above t plane ≤ 255 * n = sum_counted (λ j. sample t.size plane (t.x + j) (t.y - 1)) (λ j. b _) 0 n in
    let l : left t plane ≤ 255 * n = sum_counted (λ i. sample t.size plane (t.x - 1) (t.y + i)) (λ i. b _) 0 n in
    byte_cond (eqb t.y 0) _ _
    (byte_cond (eqb t.x 0) _ _ (omega arith) (div_below (left t plane + n / 2) n 256 some (omega arith)))
    (byte_cond (eqb t.x 0) _ _ (div_below (above t plane + n / 2) n 256 some (omega arith)) (div_below (above t plane + left t plane + n) (2 * n) 256 (omega arith) (omega arith)))

predicted_byte : (mode : Mode) (t : Tile) (plane : List ℕ) (j i : ℕ) → 0 < t.edge → Bytes plane → predicted mode t plane j i < 256
predicted_byte Colocated t plane j i some b = b _
predicted_byte Vertical t plane j i some b = b _
predicted_byte Horizontal t plane j i some b = b _
predicted_byte Mean t plane j i some b = mean_byte t plane some b

pub bytes_prediction : (mode : Mode) (t : Tile) (plane : List ℕ) → 0 < t.edge → Bytes plane → Bytes (prediction mode t plane)
unfolding prediction
bytes_prediction mode t plane some b = bytes_counted _ (t.edge * t.edge) (λ k. predicted_byte mode t plane (k % t.edge) (k / t.edge) some b)

-- ---- residuals and distances

byte_difference : (s g : ℕ) → s < 256 → g < 256 → (negsuc 254 ≤ℤ (pos s -ℤ pos g)) × ((pos s -ℤ pos g) ≤ℤ pos 255)
byte_difference s g hs hg = (omega (arith, ints), omega (arith, ints))

pub differences_residual : (source pred : List ℕ) → Bytes source → Bytes pred → Differences (residual source pred)
differences_residual source pred a b k h =
    let z = get_or_residual source pred k (let l = length_residual source pred in omega arith) in
    subst (λ (v : ℤ). (negsuc 254 ≤ℤ v) × (v ≤ℤ pos 255)) (sym z) (byte_difference (get_or source k 0) (get_or pred k 0) (a k) (b k))

-- a value near source less pred, added to the pred and held to a byte, is near the source
pub clip_near : (g s d : ℕ) (z : ℤ) → s < 256 → Near z (pos s -ℤ pos g) d → (clip (pos g +ℤ z) ≤ s + d) × (s ≤ clip (pos g +ℤ z) + d)
clip_near g s d z hs n = go (pos g +ℤ z) refl
  where
    go : (v : ℤ) → pos g +ℤ z ≡ v → (clip v ≤ s + d) × (s ≤ clip v + d)
    go (pos k) e = (omega (arith, ints), omega (arith, ints))
    go (negsuc k) e = (omega (arith, ints), omega (arith, ints))
