-- Lines in the lanes of vectors: what is computed lane by lane, and how large it is.
use Rattle.std.proofs.Common.{◌≡◌, ℕ, suc, ◌+◌, ◌^◌, ◌<◌, ◌≤◌, T, ltb, List, [], ◌∷◌, length, get_or, map, ℤ, pos, ◌+ℤ◌, ◌-ℤ◌, nat_abs, sym, ap, ◌∙◌, subst, le_trans, arith, lit<, w32, to_z, of_z}
use lib.Signed.{shr_z}
use Rattle.std.proofs.lemmas.List.{length-map}
use Rattle.std.proofs.lemmas.Simd.{length-zip2, get_or-zip2}
use Rattle.std.proofs.Math.ListN.{get_or-map}
use Rattle.std.specs.Simd.Lanes.{Each2, zip2}
use Rattle.laws.specs.Blocks.{at, row, from}
use Rattle.laws.proofs.Lists.{from_is, at_from, Each, each_at}
use Rattle.laws.proofs.Meant.{Meant, Below, Small, known, below, sum_size, difference_size, shift_size}
use Rattle.transform.specs.Inner.{SizedLine, Sized}

-- ---- the lanes of two vectors of n

module _ (us vs : List ℕ) (n : ℕ) (p : length us ≡ n) (q : length vs ≡ n) where
  -- what an operation asks of each two lanes
  pub asked : (R : ℕ → ℕ → Type 0) → ((k : ℕ) → k < n → R (get_or us k 0) (get_or vs k 0)) → Each2 R us vs
  asked R h = go us vs (λ k l. h k (omega arith))
    where
      go : (us vs : List ℕ) → ((k : ℕ) → k < length us → R (get_or us k 0) (get_or vs k 0)) → Each2 R us vs
      go [] vs h = tt
      go (u ∷ us) [] h = tt
      go (u ∷ us) (v ∷ vs) h = (h 0 (omega arith), go us vs (λ k l. h (suc k) (omega arith)))

  -- what it gives
  pub given : (op : ℕ → ℕ → ℕ) (f : ℕ → ℤ) → ((k : ℕ) → k < n → to_z w32 (op (get_or us k 0) (get_or vs k 0)) ≡ f k) → map (to_z w32) (zip2 op us vs) ≡ from f 0 n
  given op f h =
      from_is f (pos 0) n (map (to_z w32) (zip2 op us vs)) (length-map (zip2 op us vs) (to_z w32) ∙ length-zip2 op us vs (p ∙ sym q) ∙ p)
      (λ k l. get_or-map (to_z w32) (zip2 op us vs) k 0 ∙ ap (to_z w32) (get_or-zip2 op us vs k 0 0 0 (omega arith) (omega arith)) ∙ h k l)

-- as many lanes as numbers
pub long : (a : List ℤ) (n : ℕ) → length a ≡ n → length (map (of_z w32) a) ≡ n
long a n p = length-map a (of_z w32) ∙ p

-- the number in a lane
pub lane : (a : List ℤ) (n k : ℕ) → nat_abs (at a k) ≤ n → Small n → Meant (to_z w32 (get_or (map (of_z w32) a) k 0)) (at a k) n
lane a n k h s = record { is = ap (to_z w32) (get_or-map (of_z w32) a k (pos 0)) ∙ (known (at a k) n h s).is; size = h }

-- ---- sizes

-- n numbers, each at most `most` in size, as a record: so the line is read off a proof of it
pub record Bounded (n most : ℕ) (line : List ℤ) : Type 0 where
  pub sized : SizedLine n most line

pub row_bounded : {n most : ℕ} (m : List (List ℤ)) → Sized n most m → (i : ℕ) → T (ltb i n) → Bounded n most (row m i)
row_bounded m p i h = record { sized = λ j hj. p i j (lit< h) hj }

-- room for one operation more
pub room : {n most : ℕ} {a : List ℤ} → Bounded n most a → Below most 536870912 → SizedLine n 536870912 a
room {most = most} p s j h = below most 536870912 s (p.sized j h)

pub wider : {n most : ℕ} {a : List ℤ} (more : ℕ) → Bounded n most a → Below most more → Bounded n more a
wider {most = most} more p s = record { sized = λ j h. below most more s (p.sized j h) }

made_sized : {n most : ℕ} {r : List ℤ} (f : ℕ → ℤ) → r ≡ from f 0 n → ((j : ℕ) → j < n → nat_abs (f j) ≤ most) → Bounded n most r
made_sized {n} {most} f e h = record { sized = λ j l. subst (λ z. nat_abs z ≤ most) (sym (ap (λ r. at r j) e ∙ at_from f n j l)) (h j l) }

pub plus : {n s t : ℕ} {a b r : List ℤ} → r ≡ from (λ i. at a i +ℤ at b i) 0 n → Bounded n s a → Bounded n t b → Bounded n (s + t) r
plus {s = s} {t = t} {a = a} {b = b} e p q = made_sized (λ i. at a i +ℤ at b i) e (λ j h. sum_size (at a j) (at b j) s t (p.sized j h) (q.sized j h))

pub minus : {n s t : ℕ} {a b r : List ℤ} → r ≡ from (λ i. at a i -ℤ at b i) 0 n → Bounded n s a → Bounded n t b → Bounded n (s + t) r
minus {s = s} {t = t} {a = a} {b = b} e p q = made_sized (λ i. at a i -ℤ at b i) e (λ j h. difference_size (at a j) (at b j) s t (p.sized j h) (q.sized j h))

pub part : (places : ℕ) {n s : ℕ} {a r : List ℤ} → r ≡ from (λ i. shr_z (at a i) (2 ^ places)) 0 n → Bounded n s a → Bounded n s r
part places {a = a} e p = made_sized (λ i. shr_z (at a i) (2 ^ places)) e (λ j h. le_trans (shift_size (at a j) (2 ^ places)) (p.sized j h))

-- a block, by its rows
pub rows_sized : (n most : ℕ) (m : List (List ℤ)) → Each (λ i. Bounded n most (row m i)) n → Sized n most m
rows_sized n most m p i j hi hj = (each_at (λ i. Bounded n most (row m i)) n p i hi).sized j hj
