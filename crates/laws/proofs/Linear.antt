-- Products and dot products of integers, and how far two of them may lie apart.
use Rattle.std.proofs.Common.{◌≡◌, ℕ, zero, suc, ◌+◌, ◌*◌, ◌<◌, ◌≤◌, List, [], ◌∷◌, ℤ, pos, negsuc, ◌+ℤ◌, ◌-ℤ◌, ◌*ℤ◌, neg_ℤ, nat_abs, sym, refl, ap, ◌∙◌, ap₂, subst₂, mul-le-mul_right, mul-le-mul_left, arith}
use native.Mathlib.Nat.{le_of_mul-le-mul_left}
use lib.IntN.{+ℤ_idl, +ℤ_idr, *ℤ_comm, *ℤ-zero, zero-*ℤ}
use lib.Signed.{shr_z}
use Rattle.std.proofs.lemmas.Nat.{div-add-mod', mod_below}
use borrow.Author.Differences.{up, down, ints, product_is, sum_is_lem, same_in}
use Rattle.laws.specs.Blocks.{from, dot}

-- ---- products
*ℤ-+ℤ : (a b c : ℤ) → a *ℤ (b +ℤ c) ≡ a *ℤ b +ℤ a *ℤ c
*ℤ-+ℤ a b c =
    let e = product_is a (b +ℤ c) in let f = product_is a b in let g = product_is a c in let h = sum_is_lem (a *ℤ b) (a *ℤ c) in
    same_in (a *ℤ (b +ℤ c)) (a *ℤ b +ℤ a *ℤ c) (omega (arith, ap (λ n. up a * n) (sum_is_lem b c), ap (λ n. down a * n) (sum_is_lem b c)))

+ℤ-*ℤ : (a b c : ℤ) → (a +ℤ b) *ℤ c ≡ a *ℤ c +ℤ b *ℤ c
+ℤ-*ℤ a b c = *ℤ_comm (a +ℤ b) c ∙ *ℤ-+ℤ c a b ∙ ap₂ (λ x y. x +ℤ y) (*ℤ_comm c a) (*ℤ_comm c b)

pub *ℤ-assoc : (a b c : ℤ) → (a *ℤ b) *ℤ c ≡ a *ℤ (b *ℤ c)
*ℤ-assoc a b c =
    let l = product_is a b in let r = product_is b c in
    same_in ((a *ℤ b) *ℤ c) (a *ℤ (b *ℤ c))
    (omega (
      arith,
      product_is (a *ℤ b) c,
      product_is a (b *ℤ c),
      ap (λ n. n * up c) l.0,
      ap (λ n. n * down c) l.0,
      ap (λ n. n * up c) l.1,
      ap (λ n. n * down c) l.1,
      ap (λ n. up a * n) r.0,
      ap (λ n. down a * n) r.0,
      ap (λ n. up a * n) r.1,
      ap (λ n. down a * n) r.1,
    ))

pub times_times : (k m : ℕ) (z : ℤ) → pos k *ℤ (pos m *ℤ z) ≡ pos (k * m) *ℤ z
times_times k m z = sym (*ℤ-assoc (pos k) (pos m) z)

-- ---- integers as omega reads them
pub scale_is : (k : ℕ) (a : ℤ) → (up (pos k *ℤ a) ≡ k * up a) × (down (pos k *ℤ a) ≡ k * down a)
scale_is k a = omega (arith, product_is (pos k) a)

pub diff_is : (a b : ℤ) → up (a -ℤ b) + down a + up b ≡ down (a -ℤ b) + up a + down b
diff_is a b = omega (arith, ints)

-- a shift to the right rounds down
abbrev pub Floor : ℕ → ℤ → Type 0
Floor m z = (m * up (shr_z z m) + down z ≤ up z + m * down (shr_z z m)) × (up z + m * down (shr_z z m) < m * up (shr_z z m) + down z + m)

pub shr_is : (m : ℕ) → 0 < m → (z : ℤ) → Floor m z
shr_is m h (pos a) = omega (arith, div-add-mod' a m, mod_below a m h)
shr_is m h (negsuc a) = omega (arith, div-add-mod' a m, mod_below a m h)

abbrev pub plus : List ℤ → List ℤ → ℕ
plus [] xs = 0
plus (c ∷ cs) [] = 0
plus (c ∷ cs) (x ∷ xs) = up c * up x + down c * down x + plus cs xs

abbrev pub minus : List ℤ → List ℤ → ℕ
minus [] xs = 0
minus (c ∷ cs) [] = 0
minus (c ∷ cs) (x ∷ xs) = up c * down x + down c * up x + minus cs xs

pub dot_is : (cs xs : List ℤ) → up (dot cs xs) + minus cs xs ≡ down (dot cs xs) + plus cs xs
dot_is [] xs = omega arith
dot_is (c ∷ cs) [] = omega arith
dot_is (c ∷ cs) (x ∷ xs) = omega (arith, dot_is cs xs, sum_is_lem (c *ℤ x) (dot cs xs), product_is c x)

-- ---- rows of numbers
abbrev pub scaled : ℤ → List ℤ → List ℤ
scaled c [] = []
scaled c (x ∷ xs) = (c *ℤ x) ∷ scaled c xs

abbrev pub added : List ℤ → List ℤ → List ℤ
added [] ys = ys
added (x ∷ xs) [] = x ∷ xs
added (x ∷ xs) (y ∷ ys) = (x +ℤ y) ∷ added xs ys

-- the sum of rows, each times its coefficient
abbrev pub combined : List ℤ → List (List ℤ) → List ℤ
combined [] rows = []
combined (c ∷ cs) [] = []
combined (c ∷ cs) (r ∷ rs) = added (scaled c r) (combined cs rs)

-- c at place t of n, and 0 elsewhere
abbrev pub spike : ℤ → (t n : ℕ) → List ℤ
spike c t zero = []
spike c zero (suc n) = c ∷ from (λ _. pos 0) 0 n
spike c (suc t) (suc n) = pos 0 ∷ spike c t n

swapped : (a b c d : ℤ) → (a +ℤ b) +ℤ (c +ℤ d) ≡ (a +ℤ c) +ℤ (b +ℤ d)
swapped a b c d = omega (arith, ints)

dot_added : (a b x : List ℤ) → dot (added a b) x ≡ dot a x +ℤ dot b x
dot_added [] b x = sym (+ℤ_idl (dot b x))
dot_added (a ∷ as') [] x = sym (+ℤ_idr (dot (a ∷ as') x))
dot_added (a ∷ as') (b ∷ bs) [] = refl
dot_added (a ∷ as') (b ∷ bs) (x ∷ xs) =
    ap₂ (λ s t. s +ℤ t) (+ℤ-*ℤ a b x) (dot_added as' bs xs) ∙ swapped (a *ℤ x) (b *ℤ x) (dot as' xs) (dot bs xs)

dot_scaled : (c : ℤ) (a x : List ℤ) → dot (scaled c a) x ≡ c *ℤ dot a x
dot_scaled c [] x = sym (*ℤ-zero c)
dot_scaled c (a ∷ as') [] = sym (*ℤ-zero c)
dot_scaled c (a ∷ as') (x ∷ xs) = ap₂ (λ s t. s +ℤ t) (*ℤ-assoc c a x) (dot_scaled c as' xs) ∙ sym (*ℤ-+ℤ c (a *ℤ x) (dot as' xs))

module _ (w : ℕ → ℤ) (rows : ℕ → List ℤ) (x : List ℤ) where
  -- a row times a matrix with weighed rows times a column
  pub dot_combined : (r : List ℤ) (i n : ℕ) →
      dot r (from (λ j. w j *ℤ dot (rows j) x) i n) ≡ dot (combined r (from (λ j. scaled (w j) (rows j)) i n)) x
  dot_combined [] i n = refl
  dot_combined (c ∷ cs) i zero = refl
  dot_combined (c ∷ cs) i (suc n) =
      let r = scaled (w i) (rows i) in
      ap₂ (λ s t. s +ℤ t) (ap (λ z. c *ℤ z) (sym (dot_scaled (w i) (rows i) x)) ∙ sym (dot_scaled c r x)) (dot_combined cs (suc i) n)
      ∙ sym (dot_added (scaled c r) (combined cs (from (λ j. scaled (w j) (rows j)) (suc i) n)) x)

pub dot_times : (c : ℤ) (f : ℕ → ℤ) (r : List ℤ) (i n : ℕ) → dot r (from (λ j. c *ℤ f j) i n) ≡ c *ℤ dot r (from f i n)
dot_times c f [] i n = sym (*ℤ-zero c)
dot_times c f (r ∷ rs) i zero = sym (*ℤ-zero c)
dot_times c f (r ∷ rs) i (suc n) =
    ap₂ (λ s t. s +ℤ t) (sym (*ℤ-assoc r c (f i)) ∙ ap (λ z. z *ℤ f i) (*ℤ_comm r c) ∙ *ℤ-assoc c r (f i)) (dot_times c f rs (suc i) n)
    ∙ sym (*ℤ-+ℤ c (r *ℤ f i) (dot rs (from f (suc i) n)))

dot_zeros : (i n : ℕ) (x : List ℤ) → dot (from (λ _. pos 0) i n) x ≡ pos 0
dot_zeros i zero x = refl
dot_zeros i (suc n) [] = refl
dot_zeros i (suc n) (x ∷ xs) = ap₂ (λ s t. s +ℤ t) (zero-*ℤ x) (dot_zeros (suc i) n xs)

pub dot_spike : (c : ℤ) (u : ℕ → ℤ) (t i n : ℕ) → t < n → dot (spike c t n) (from u i n) ≡ c *ℤ u (t + i)
dot_spike c u t i zero h = absurd (omega arith)
dot_spike c u zero i (suc n) h =
    ap (λ z. c *ℤ u i +ℤ z) (dot_zeros 0 n (from u (suc i) n)) ∙ +ℤ_idr (c *ℤ u i) ∙ ap (λ j. c *ℤ u j) (omega arith)
dot_spike c u (suc t) i (suc n) h =
    ap (λ z. z +ℤ dot (spike c t n) (from u (suc i) n)) (zero-*ℤ (u i)) ∙ +ℤ_idl (dot (spike c t n) (from u (suc i) n))
    ∙ dot_spike c u t (suc i) n (omega arith) ∙ ap (λ j. c *ℤ u j) (omega arith)

-- ---- near: |a - b| ≤ n
pub record Near (a b : ℤ) (n : ℕ) : Type 0 where
  pub above : up a + down b ≤ up b + down a + n
  pub under : up b + down a ≤ up a + down b + n

pub near_same : {a b c d : ℤ} {n : ℕ} → a ≡ c → b ≡ d → Near a b n → Near c d n
near_same {a} {b} {c} {d} {n} p q h = subst₂ (λ x y. Near x y n) p q h

pub near_wider : {a b : ℤ} {m n : ℕ} → Near a b m → m ≤ n → Near a b n
near_wider {a} {b} {m} {n} p l = omega arith

pub near_trans : {a b c : ℤ} {m n : ℕ} → Near a b m → Near b c n → Near a c (m + n)
near_trans {a} {b} {c} {m} {n} p q = omega arith

near_add : {a b c d : ℤ} {m n : ℕ} → Near a b m → Near c d n → Near (a +ℤ c) (b +ℤ d) (m + n)
near_add {a} {b} {c} {d} {m} {n} p q = omega (arith, sum_is_lem a c, sum_is_lem b d)

near_neg : {a b : ℤ} {n : ℕ} → Near a b n → Near (neg_ℤ a) (neg_ℤ b) n
near_neg {a} {b} {n} p = omega (arith, ints)

pub near_pos : (k : ℕ) {a b : ℤ} {n : ℕ} → Near a b n → Near (pos k *ℤ a) (pos k *ℤ b) (k * n)
near_pos k {a} {b} {n} p = omega (arith, mul-le-mul_left k p.above, mul-le-mul_left k p.under, scale_is k a, scale_is k b)

neg_times : (k : ℕ) (a : ℤ) → negsuc k *ℤ a ≡ neg_ℤ (pos (suc k) *ℤ a)
neg_times k a = omega (arith, ints, product_is (negsuc k) a, scale_is (suc k) a)

near_mul : (c : ℤ) {a b : ℤ} {n : ℕ} → Near a b n → Near (c *ℤ a) (c *ℤ b) (nat_abs c * n)
near_mul (pos k) p = near_pos k p
near_mul (negsuc k) {a} {b} p = near_same (sym (neg_times k a)) (sym (neg_times k b)) (near_neg (near_pos (suc k) p))

-- a common factor left out
pub near_cancel : (k : ℕ) (a b : ℤ) (n : ℕ) → 0 < k → Near (pos k *ℤ a) (pos k *ℤ b) (k * n) → Near a b n
near_cancel k a b n h p =
    let f = scale_is k a in let g = scale_is k b in
    let l : k * (up a + down b) ≤ k * (up b + down a + n) = omega arith in
    let r : k * (up b + down a) ≤ k * (up a + down b + n) = omega arith in
    record { above = le_of_mul-le-mul_left l h; under = le_of_mul-le-mul_left r h }

-- two factors that differ by at most d
pub near_factor : (a b d n : ℕ) (z : ℤ) → a ≤ b + d → b ≤ a + d → nat_abs z * d ≤ n → Near (pos a *ℤ z) (pos b *ℤ z) n
near_factor a b d n (pos u) p q l = omega (arith, mul-le-mul_right u p, mul-le-mul_right u q)
near_factor a b d n (negsuc u) p q l =
    omega (arith, scale_is a (negsuc u), scale_is b (negsuc u), mul-le-mul_right (suc u) p, mul-le-mul_right (suc u) q)

size_times : (k : ℕ) (z : ℤ) → nat_abs (pos k *ℤ z) ≡ k * nat_abs z
size_times k (pos c) = refl
size_times k (negsuc c) = omega (arith, ints)

pub near_size : (k : ℕ) (a b : ℤ) (n : ℕ) → Near (pos k *ℤ a) (pos k *ℤ b) n → k * nat_abs (a -ℤ b) ≤ n
near_size k a b n p =
    let z = a -ℤ b in
    omega (arith, ints, scale_is k a, scale_is k b, scale_is k z, ap (λ m. k * m) (diff_is a b), size_times k z)

-- a shift to the right that rounds to the nearest
pub half_up : (h : ℕ) → 0 < h → (z : ℤ) → Near (pos (2 * h) *ℤ shr_z (z +ℤ pos h) (2 * h)) z h
half_up h some z =
    let y = shr_z (z +ℤ pos h) (2 * h) in let m : 0 < 2 * h = omega arith in
    omega (arith, shr_is (2 * h) m (z +ℤ pos h), sum_is_lem z (pos h), scale_is (2 * h) y)

-- ---- near dot products
-- the sum of |c| times n, place by place
abbrev pub weighed : List ℤ → List ℕ → ℕ
weighed [] ns = 0
weighed (c ∷ cs) [] = 0
weighed (c ∷ cs) (n ∷ ns) = nat_abs c * n + weighed cs ns

pub near_dot : (r : List ℤ) (f g : ℕ → ℤ) (b : ℕ → ℕ) (n : ℕ) → ((j : ℕ) → j < n → Near (f j) (g j) (b j)) →
    Near (dot r (from f 0 n)) (dot r (from g 0 n)) (weighed r (from b 0 n))
near_dot r f g b n h = go r 0 n (omega arith)
  where
    none : Near (pos 0) (pos 0) 0
    none = omega arith

    go : (r : List ℤ) (i k : ℕ) → i + k ≤ n → Near (dot r (from f i k)) (dot r (from g i k)) (weighed r (from b i k))
    go [] i k l = none
    go (c ∷ cs) i zero l = none
    go (c ∷ cs) i (suc k) l = near_add (near_mul c (h i (omega arith))) (go cs (suc i) k (omega arith))

pub weighed_times : (k : ℕ) (r : List ℤ) (b : ℕ → ℕ) (i n : ℕ) → weighed r (from (λ j. k * b j) i n) ≡ k * weighed r (from b i n)
weighed_times k [] b i n = omega arith
weighed_times k (c ∷ r) b i zero = omega arith
weighed_times k (c ∷ r) b i (suc n) = omega (arith, weighed_times k r b (suc i) n)

pub weighed_le : (r : List ℤ) (b c : ℕ → ℕ) (n : ℕ) → ((j : ℕ) → j < n → b j ≤ c j) → weighed r (from b 0 n) ≤ weighed r (from c 0 n)
weighed_le r b c n h = go r 0 n (omega arith)
  where
    go : (r : List ℤ) (i k : ℕ) → i + k ≤ n → weighed r (from b i k) ≤ weighed r (from c i k)
    go [] i k l = omega arith
    go (a ∷ r) i zero l = omega arith
    go (a ∷ r) i (suc k) l = omega (arith, mul-le-mul_left (nat_abs a) (h i (omega arith)), go r (suc i) k (omega arith))

near_none : (z : ℤ) (n : ℕ) → nat_abs z ≤ n → Near z (pos 0) n
near_none z n h = omega (arith, ints)

none_near : (z : ℤ) (n : ℕ) → Near z (pos 0) n → nat_abs z ≤ n
none_near z n h = omega (arith, ints)

pub dot_size : (r : List ℤ) (f : ℕ → ℤ) (b : ℕ → ℕ) (n : ℕ) → ((j : ℕ) → j < n → nat_abs (f j) ≤ b j) →
    nat_abs (dot r (from f 0 n)) ≤ weighed r (from b 0 n)
dot_size r f b n h =
    let zeros : dot r (from (λ _. pos 0) 0 n) ≡ pos 0 = dot_times (pos 0) (λ _. pos 0) r 0 n ∙ zero-*ℤ (dot r (from (λ _. pos 0) 0 n)) in
    none_near (dot r (from f 0 n)) (weighed r (from b 0 n))
    (near_same refl zeros (near_dot r f (λ _. pos 0) b n (λ j l. near_none (f j) (b j) (h j l))))
