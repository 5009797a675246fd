-- What the machine computes in 32 bits is the number that is meant, as long as the sizes stay small.
use Rattle.std.proofs.Common.{◌≡◌, ℕ, ◌+◌, ◌*◌, ◌≤◌, T, leb, List, ◌∷◌, ℤ, pos, negsuc, ◌+ℤ◌, ◌-ℤ◌, ◌*ℤ◌, nat_abs, sym, refl, ap, ◌∙◌, subst, ap₂, div-le_self, arith, w16, w32, SFits, to_z, of_z}
use lib.Signed.{shr_z}
use borrow.Author.Differences.{ints}
use Rattle.std.proofs.lemmas.Nat.{mul-le}
use Rattle.std.proofs.lemmas.Int.{to_z-of_z, to_z_pos, unsigned_abs-mul}

-- x, as computed, is z, and z is at most n in size
pub record Meant (x z : ℤ) (n : ℕ) : Type 0 where
  pub is : x ≡ z
  pub size : nat_abs z ≤ n

abbrev pub Below : ℕ → ℕ → Type 0
Below m n = T (leb m n)

-- far from the end of 32 bits
abbrev pub Small : ℕ → Type 0
Small n = Below n 1073741824

-- a value of 32 bits, to its bits and back
abbrev pub kept : ℤ → ℤ
kept z = to_z w32 (of_z w32 z)

small_fits : (z : ℤ) (n : ℕ) → nat_abs z ≤ n → Small n → SFits w32 z
small_fits z n h s = grind (arith, ints)

pub fits : {x z : ℤ} {n : ℕ} → Meant x z n → Small n → SFits w32 x
fits {z = z} {n = n} p s = subst (SFits w32) (sym p.is) (small_fits z n p.size s)

pub keep : {x z : ℤ} {n : ℕ} → Meant x z n → Small n → Meant (kept x) z n
keep {z = z} {n = n} p s = record { is = ap kept p.is ∙ to_z-of_z w32 z (small_fits z n p.size s); size = p.size }

pub below : {k : ℕ} (m n : ℕ) → Below m n → k ≤ m → k ≤ n
below m n s h = grind arith

-- the size of what is computed
pub sized : {x z : ℤ} {m : ℕ} (n : ℕ) → Meant x z m → Below m n → nat_abs x ≤ n
sized {z = z} {m = m} n p s = subst (λ y. nat_abs y ≤ n) (sym p.is) (below m n s p.size)

pub known : (z : ℤ) (n : ℕ) → nat_abs z ≤ n → Small n → Meant (kept z) z n
known z n h s = keep (record { is = refl; size = h }) s

-- a number of 16 bits
pub widened : {x z : ℤ} → x ≡ z → SFits w16 z → Meant (kept x) z 32768
widened e f = keep (record { is = e; size = omega (arith, ints) }) tt

-- a cast from an unsigned number
pub natural : (k n : ℕ) → k ≤ n → Small n → Meant (to_z w32 k) (pos k) n
natural k n h s = record { is = to_z_pos w32 k (grind arith); size = h }

pub sum_size : (a b : ℤ) (m n : ℕ) → nat_abs a ≤ m → nat_abs b ≤ n → nat_abs (a +ℤ b) ≤ m + n
sum_size a b m n h k = omega (arith, ints)

pub difference_size : (a b : ℤ) (m n : ℕ) → nat_abs a ≤ m → nat_abs b ≤ n → nat_abs (a -ℤ b) ≤ m + n
difference_size a b m n h k = omega (arith, ints)

pub shift_size : (z : ℤ) (m : ℕ) → nat_abs (shr_z z m) ≤ nat_abs z
shift_size (pos n) m = div-le_self n m
shift_size (negsuc n) m = omega (arith, div-le_self n m)

pub product_size : (a b : ℤ) (m n : ℕ) → nat_abs a ≤ m → nat_abs b ≤ n → nat_abs (a *ℤ b) ≤ m * n
product_size a b m n h k = subst (λ (p : ℕ). p ≤ m * n) (sym (unsigned_abs-mul a b)) (mul-le (nat_abs a) (nat_abs b) m n h k)

pub sum : {x y a b : ℤ} {m n : ℕ} → Meant x a m → Meant y b n → Meant (x +ℤ y) (a +ℤ b) (m + n)
sum {a = a} {b = b} {m = m} {n = n} p q = record { is = ap₂ ◌+ℤ◌ p.is q.is; size = sum_size a b m n p.size q.size }

pub difference : {x y a b : ℤ} {m n : ℕ} → Meant x a m → Meant y b n → Meant (x -ℤ y) (a -ℤ b) (m + n)
difference {a = a} {b = b} {m = m} {n = n} p q = record { is = ap₂ ◌-ℤ◌ p.is q.is; size = difference_size a b m n p.size q.size }

pub product : {x y a b : ℤ} {m n : ℕ} → Meant x a m → Meant y b n → Meant (x *ℤ y) (a *ℤ b) (m * n)
product {a = a} {b = b} {m = m} {n = n} p q = record { is = ap₂ ◌*ℤ◌ p.is q.is; size = product_size a b m n p.size q.size }

-- a shift to the right, which divides by m and rounds down
pub shifted : (m : ℕ) {x a : ℤ} {n : ℕ} → Meant x a n → Small n → Meant (kept (shr_z x m)) (shr_z a m) n
shifted m {a = a} p s = keep (record { is = ap (λ z. shr_z z m) p.is; size = omega (arith, p.size, shift_size a m) }) s

pub cons : {A : Type 0} {a b : A} {xs ys : List A} → a ≡ b → xs ≡ ys → (a ∷ xs) ≡ (b ∷ ys)
cons p q = ap₂ (λ x y. x ∷ y) p q
