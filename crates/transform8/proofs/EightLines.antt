-- Lines of eight numbers: what is computed of them, and proofs about each of the eight.
use Rattle.std.proofs.Common.{◌≡◌, ℕ, zero, suc, ◌<◌, ◌≤◌, List, [], ◌∷◌, ℤ, nat_abs, refl, arith, lit<}
use Rattle.laws.specs.Blocks.{at}
use Rattle.laws.proofs.Meant.{Meant, Small, kept, known, cons}
use Rattle.transform8.specs.Inner.{Each, Sized8}

-- eight proofs as a function of the place, and back
pub each_at : (P : ℕ → Type 0) → Each P → (i : ℕ) → i < 8 → P i
each_at P p zero h = p.0
each_at P p (suc zero) h = p.1
each_at P p (suc (suc zero)) h = p.2
each_at P p (suc (suc (suc zero))) h = p.3
each_at P p (suc (suc (suc (suc zero)))) h = p.4
each_at P p (suc (suc (suc (suc (suc zero))))) h = p.5
each_at P p (suc (suc (suc (suc (suc (suc zero)))))) h = p.6
each_at P p (suc (suc (suc (suc (suc (suc (suc zero))))))) h = p.7
each_at P p (suc (suc (suc (suc (suc (suc (suc (suc i)))))))) h = absurd (omega arith)

pub each : (P : ℕ → Type 0) → ((i : ℕ) → i < 8 → P i) → Each P
each P f = (f 0 (lit< tt), f 1 (lit< tt), f 2 (lit< tt), f 3 (lit< tt), f 4 (lit< tt), f 5 (lit< tt), f 6 (lit< tt), f 7 (lit< tt))

pub same : {A : Type 0} {a b c d e f g h a' b' c' d' e' f' g' h' : A}
    → a ≡ a' → b ≡ b' → c ≡ c' → d ≡ d' → e ≡ e' → f ≡ f' → g ≡ g' → h ≡ h'
    → (a ∷ b ∷ c ∷ d ∷ e ∷ f ∷ g ∷ h ∷ []) ≡ (a' ∷ b' ∷ c' ∷ d' ∷ e' ∷ f' ∷ g' ∷ h' ∷ [])
same p q r s t u v w = cons p (cons q (cons r (cons s (cons t (cons u (cons v (cons w refl)))))))

pub line : (d : List ℤ) (n : ℕ) → Sized8 n d → Small n → Each (λ i. Meant (kept (at d i)) (at d i) n)
line d n p s =
    let one : (i : ℕ) → i < 8 → Meant (kept (at d i)) (at d i) n = λ i h. known (at d i) n (each_at (λ i. nat_abs (at d i) ≤ n) p i h) s in
    each (λ i. Meant (kept (at d i)) (at d i) n) one
