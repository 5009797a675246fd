-- Arrays that were made element by element, as lists of a function of the index.
use Rattle.std.proofs.Common.{◌≡◌, ℕ, zero, suc, ◌+◌, ◌<◌, ◌≤◌, List, [], ◌∷◌, length, get_or, sym, refl, ap, ◌∙◌, subst, inl, inr, eq-or-lt_of_le, arith}
use denote.Param.Members.{Mut, Called}
use Rattle.std.specs.Fn.{Takes}
use Rattle.std.specs.Array.{index_steps, list_steps, IsFromFnResultFrom, IsFromFnResult, IsMapOf}
use Rattle.std.specs.Iterator.{CallableAtEachTurn, Yields}
use Rattle.std.proofs.lemmas.Fn.{serves_by}
use Rattle.laws.specs.Blocks.{from}
use Rattle.laws.proofs.Lists.{from_is}

-- by `from_fn`, each of whose calls answers h of the index and changes nothing
pub made : {F B : Type 0} (g : Mut F (ℕ × Unit {0}) B) (f : F) (ys : List B) (n : ℕ) (e : B) (h : ℕ → B) → IsFromFnResult g f ys n
    → ((i : ℕ) (y : B) (q : F) → Called g f (i, tt) y q → (q ≡ f) × (y ≡ h i)) → ys ≡ from h 0 n
made {F = F} {B = B} g f ys n e h m calls = from_is h e n ys m.long (λ k l. go n 0 f (λ _. f) m.each k (omega arith) (omega arith))
  where
    go : (k i : ℕ) (p : F) → p ≡ f → IsFromFnResultFrom g p ys i k → (j : ℕ) → i ≤ j → j < i + k → get_or ys j e ≡ h j
    go zero i p s r j low high = absurd (omega arith)
    go (suc k) i p s r j low high =
        let both = calls i r.1 r.0 (subst (λ p. Called g p (i, tt) r.1 r.0) s r.3) in
        elim (eq-or-lt_of_le low) [
          | inl here ↦ ap (λ j. get_or ys j e) (sym here) ∙ r.2.1 e ∙ both.1 ∙ ap h here
          | inr after ↦ go k (i + 1) r.0 both.0 r.4 j (omega arith) (omega arith)
        ]

-- by `map`, whose calls answer h of the element
pub mapped : {F A B : Type 0} (g : Mut F (A × Unit {0}) B) (f : F) (xs : List A) (ys : List B) (n : ℕ) (d : A) (e : B) (h : A → B) → IsMapOf g f xs ys n
    → ((p q : F) (x : A) (y : B) → Called g p (x, tt) y q → y ≡ h x) → ys ≡ from (λ i. h (get_or xs i d)) 0 n
mapped g f xs ys n d e h m calls = from_is (λ i. h (get_or xs i d)) e n ys m.long (λ k l. let c = m.at k d e l in calls c.0 c.1 _ _ c.2)

pub each_mapped : {F A B : Type 0} (g : Mut F (A × Unit {0}) B) (f : F) (xs : List A) (ys : List B) (n : ℕ) (d : A) (e : B) (P : B → Type 0) → IsMapOf g f xs ys n
    → ((p q : F) (x : A) (y : B) → Called g p (x, tt) y q → P y) → (k : ℕ) → k < n → P (get_or ys k e)
each_mapped g f xs ys n d e P m calls k l = let c = m.at k d e l in calls c.0 c.1 _ _ c.2

-- what `from_fn` asks of f, where a call changes nothing
pub callable : {F B : Type 0} (g : Mut F (ℕ × Unit {0}) B) (f : F) (n : ℕ) → ((i : ℕ) (y : B) (q : F) → Called g f (i, tt) y q → q ≡ f)
    → ((i : ℕ) → i < n → Takes g f (i, tt))
    → CallableAtEachTurn (index_steps n) (λ p x q. (y : B) × Called g p (x, tt) y q) (λ p x. Takes g p (x, tt)) 0 f
callable {B = B} g f n same takes =
    serves_by (λ p x q. (y : B) × Called g p (x, tt) y q) (λ xs q. q ≡ f)
    (λ xs q x v e r. same x r.0 v (subst (λ q. Called g q (x, tt) r.0 v) e r.1))
    (index_steps n) (λ p x. Takes g p (x, tt)) 0 f refl
    (λ xs t q x u y s e. subst (λ q. Takes g q (x, tt)) (sym e) (takes x (omega (arith, s.0, s.1))))

-- what `map` asks of f, where a call changes nothing
pub callable_on : {F A B : Type 0} (g : Mut F (A × Unit {0}) B) (f : F) (xs : List A) (d : A) → ((x : A) (y : B) (q : F) → Called g f (x, tt) y q → q ≡ f)
    → ((i : ℕ) → i < length xs → Takes g f (get_or xs i d, tt))
    → CallableAtEachTurn list_steps (λ p x q. (y : B) × Called g p (x, tt) y q) (λ p x. Takes g p (x, tt)) xs f
callable_on {A = A} {B = B} g f xs d same takes =
    serves_by (λ p x q. (y : B) × Called g p (x, tt) y q) (λ ys q. q ≡ f)
    (λ ys q x v e r. same x r.0 v (subst (λ q. Called g q (x, tt) r.0 v) e r.1))
    list_steps (λ p x. Takes g p (x, tt)) xs f refl
    (λ ys t q x u y s e. subst (λ q. Takes g q (x, tt)) (sym e) (go ys xs t x u takes y s))
  where
    go : (ys xs t : List A) (x : A) (u : List A) → ((i : ℕ) → i < length xs → Takes g f (get_or xs i d, tt)) → Yields list_steps xs ys t → t ≡ (x ∷ u) → Takes g f (x, tt)
    go [] xs t x u h y s = subst (λ (l : List A). (i : ℕ) → i < length l → Takes g f (get_or l i d, tt)) (y ∙ s) h 0 (omega arith)
    go (z ∷ ys) xs t x u h y s =
        go ys y.0 t x u (λ i l. subst (λ (l : List A). (i : ℕ) → i < length l → Takes g f (get_or l i d, tt)) y.1 h (suc i) (omega arith)) y.2 s
