-- The first rule that fits, and what is known where none does.
use Rattle.std.proofs.Common.{◌≡◌, ℕ, zero, suc, ◌<◌, ◌≤◌, Bool, true, false, cond, [], ◌∷◌, Some, None, Err, Option, refl, ◌∙◌, arith}
use Rattle.std.proofs.lemmas.Bool.{cond-false}
use Rattle.kinds.specs.Meaning.{Meaning, Facts}
use Rattle.ends.specs.declared.refusal.Refusal.{Refusal}
use Rattle.ends.specs.Refusals.{Rules, first_of}
use Rattle.ends.specs.Inner.{unless}

-- ---- the first rule that fits

abbrev pub test_at : Rules → ℕ → Bool
test_at [] i = false
test_at (r ∷ rs) zero = r.0
test_at (r ∷ rs) (suc i) = test_at rs i

-- some rule fits
pub hit : (rs : Rules) (i : ℕ) → test_at rs i ≡ true → (r : Refusal) × (first_of rs ≡ Some r)
hit [] i e = cc
hit (r ∷ rs) zero e = (r.1, rw e)
hit (r ∷ rs) (suc i) e = go r.0 (hit rs i e)
  where
    go : (t : Bool) → (x : Refusal) × (first_of rs ≡ Some x) → (x : Refusal) × (cond t (Some r.1) (first_of rs) ≡ Some x)
    go true h = (r.1, refl)
    go false h = h

-- no rule fits
abbrev pub Clear : Rules → Type 0
Clear [] = Unit {0}
Clear (r ∷ rs) = (r.0 ≡ false) × Clear rs

pub none_clear : (rs : Rules) → first_of rs ≡ None → Clear rs
none_clear [] e = tt
none_clear (r ∷ rs) e = go r.0 refl e (none_clear rs)
  where
    go : (b : Bool) → r.0 ≡ b → cond b (Some r.1) (first_of rs) ≡ None → (first_of rs ≡ None → Clear rs) → (r.0 ≡ false) × Clear rs
    go true f e k = cc
    go false f e k = (f, k e)

pub clear_none : (rs : Rules) → Clear rs → first_of rs ≡ None
clear_none [] c = refl
clear_none (r ∷ rs) c = cond-false r.0 (Some r.1) (first_of rs) c.0 ∙ clear_none rs c.1

-- ---- what the rules of a call answered

pub refused : {A : Type 0} (o : Option Refusal) (a : A) (r : Refusal) → Err r ≡ unless o a → o ≡ Some r
refused None a r e = cc
refused (Some s) a r e = cc

-- ---- edges

pub edge_bounds : (m : Meaning) → Facts m → (0 < m.edge) × (m.edge ≤ 16)
edge_bounds m facts = (grind (arith, facts.edges), grind (arith, facts.edges))
