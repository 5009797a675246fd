-- A residual's elements lie in -255..255, so the exact kind refuses none.
use Rattle.std.proofs.Common.{◌≡◌, suc, Bool, true, false, T, List, [], ◌∷◌, ℤ, refl, suc-le-suc, zero-le}
use Rattle.std.proofs.lemmas.Bool.{and_from}
use Rattle.kinds.specs.Meaning.{Differences}
use Rattle.kinds.specs.Exact.{all_narrow}

is_true : (b : Bool) → T b → b ≡ true
is_true true t = refl
is_true false t = absurd t

pub differences_narrow : (zs : List ℤ) → Differences zs → all_narrow zs ≡ true
differences_narrow [] h = refl
differences_narrow (z ∷ zs) h =
    let first = h 0 (suc-le-suc zero-le) in
    and_from _ _ (and_from _ _ (is_true _ first.0.le) (is_true _ first.1.le)) (differences_narrow zs (λ k l. h (suc k) (suc-le-suc l)))
