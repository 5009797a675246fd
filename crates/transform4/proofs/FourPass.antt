-- The two stages of a pass, with their tests as the code puts them together.
use Rattle.std.proofs.Common.{◌≡◌, Bool, cond, ◌&&◌, List, [], ◌∷◌, ℤ, Some, None, ap, ◌∙◌, ap₂}
use Rattle.laws.specs.Blocks.{cells, block}
use Rattle.laws.specs.Widths.{largest}
use Rattle.laws.specs.Four.{four, sums4, results4}
use Rattle.transform.specs.Passes.{passed, on_columns}
use Rattle.transform.proofs.Stages.{all_fit, passed_is}

pub passed_four : (most : ℤ) (m e g : List (List ℤ)) (b : Bool) → e ≡ on_columns 4 sums4 m → g ≡ on_columns 4 results4 e
    → b ≡ (all_fit 4 largest e && all_fit 4 most g) → cond b (Some (block 4 (cells g))) None ≡ passed four most m
passed_four most m e g b p q t =
    let q' : g ≡ on_columns 4 results4 (on_columns 4 sums4 m) = q ∙ ap (on_columns 4 results4) p in
    passed_is 4 most (sums4 ∷ []) results4 m g b q' (t ∙ ap₂ ◌&&◌ (ap (all_fit 4 largest) p) (ap (all_fit 4 most) q'))
