-- The three stages of a pass, with their tests as the code puts them together.
use Rattle.std.proofs.Common.{◌≡◌, Bool, cond, ◌&&◌, List, [], ◌∷◌, ℤ, Some, None, ap, ◌∙◌, ap₂}
use Rattle.std.proofs.Math.Bool.{and_assoc}
use Rattle.laws.specs.Blocks.{cells, block}
use Rattle.laws.specs.Widths.{largest}
use Rattle.laws.specs.Eight.{eight, sums8, turns8, results8}
use Rattle.transform.specs.Passes.{passed, on_columns}
use Rattle.transform.proofs.Stages.{all_fit, passed_is}

pub passed_eight : (most : ℤ) (m e f g : List (List ℤ)) (b : Bool) → e ≡ on_columns 8 sums8 m → f ≡ on_columns 8 turns8 e → g ≡ on_columns 8 results8 f
    → b ≡ (all_fit 8 largest e && all_fit 8 largest f && all_fit 8 most g) → cond b (Some (block 8 (cells g))) None ≡ passed eight most m
passed_eight most m e f g b p q r t =
    let q' : f ≡ on_columns 8 turns8 (on_columns 8 sums8 m) = q ∙ ap (on_columns 8 turns8) p in
    let r' : g ≡ on_columns 8 results8 (on_columns 8 turns8 (on_columns 8 sums8 m)) = r ∙ ap (on_columns 8 results8) q' in
    passed_is 8 most (sums8 ∷ turns8 ∷ []) results8 m g b r'
    (t ∙ and_assoc (all_fit 8 largest e) (all_fit 8 largest f) (all_fit 8 most g)
    ∙ ap₂ ◌&&◌ (ap (all_fit 8 largest) p) (ap₂ ◌&&◌ (ap (all_fit 8 largest) q') (ap (all_fit 8 most) r')))
