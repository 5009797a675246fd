-- A plane, once its memory has come back and is cut to its area.
use Rattle.std.proofs.Common.{◌≡◌, ℕ, zero, suc, ◌≤◌, List, [], ◌∷◌, ◌++◌, length, take, drop, refl, sym, ap, ◌∙◌, arith, length-append, length-drop, take_all}
use borrow.Rule.Slice.PartMut.{post_of}
use lib.Seq.{take-append-le}
use Rattle.std.proofs.Math.Seq.{take-length}
use Rattle.script.specs.declared.command.Amount.{Amount}
use Rattle.script.specs.Memory.{handed, memory_of, written}

-- what stands behind a plane does not come into it
cut : (plane zeros back : List ℕ) → take (length plane) (back ++ drop (length back) (plane ++ zeros)) ≡ written plane back
cut [] zeros back = refl
cut (x ∷ plane) zeros [] = take-append-le (length (x ∷ plane)) (x ∷ plane) zeros (omega arith)
cut (x ∷ plane) zeros (b ∷ back) = ap (λ bytes. b ∷ bytes) (cut plane zeros back)

pub returned : (plane zeros stretched lent back : List ℕ) (area len bytes : ℕ) → length back ≡ bytes → bytes ≤ len → lent ≡ stretched → len ≡ length stretched → stretched ≡ plane ++ zeros → area ≡ length plane → take area (take len ((back ++ post_of 0 bytes lent) ++ drop (length (back ++ post_of 0 bytes lent)) stretched)) ≡ written plane back
returned plane zeros stretched lent back area len bytes same within is long padded own =
    let whole : List ℕ = back ++ post_of 0 bytes lent in
    let full : length whole ≡ len = omega (arith, length-append back (post_of 0 bytes lent), length-drop bytes lent, ap length is, same, within, long) in
    ap (take area) (take-append-le len whole _ (omega (arith, full)) ∙ take_all len whole (omega (arith, full)))
    ∙ (λ i. take (own i) (back ++ drop (sym same i) ((is ∙ padded) i)))
    ∙ cut plane zeros back

unwritten : (plane zeros : List ℕ) (n : ℕ) → written plane (take n (plane ++ zeros)) ≡ plane
unwritten [] zeros n = refl
unwritten (x ∷ plane) zeros zero = take-length (x ∷ plane)
unwritten (x ∷ plane) zeros (suc n) = ap (λ samples. x ∷ samples) (unwritten plane zeros n)

-- memory that comes back as it was handed leaves the plane as it was
pub kept : (plane : List ℕ) (amount : Amount) {back left new : List ℕ} → new ≡ written plane back → left ≡ back → left ≡ memory_of plane amount → new ≡ plane
kept plane amount after is same = after ∙ ap (written plane) (sym is ∙ same) ∙ unwritten plane _ (handed amount (length plane))
