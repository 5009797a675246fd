use Rattle.std.proofs.Common.{◌∙◌, w32, rules}
use Rattle.std.proofs.lemmas.Int.{to_z-of_z}
use Rattle.transform8.proofs.EightLines.{same}
use Rattle.transform8.proofs.EightForward.{row0, row1, row2, row3, row4, row5, row6, row7}
use Rattle.transform8.proofs.forward.forward_line.Goals as goal

pub returns : goal.returns
returns c =
    let x = c.args.x in
    let s = c.mirrored.ensures.sums in let d = c.mirrored.ensures.differences in
    same
    (to_z-of_z w32 c.dot.result (search rules) ∙ c.dot.ensures ∙ row0 x s)
    (to_z-of_z w32 c.dot-2.result (search rules) ∙ c.dot-2.ensures ∙ row1 x d)
    (to_z-of_z w32 c.dot-3.result (search rules) ∙ c.dot-3.ensures ∙ row2 x s)
    (to_z-of_z w32 c.dot-4.result (search rules) ∙ c.dot-4.ensures ∙ row3 x d)
    (to_z-of_z w32 c.dot-5.result (search rules) ∙ c.dot-5.ensures ∙ row4 x s)
    (to_z-of_z w32 c.dot-6.result (search rules) ∙ c.dot-6.ensures ∙ row5 x d)
    (to_z-of_z w32 c.dot-7.result (search rules) ∙ c.dot-7.ensures ∙ row6 x s)
    (to_z-of_z w32 c.dot-8.result (search rules) ∙ c.dot-8.ensures ∙ row7 x d)
