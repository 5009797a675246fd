use Rattle.std.proofs.Common.{◌+ℤ◌, ◌*ℤ◌, sym, ap, ◌∙◌}
use lib.IntN.{+ℤ_idr}
use Rattle.laws.specs.Blocks.{at}
use Rattle.laws.proofs.Meant.{sum, keep, fits}
use Rattle.transform8.proofs.EightForward.{product0, product1, product2, product3}
use Rattle.transform8.proofs.forward.dot.Goals as goal

pub overflow_mul-result : goal.overflow_mul-result
overflow_mul-result c = fits (product0 c.args.x c.args.c c.requires.numbers c.requires.coefficients) tt

pub overflow_mul-result-2 : goal.overflow_mul-result-2
overflow_mul-result-2 c = fits (product1 c.args.x c.args.c c.requires.numbers c.requires.coefficients) tt

pub overflow_mul-result-3 : goal.overflow_mul-result-3
overflow_mul-result-3 c = fits (product2 c.args.x c.args.c c.requires.numbers c.requires.coefficients) tt

pub overflow_mul-result-4 : goal.overflow_mul-result-4
overflow_mul-result-4 c = fits (product3 c.args.x c.args.c c.requires.numbers c.requires.coefficients) tt

pub overflow_add-result : goal.overflow_add-result
overflow_add-result c =
    let x = c.args.x in let a = c.args.c in let p = c.requires.numbers in let q = c.requires.coefficients in
    fits (sum (keep (product2 x a p q) tt) (keep (product3 x a p q) tt)) tt

pub overflow_add-result-2 : goal.overflow_add-result-2
overflow_add-result-2 c =
    let x = c.args.x in let a = c.args.c in let p = c.requires.numbers in let q = c.requires.coefficients in
    fits (sum (keep (product1 x a p q) tt) (keep (sum (keep (product2 x a p q) tt) (keep (product3 x a p q) tt)) tt)) tt

pub overflow_add-result-3 : goal.overflow_add-result-3
overflow_add-result-3 c =
    let x = c.args.x in let a = c.args.c in let p = c.requires.numbers in let q = c.requires.coefficients in
    fits (sum (keep (product0 x a p q) tt) (keep (sum (keep (product1 x a p q) tt) (keep (sum (keep (product2 x a p q) tt) (keep (product3 x a p q) tt)) tt)) tt)) tt

pub returns : goal.returns
returns c =
    let x = c.args.x in let a = c.args.c in let p = c.requires.numbers in let q = c.requires.coefficients in
    (keep (sum (keep (product0 x a p q) tt) (keep (sum (keep (product1 x a p q) tt) (keep (sum (keep (product2 x a p q) tt) (keep (product3 x a p q) tt)) tt)) tt)) tt).is
    ∙ ap (λ z. at a 0 *ℤ at x 0 +ℤ (at a 1 *ℤ at x 1 +ℤ (at a 2 *ℤ at x 2 +ℤ z))) (sym (+ℤ_idr (at a 3 *ℤ at x 3)))
