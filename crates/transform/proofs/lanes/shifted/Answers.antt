use Rattle.std.proofs.Common.{◌^◌, ◌<◌, get_or, map, sym, ap, ◌∙◌, subst, arith, w32, to_z, of_z}
use Rattle.std.proofs.lemmas.Simd.{length-replicate, get_or-replicate}
use lib.Signed.{shr_z}
use Rattle.laws.specs.Blocks.{at}
use Rattle.laws.proofs.Meant.{shifted}
use Rattle.transform.proofs.Lines.{asked, given, long, lane, part}
use Rattle.transform.proofs.lanes.shifted.Goals as goal

pub overflow_shr-result : goal.overflow_shr-result
overflow_shr-result g c =
    asked _ _ g.row.N (long c.args.a _ (omega arith)) (length-replicate g.row.N c.args.places) _
    (λ k l. subst (λ p. p < 32) (sym (get_or-replicate g.row.N k c.args.places 0 l)) c.requires.places)

pub returns : goal.returns
returns g c =
    let value =
    given _ _ g.row.N (long c.args.a _ (omega arith)) (length-replicate g.row.N c.args.places) _ (λ i. shr_z (at c.args.a i) (2 ^ c.args.places))
    (λ k l. ap (λ p. to_z w32 (of_z w32 (shr_z (to_z w32 (get_or (map (of_z w32) c.args.a) k 0)) (2 ^ p)))) (get_or-replicate g.row.N k c.args.places 0 l)
    ∙ (shifted (2 ^ c.args.places) (lane c.args.a 536870912 k (c.requires.size k l) tt) tt).is) in
    record { value = value; size = (part c.args.places value (record { sized = c.requires.size })).sized }
