use Rattle.std.proofs.Common.{refl}
use Rattle.laws.proofs.Meant.{sum, difference, keep, sized, cons}
use Rattle.transform8.proofs.EightLines.{line}
use Rattle.transform8.proofs.forward.mirrored.Goals as goal

pub returns : goal.returns
returns c =
    let x = line c.args.x 2097152 c.requires tt in
    let s0 = keep (sum x.0 x.7) tt in let s1 = keep (sum x.1 x.6) tt in
    let s2 = keep (sum x.2 x.5) tt in let s3 = keep (sum x.3 x.4) tt in
    let d0 = keep (difference x.0 x.7) tt in let d1 = keep (difference x.1 x.6) tt in
    let d2 = keep (difference x.2 x.5) tt in let d3 = keep (difference x.3 x.4) tt in
    record {
      sums = cons s0.is (cons s1.is (cons s2.is (cons s3.is refl)));
      differences = cons d0.is (cons d1.is (cons d2.is (cons d3.is refl)));
      sums_small = (sized _ s0 tt, sized _ s1 tt, sized _ s2 tt, sized _ s3 tt);
      differences_small = (sized _ d0 tt, sized _ d1 tt, sized _ d2 tt, sized _ d3 tt);
    }
