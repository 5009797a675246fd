use Rattle.std.proofs.Common.{rules, ◌≡◌, ◌-◌, ◌++◌, length, take, replicate, is_ok, vec_items, vec_len, refl, ap, ◌∙◌, arith, take_all}
use Rattle.std.proofs.ResultArms.{chosen}
use Rattle.script.specs.Memory.{handed, padded, memory_of, written}
use Rattle.script.proofs.Written.{returned}
use Rattle.script.proofs.memory.Plane.lend.Goals as goal

pub returns-clause-lent : goal.returns-clause-lent
returns-clause-lent g c =
    let plane = c.args.self.now in
    let area = c.len-area.result in
    let bytes = c.of-bytes.result in
    let own : area ≡ length plane = search rules in
    let number : bytes ≡ handed c.args.amount (length plane) = search rules in
    let cut : take c.max.result (vec_items c.self.inside.samples) ≡ plane = take_all _ _ (search rules) ∙ c.self.view_is in
    let behind : c.max.result - vec_len c.self.inside.samples ≡ handed c.args.amount (length plane) - length plane = omega arith in
    let filled : vec_items c.resize.new.self ≡ padded plane (handed c.args.amount (length plane)) = chosen _ _ _ _ c.resize.ensures.items (ap is_ok c.in_ok-resize.was) ∙ (λ i. cut i ++ replicate (behind i) 0) in
    let exact : bytes - 0 ≡ handed c.args.amount (length plane) = omega (arith, number) in
    let whole = c.deref_mut.ensures.value ∙ filled in
    let memory : take (bytes - 0) c.deref_mut.result.now ≡ memory_of plane c.args.amount = λ i. take (exact i) (whole i) in
    let back : vec_items c.truncate.new.self ≡ written plane c.call-answer.new.arg3 = c.truncate.ensures.items ∙ returned _ _ _ _ _ _ _ _ (search rules) (search rules) c.deref_mut.ensures.value (search rules) filled own in
    (c.call-answer.new.arg3, record { end = _; is_end = refl; bytes = _; is_memory = memory; end_left = _; bytes_left = _; met = c.call-answer.ensures; leaves_end = refl; leaves_bytes = refl }, back)
