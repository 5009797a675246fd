-- A call that is refused leaves its end and its memory as they were.
use Rattle.std.proofs.Common.{◌≡◌, ℕ, List, ℤ, is_ok, Some, None, Err, Option, refl, ap, true≢false}
use Rattle.kinds.specs.Meaning.{Meaning}
use Rattle.ends.specs.declared.coding.Coding.{Coding}
use Rattle.ends.specs.declared.coding.Heading.{Heading}
use Rattle.ends.specs.declared.end.End.{End}
use Rattle.ends.specs.declared.refusal.Refusal.{Refusal}
use Rattle.ends.specs.Calls.{coded, restarted, followed, resumed}

module _ {e : End} {plane : List ℕ} {r : Refusal} where
  pub coded_idle : (m : Meaning) (c : Coding) (source : List ℕ) (room : List ℤ) (o : Option Refusal) (rebuilt : Option (List ℤ)) → (coded m e plane c source room o rebuilt).answer ≡ Err r → ((coded m e plane c source room o rebuilt).end ≡ e) × ((coded m e plane c source room o rebuilt).plane ≡ plane)
  unfolding coded
  coded_idle m c source room (Some x) rebuilt was = (refl, refl)
  coded_idle m c source room None None was = (refl, refl)
  coded_idle m c source room None (Some rebuilt) was = absurd (true≢false (ap is_ok was))

  pub restarted_idle : (o : Option Refusal) → (restarted e plane o).answer ≡ Err r → ((restarted e plane o).end ≡ e) × ((restarted e plane o).plane ≡ plane)
  unfolding restarted
  restarted_idle (Some x) was = (refl, refl)
  restarted_idle None was = absurd (true≢false (ap is_ok was))

  pub followed_idle : (m : Meaning) (h : Heading) (o : Option Refusal) (rebuilt : Option (List ℤ)) → (followed m e plane h o rebuilt).answer ≡ Err r → ((followed m e plane h o rebuilt).end ≡ e) × ((followed m e plane h o rebuilt).plane ≡ plane)
  unfolding followed
  followed_idle m h (Some x) rebuilt was = (refl, refl)
  followed_idle m h None None was = (refl, refl)
  followed_idle m h None (Some rebuilt) was = absurd (true≢false (ap is_ok was))

  pub resumed_idle : (h : Heading) (o : Option Refusal) → (resumed e plane h o).answer ≡ Err r → ((resumed e plane h o).end ≡ e) × ((resumed e plane h o).plane ≡ plane)
  unfolding resumed
  resumed_idle h (Some x) was = (refl, refl)
  resumed_idle h None was = absurd (true≢false (ap is_ok was))
