-- What inner functions tell their callers. No public contract rests on this page: a reader may pass it over.
use Rattle.std.specs.Prelude.{Some, None, Ok, Err, Option, Result}
use Rattle.ends.specs.declared.refusal.Refusal.{Refusal}

-- what the rules let through, or their refusal
abbrev pub unless : {A : Type 0} → Option Refusal → A → Result A Refusal
unless None a = Ok a
unless (Some r) a = Err r
