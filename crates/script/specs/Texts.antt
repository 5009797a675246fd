-- The text of a line whose call was refused.
use Rattle.std.specs.Prelude.{ℕ, List, ◌++◌, Some, None, Option, codes}
use Rattle.std.specs.Fmt.{decimal}
use Rattle.ends.specs.Refusals.{number_of}
use Rattle.ends.specs.Words.{word_of}
use Rattle.script.specs.declared.undone.Undone.{Undone}
use Rattle.script.specs.declared.undone.Undone.TheVariants.{Refused, InError}

-- its number and its word; what is wrong with a line has no stated text
abbrev pub text_of : Undone → Option (List ℕ)
text_of (Refused refusal) = Some (codes "refused " ++ (decimal (number_of refusal) ++ (codes ": " ++ word_of refusal)))
text_of (InError fault) = None
