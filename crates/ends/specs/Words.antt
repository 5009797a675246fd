-- The words that name the refusals.
use Rattle.std.specs.Prelude.{ℕ, List, codes}
use Rattle.ends.specs.declared.refusal.Refusal.{Refusal}
use Rattle.ends.specs.declared.refusal.Refusal.TheVariants as no

-- the reason of a refusal, in one word
abbrev pub word_of : Refusal → List ℕ
word_of no.Size = codes "size"
word_of no.Plane = codes "plane"
word_of no.Count = codes "count"
word_of no.Tag = codes "tag"
word_of no.Late = codes "late"
word_of no.Early = codes "early"
word_of no.Qp = codes "qp"
word_of no.Mode = codes "mode"
word_of no.Place = codes "place"
word_of no.Length = codes "length"
word_of no.Border = codes "border"
word_of no.Width = codes "width"
