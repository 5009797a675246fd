-- What each kind is that a script can name.
use Rattle.kinds.specs.Exact.{exact}
use Rattle.kinds.specs.Meaning.{Meaning}
use Rattle.script.specs.declared.kind.KindName.{KindName}
use Rattle.script.specs.declared.kind.KindName.TheVariants.{Exact}

abbrev pub meaning_of : KindName → Meaning
meaning_of Exact = exact
