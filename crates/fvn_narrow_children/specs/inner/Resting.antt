-- What comes of a search for normal forms of a list of terms.
use Rattle.std.specs.Prelude.{List, Contains}
use Rattle.std.specs.List.{AllZip}
use Rattle.fvn_forms.specs.Flat.{FlatTerm}
use Rattle.fvn_rewrite.specs.Usable.{Rewriting}
use Rattle.fvn_narrow_children.specs.declared.resting.Rested.{Rested}
use Rattle.fvn_narrow_children.specs.declared.resting.Rested.TheVariants.{Forms, Stopped}
use Rattle.fvn_narrow_children.specs.Growing.{IsFormOf, StopsAt}

-- normal forms of all terms, or why one of them has none
abbrev pub RestedAs : Rewriting → List FlatTerm → Rested → Type 0
RestedAs r ts (Forms us) = AllZip (IsFormOf r) ts us
RestedAs r ts (Stopped end) = StopsAt r (Contains ts) end
