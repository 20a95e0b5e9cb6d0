-- Lists of ranks among whose results the same is found.
use Rattle.std.specs.Prelude.{◌≡◌, Bool, List, find}
use Rattle.fvn_terms.specs.declared.plain.SortId.{SortId}
use Rattle.fvn_terms.specs.declared.declarations.Rank.{Rank}
use Rattle.fvn_terms.specs.declared.declarations.Declarations.{Declarations}
use Rattle.fvn_forms.specs.Ranks.{results}

-- over any arguments a search among the sorts to which the ranks take them finds the same
abbrev pub FindAlike : List Rank → List Rank → Type 0
FindAlike some all = (d : Declarations) (args : List SortId) (p : SortId → Bool) → find p (results d some args) ≡ find p (results d all args)
