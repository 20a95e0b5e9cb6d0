-- What a signature keeps.
use Rattle.std.specs.Prelude.{◌≡◌, List, map}
use Rattle.fvn_terms.specs.declared.plain.SortId.{SortId}
use Rattle.fvn_forms.specs.Good.{IsGood}
use Rattle.fvn_signature.specs.declared.draft.Draft.{Draft}
use Rattle.fvn_signature.specs.FirstSorts.{first_sorts}
use Rattle.fvn_signature.specs.Queries.{direct_subsorts, IsCompleted}

-- what a signature keeps: a good draft, and for each sort and kind the declared sorts right below it
pub record IsKept (t : Draft) (below : List (List SortId)) : Type 0 where
  pub good : IsGood t.declarations
  pub direct : below ≡ map (direct_subsorts t.declarations) (first_sorts t.total)
  pub completed : IsCompleted t.declarations
