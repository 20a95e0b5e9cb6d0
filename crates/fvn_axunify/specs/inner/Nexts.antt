-- What the next step of a search gives.
use Rattle.std.specs.Prelude.{◌≡◌, ◌<◌, false, Some, None, Ok, Err}
use Rattle.fvn_flat.specs.declared.solver.SolveEnd.{SolveEnd}
use Rattle.fvn_flat.specs.declared.solver.SolveEnd.TheVariants.{Complete, Basis, Unifiers, Size}
use Rattle.fvn_flat.specs.declared.solver.SizeCause.TheVariants.{Problem, Binding, Term}
use Rattle.fvn_combine.specs.Search.{Search}
use Rattle.fvn_combine.specs.Advancing.{IsAdvanced}
use Rattle.fvn_combine.specs.Work.{work_left}
use Rattle.fvn_combine.specs.declared.ending.CombineEnd.TheVariants.{Basis as OfBasis, Size as OfSize}
use Rattle.fvn_axunify.specs.declared.next.Next.{Next}
use Rattle.fvn_axunify.specs.declared.next.Next.TheVariants.{Given, End}

module _ (before after : Search) where
  -- nothing was to come, or a cause holds; and so the search ended
  abbrev pub IsLast : SolveEnd → Type 0
  IsLast Complete = IsAdvanced before after (Ok None)
  IsLast (Basis f system) = IsAdvanced before after (Err (OfBasis f system))
  IsLast Unifiers = ⊥
  IsLast (Size (Problem p)) = ⊥
  IsLast (Size (Binding list)) = IsAdvanced before after (Err (OfSize list))
  IsLast (Size (Term t)) = ⊥

  -- a unifier on kinds, with less to do after it, or an end
  abbrev pub IsNext : Next → Type 0
  IsNext (Given g) = IsAdvanced before after (Ok (Some g)) × (work_left after < work_left before)
  IsNext (End end) = IsLast end

-- where a search ends at a refused sum system, it asked for all unifiers
abbrev pub AsksForAllAtRefusal : Search → SolveEnd → Type 0
AsksForAllAtRefusal m Complete = Unit {0}
AsksForAllAtRefusal m (Basis f system) = m.combining.general ≡ false
AsksForAllAtRefusal m Unifiers = Unit {0}
AsksForAllAtRefusal m (Size cause) = Unit {0}

-- the search did not end at a refused sum system
abbrev pub IsNoRefusal : SolveEnd → Type 0
IsNoRefusal Complete = Unit {0}
IsNoRefusal (Basis f system) = ⊥
IsNoRefusal Unifiers = Unit {0}
IsNoRefusal (Size cause) = Unit {0}
