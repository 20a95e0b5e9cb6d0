-- Patterns and targets of one kind.
use Rattle.std.specs.Prelude.{◌≡◌}
use Rattle.fvn_terms.specs.declared.declarations.Declarations.{Declarations}
use Rattle.fvn_terms.specs.Signature.{kind, AtOrBelow}
use Rattle.fvn_forms.specs.Flat.{FlatTerm}
use Rattle.fvn_forms.specs.LeastSort.{least_sort}

-- the least sorts of both have one kind
abbrev pub HaveOneKind : Declarations → FlatTerm → FlatTerm → Type 0
HaveOneKind d p t = kind d (least_sort d p) ≡ kind d (least_sort d t)

-- the target does not have the least sort of the pattern
abbrev pub LacksSort : Declarations → FlatTerm → FlatTerm → Type 0
LacksSort d p t = AtOrBelow d (least_sort d t) (least_sort d p) → ⊥
