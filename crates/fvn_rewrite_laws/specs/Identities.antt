-- The identities of a signature.
use Rattle.std.specs.Prelude.{Bool, if◌then◌else◌, List, [], ◌∷◌, ◌++◌, fold, Option, Some, None}
use Rattle.std.specs.List.{list_any}
use Rattle.fvn_terms.specs.declared.plain.OpId.{OpId}
use Rattle.fvn_terms.specs.declared.declarations.OpDecl.{OpDecl}
use Rattle.fvn_terms.specs.declared.declarations.Declarations.{Declarations}
use Rattle.fvn_forms.specs.Canon.{same_op}
use Rattle.fvn_terms.specs.Equality.{identity}

-- whether the operator is listed
abbrev pub is_listed_op : List OpId → OpId → Bool
is_listed_op es e = list_any (same_op e) es

-- the list with an operator at its end, if there is one and it is not there yet
abbrev pub with_operator : List OpId → Option OpId → List OpId
with_operator es None = es
with_operator es (Some e) = if is_listed_op es e then es else es ++ e ∷ []

-- the list with the identity of an operator
abbrev pub with_identity_of : List OpId → OpDecl → List OpId
with_identity_of es o = with_operator es (identity o.axioms)

-- the identities of the operators, each once, in the order in which the operators are declared
abbrev pub identities : Declarations → List OpId
identities d = fold with_identity_of [] d.ops
