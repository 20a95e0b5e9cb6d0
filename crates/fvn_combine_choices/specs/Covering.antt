-- Covering on kinds: values of variables that a unifier is an instance of, and that keep to the sorts to which it keeps.
use Rattle.std.specs.Prelude.{List, Contains}
use Rattle.fvn_terms.specs.declared.plain.Var.{Var}
use Rattle.fvn_terms.specs.declared.declarations.Declarations.{Declarations}
use Rattle.fvn_terms.specs.Substitution.{Substitution, apply}
use Rattle.fvn_terms.specs.Signature.{AtOrBelow, KeepsKinds}
use Rattle.fvn_terms.specs.Equality.{BEqual}
use Rattle.fvn_forms.specs.Flat.{FlatTerm, plain}
use Rattle.fvn_forms.specs.Canon.{canon}
use Rattle.fvn_forms.specs.LeastSort.{sort_in, least_sort}

-- a later substitution makes u's values from these, modulo the axioms; where u's value is of its variable's sort, so is this one, as soon as
-- each variable has the least sort of what it becomes
pub record CoversOnKinds (d : Declarations) (variables : List Var) (values : Var → FlatTerm) (u : Substitution) : Type 0 where
  pub later : Substitution
  pub keeps : KeepsKinds d later
  pub equal : (x : Var) → Contains variables x → BEqual d (u x) (apply later (plain (values x)))
  pub sorts : (x : Var) → Contains variables x → AtOrBelow d (least_sort d (canon d (u x))) x.sort
      → AtOrBelow d (sort_in d (λ z. least_sort d (canon d (later z))) (values x)) x.sort
