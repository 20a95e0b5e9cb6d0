-- An instance of an instance is an instance.
use Rattle.std.proofs.Common.{List, subst}
use Rattle.fvn_terms.specs.declared.plain.Var.{Var}
use Rattle.fvn_terms.specs.declared.declarations.Declarations.{Declarations}
use Rattle.fvn_terms.specs.Term.{Term}
use Rattle.fvn_terms.specs.Substitution.{Substitution, apply, followed_by}
use Rattle.fvn_terms.specs.Equality.{BEqual}
use Rattle.fvn_terms.specs.Sorts.{IsWellSorted}
use Rattle.fvn_terms.specs.Unifiers.{Problem, IsUnifier, IsInstanceUpTo, IsInstance}
use Rattle.fvn_terms.specs.Theory.{Equations, TEqual}
use Rattle.fvn_terms.specs.CompleteSets.{IsCompleteSet, IsApart, IsShortest}
use Rattle.fvn_terms.specs.Laws.{InstancesChain}
use Rattle.fvn_terms.proofs.Substitutions.{apply-apply}
use Rattle.fvn_terms.proofs.Steps.{Leads-append}
use Rattle.fvn_terms.proofs.Equal.{BEqual-apply, BEqual-trans}
use Rattle.fvn_terms.proofs.WellSorted.{IsWellSorted-followed_by}
use Rattle.fvn_terms.proofs.TheoryLaws.{TEqual-apply}
use Rattle.fvn_terms.proofs.CompleteSets.{apart_and_complete_is_shortest}

module _ (d : Declarations) (vars : List Var) where
  module _ (E : Term → Term → Type 0) (joins : (t u v : Term) → E t u → E u v → E t v) (kept : (s : Substitution) → IsWellSorted d s → (t u : Term) → E t u → E (apply s t) (apply s u)) where
    pub IsInstanceUpTo-trans : (a b c : Substitution) → IsInstanceUpTo d E vars a b → IsInstanceUpTo d E vars b c → IsInstanceUpTo d E vars a c
    IsInstanceUpTo-trans a b c h g = record {
      after = followed_by g.after h.after;
      well_sorted = IsWellSorted-followed_by d g.after h.after g.well_sorted h.well_sorted;
      equal = λ x m.
          let whole = joins (a x) (apply h.after (b x)) (apply h.after (apply g.after (c x))) (h.equal x m) (kept h.after h.well_sorted (b x) (apply g.after (c x)) (g.equal x m)) in
          subst (E (a x)) (apply-apply g.after h.after (c x)) whole;
    }

  pub IsInstance-trans : (a b c : Substitution) → IsInstance d vars a b → IsInstance d vars b c → IsInstance d vars a c
  IsInstance-trans = IsInstanceUpTo-trans (BEqual d) (λ t u v. BEqual-trans d) (λ s sorted t u. BEqual-apply d s sorted.0)

  pub instances_chain : (equations : Equations) → InstancesChain d equations vars
  instances_chain equations = record {
    modulo = IsInstance-trans;
    theory = IsInstanceUpTo-trans (TEqual d equations) (λ t u v. Leads-append) (λ s sorted t u. TEqual-apply d equations s sorted t u);
  }

  pub shortest_unifiers : (problem : Problem) (set : List Substitution) → IsCompleteSet (IsUnifier d problem) (IsInstance d vars) set → IsApart (IsInstance d vars) set → IsShortest (IsUnifier d problem) (IsInstance d vars) set
  shortest_unifiers problem = apart_and_complete_is_shortest (IsUnifier d problem) (IsInstance d vars) IsInstance-trans
