-- Being more general is reflexive and transitive.
use Rattle.std.proofs.Common.{refl, List, sym, subst}
use Rattle.fvn_terms.specs.declared.plain.Var.{Var}
use Rattle.fvn_terms.specs.declared.declarations.Declarations.{Declarations}
use Rattle.fvn_terms.specs.Term.{var}
use Rattle.fvn_terms.specs.Substitution.{Substitution}
use Rattle.fvn_terms.specs.Signature.{same}
use Rattle.fvn_terms.specs.Places.{stop}
use Rattle.fvn_terms.specs.Equality.{BEqual}
use Rattle.fvn_terms.specs.Sorts.{IsWellSorted}
use Rattle.fvn_terms.proofs.Substitutions.{apply-var}
use Rattle.fvn_terms.proofs.Instances.{IsInstance-trans}
use Rattle.fvn_flat.specs.Problems.{variables_of}
use Rattle.fvn_combine_loose.specs.MoreGeneral.{IsMoreGeneral}
use Rattle.fvn_combine_loose.specs.Laws.{MoreGeneralIsAPreorder}

staying_sorted : (d : Declarations) → IsWellSorted d var
staying_sorted d = (λ x i. (i, refl), λ x. record { form = var x; equal = stop; gets = record { sort = x.sort; gets = refl; below = same } })

more_general_itself : (d : Declarations) (vars : List Var) (u : Substitution) → IsMoreGeneral d vars u u
more_general_itself d vars u = record {
  instance = record { after = var; well_sorted = staying_sorted d; equal = λ x c. subst (BEqual d (u x)) (sym (apply-var (u x))) stop };
  sorts = λ h. h;
  well_sorted = λ h. h;
}

more_general_chain : (d : Declarations) (vars : List Var) (u v w : Substitution) → IsMoreGeneral d vars u v → IsMoreGeneral d vars v w → IsMoreGeneral d vars u w
more_general_chain d vars u v w a b = record {
  instance = IsInstance-trans d vars u v w a.instance b.instance;
  sorts = λ h. b.sorts (a.sorts h);
  well_sorted = λ h. b.well_sorted (a.well_sorted h);
}

pub preorder : MoreGeneralIsAPreorder
preorder = record {
  itself = λ d good problem kinded u. more_general_itself d (variables_of problem) u;
  after = λ d good problem kinded u v w. more_general_chain d (variables_of problem) u v w;
}
