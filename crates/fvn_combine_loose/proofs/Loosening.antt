-- A unifier with a new variable in place of the value of a loose class is more general, and has all that the state has decided.
use Rattle.std.proofs.Common.{ℕ, List, arith, sym, subst}
use Rattle.fvn_terms.specs.declared.declarations.Declarations.{Declarations}
use Rattle.fvn_terms.specs.Substitution.{Substitution, apply}
use Rattle.fvn_terms.specs.Equality.{BEqual}
use Rattle.fvn_terms.specs.Unifiers.{Problem, IsInstance}
use Rattle.fvn_terms.proofs.Equal.{BEqual-sym}
use Rattle.fvn_flat.specs.Problems.{variables_of}
use Rattle.fvn_combine_nodes.specs.Table.{NodeTable}
use Rattle.fvn_combine_nodes.specs.declared.state.State.{State}
use Rattle.fvn_combine_nodes.proofs.Nodes.{term_at-variable}
use Rattle.fvn_combine_loose.specs.MoreGeneral.{IsMoreGeneral}
use Rattle.fvn_combine_loose.specs.Loose.{height_of}
use Rattle.fvn_combine_loose.specs.Laws.{IsLoosened}
use Rattle.fvn_combine_loose.proofs.Setting.{Setting}
use Rattle.fvn_combine_loose.proofs.Remade.{remade}
use Rattle.fvn_combine_loose.proofs.After.{after, after_sorted, after_remade}
use Rattle.fvn_combine_loose.proofs.Loosened.{loosened, loosened_given, loosened_unifies}
use Rattle.fvn_combine_loose.proofs.Admitted.{loosened_admitted}
use Rattle.fvn_combine_loose.proofs.GivenSorts.{loosened_sorts, loosened_well_sorted}

module _ {d : Declarations} {problem : Problem} {t : NodeTable} {s : State} {z : ℕ} {heights : List ℕ} {u : Substitution} (g : Setting d problem t s z heights u) where
  loosened_instance : IsInstance d (variables_of problem) u (loosened g)
  loosened_instance = record {
    after = after g;
    well_sorted = after_sorted g;
    equal = λ x c.
        let r = loosened_given g x c in
        let e = BEqual-sym d (after_remade g (height_of s heights r.0) r.0 (omega arith) r.1) in
        subst (λ v. BEqual d (u x) (apply (after g) v)) (sym r.3) (subst (λ v. BEqual d (apply u v) (apply (after g) (remade g r.0))) (term_at-variable t.nodes r.0 x r.2) e);
  }

  more_general : IsMoreGeneral d (variables_of problem) u (loosened g)
  more_general = record { instance = loosened_instance; sorts = loosened_sorts g; well_sorted = loosened_well_sorted g }

  pub is_loosened : IsLoosened d problem t s u (loosened g)
  is_loosened = record { unifies = loosened_unifies g; more_general = more_general; admits = loosened_admitted g }
