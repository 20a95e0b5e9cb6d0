-- A substitution that gives the problem's variables what a unifier on kinds gives them, as flat forms, is one too.
use Rattle.std.proofs.Common.{◌≡◌, ℕ, zero, suc, ◌<◌, [], ◌∷◌, ◌++◌, length, get_or, sym, ap, ◌∙◌, arith, Contains}
use Rattle.std.proofs.lemmas.List.Elements.{Contains-append_left, Contains-append_right}
use Rattle.fvn_terms.specs.declared.plain.Var.{Var}
use Rattle.fvn_terms.specs.declared.declarations.Declarations.{Declarations}
use Rattle.fvn_terms.specs.Term.{Term}
use Rattle.fvn_terms.specs.Substitution.{Substitution, apply, Occurs}
use Rattle.fvn_terms.specs.Equality.{BEqual}
use Rattle.fvn_terms.specs.Unifiers.{Problem}
use Rattle.fvn_terms.proofs.Equal.{HasKind-apply}
use Rattle.fvn_terms.proofs.Substitutions.{apply-agree}
use Rattle.fvn_forms.specs.Flat.{fvar, plain}
use Rattle.fvn_forms.specs.Canon.{canon, eval}
use Rattle.fvn_forms.specs.FitsKinds.{FitsKinds}
use Rattle.fvn_forms.proofs.Eval.{canon_settled, canon_respects, canon_plain, eval_apply}
use Rattle.fvn_forms.proofs.ToCanon.{b_equal_iff_canon}
use Rattle.fvn_flat.specs.Bindings.{Bindings, value, BindingsFit}
use Rattle.fvn_flat.specs.Problems.{variables, variables_of, IsProblem}
use Rattle.fvn_flat.specs.Solving.{substitution}
use Rattle.fvn_flat.specs.SolvedLists.{IsKindUnifier}
use Rattle.fvn_flat.proofs.VariableLists.{variables_list}

-- the variables of a pair's sides are those of the problem
sides_listed : (problem : Problem) (k : ℕ) (e : Term × Term) → k < length problem → (x : Var) → Contains (variables (get_or problem k e).0 ++ variables (get_or problem k e).1) x → Contains (variables_of problem) x
sides_listed [] k e l x c = absurd (omega (arith, l))
sides_listed (p ∷ problem) zero e l x c = Contains-append_left (variables p.0 ++ variables p.1) (variables_of problem) x c
sides_listed (p ∷ problem) (suc k) e l x c = Contains-append_right (variables p.0 ++ variables p.1) (variables_of problem) x (sides_listed problem k e (omega (arith, l)) x c)

module _ (d : Declarations) (s : Substitution) (g : Bindings) (problem : Problem) (agrees : (x : Var) → Contains (variables_of problem) x → value g x ≡ canon d (s x)) where
  -- flat forms of instances are the same
  same_instance : (u : Term) → ((x : Var) → Occurs x u → Contains (variables_of problem) x) → canon d (apply (substitution g) u) ≡ canon d (apply s u)
  same_instance u among =
      ap (canon d) (apply-agree (substitution g) (λ x. plain (canon d (s x))) u (λ x o. ap plain (agrees x (among x o))))
      ∙ eval_apply d fvar (λ x. plain (canon d (s x))) u
      ∙ (λ i. eval d (λ x. canon_plain d (canon d (s x)) (canon_settled d (s x)) i) u)
      ∙ sym (eval_apply d fvar s u)

  pub agreeing_unifies : FitsKinds d → IsProblem d problem → BindingsFit d g → IsKindUnifier d problem s → IsKindUnifier d problem (substitution g)
  agreeing_unifies fits kinds fit unifies = (fit.keeps_kinds, at_pair)
    where
      at_pair : (k : ℕ) (e : Term × Term) → k < length problem → BEqual d (apply (substitution g) (get_or problem k e).0) (apply (substitution g) (get_or problem k e).1)
      at_pair k e l =
          let p = get_or problem k e in
          let h = kinds k e l in
          let left = HasKind-apply d (substitution g) fit.keeps_kinds p.0 h.0 h.1 in
          let right = HasKind-apply d (substitution g) fit.keeps_kinds p.1 h.0 h.2 in
          (b_equal_iff_canon d fits (apply (substitution g) p.0) (apply (substitution g) p.1) (h.0, left) (h.0, right)).1
          (same_instance p.0 (λ x o. sides_listed problem k e l x (Contains-append_left (variables p.0) (variables p.1) x (variables_list x p.0 o)))
          ∙ canon_respects d (unifies.1 k e l)
          ∙ sym (same_instance p.1 (λ x o. sides_listed problem k e l x (Contains-append_right (variables p.0) (variables p.1) x (variables_list x p.1 o)))))
