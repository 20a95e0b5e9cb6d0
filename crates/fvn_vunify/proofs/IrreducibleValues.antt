-- Unifiers in a theory, and those with irreducible values.
use Rattle.std.proofs.Common.{List, [], ◌∷◌, ◌++◌, ◌⊎◌, get_or, refl, sym, subst, inl, inr}
use Rattle.std.specs.List.{Contains}
use Rattle.std.proofs.lemmas.List.Elements.{All-head, All-tail, Contains-append_cases}
use Rattle.fvn_base.proofs.Membership.{contains_none}
use Rattle.fvn_terms.specs.declared.plain.Var.{Var}
use Rattle.fvn_terms.specs.declared.plain.SortId.{SortId}
use Rattle.fvn_terms.specs.declared.declarations.Declarations.{Declarations}
use Rattle.fvn_terms.specs.Term.{Term, var}
use Rattle.fvn_terms.specs.Substitution.{Substitution}
use Rattle.fvn_terms.specs.Signature.{IsSort, HasKind, same}
use Rattle.fvn_terms.specs.Places.{stop}
use Rattle.fvn_terms.specs.Sorts.{IsWellSorted}
use Rattle.fvn_terms.specs.Unifiers.{Problem}
use Rattle.fvn_terms.specs.Theory.{TEqual, IsTheoryInstance}
use Rattle.fvn_terms.specs.Rewriting.{IsTerminating}
use Rattle.fvn_terms.specs.Laws.{RewritingLaws, TheoryLaws, InstancesChain}
use Rattle.fvn_terms.proofs.Substitutions.{apply-var}
use Rattle.fvn_flat.specs.Problems.{variables, variables_of, IsProblem}
use Rattle.fvn_flat.proofs.VariableLists.{variables_occur}
use Rattle.fvn_rewrite_laws.specs.Losses.{AreSortDecreasing}
use Rattle.fvn_rewrite_laws.proofs.Choosing.{occurring_sort}
use Rattle.fvn_rewrite_normal_forms.specs.Laws.{NormalFormLaws}
use Rattle.fvn_exploring.specs.Setting.{Setting}
use Rattle.fvn_vunify.specs.Solutions.{IsKeptUnifier, IsInstanceOfSome, IsTheoryInstanceOfSome}
use Rattle.fvn_vunify.specs.Laws.{IsIrreducibleFor, TheoryUnifierLaws}

module _ (d : Declarations) where
  -- each variable stays
  pub variables_sorted : IsWellSorted d var
  variables_sorted = (λ x i. (i, refl), λ x. record { form = var x; equal = stop; gets = record { sort = x.sort; gets = refl; below = same } })

  abbrev pub OfOneKind : Term × Term → Type 0
  OfOneKind p = (k : SortId) × HasKind d p.0 k × HasKind d p.1 k

  -- the variables of a problem have sorts of the signature
  pub variable_sort : (problem : Problem) → IsProblem d problem → (x : Var) → Contains (variables_of problem) x → IsSort d x.sort
  variable_sort [] h x m = absurd (contains_none x m)
  variable_sort (p ∷ problem) h x m = go (Contains-append_cases (variables p.0 ++ variables p.1) (variables_of problem) x m) (variable_sort problem (All-tail OfOneKind p problem h) x) where
    k : OfOneKind p
    k = All-head OfOneKind p problem h

    side : Contains (variables p.0) x ⊎ Contains (variables p.1) x → IsSort d x.sort
    side (inl a) = occurring_sort d x p.0 k.0 k.1 (variables_occur x p.0 a)
    side (inr b) = occurring_sort d x p.1 k.0 k.2 (variables_occur x p.1 b)

    go : Contains (variables p.0 ++ variables p.1) x ⊎ Contains (variables_of problem) x → (Contains (variables_of problem) x → IsSort d x.sort) → IsSort d x.sort
    go (inl pair) later = side (Contains-append_cases (variables p.0) (variables p.1) x pair)
    go (inr rest) later = later rest

module _ (g : Setting) (normal : NormalFormLaws g.declarations g.equations) (rewriting : RewritingLaws g.declarations g.equations)
    (theory : TheoryLaws g.declarations g.equations) (problem : Problem) (chain : InstancesChain g.declarations g.equations (variables_of problem)) where
  -- an instance in the theory of what is an instance of one of a list
  one_of : (list : List Substitution) (s c : Substitution) → IsTheoryInstance g.declarations g.equations (variables_of problem) s c →
      IsInstanceOfSome g problem list c → IsTheoryInstanceOfSome g problem list s
  one_of list s c i w = (w.0, w.1, w.2, w.3, chain.theory s c w.1 i (theory.instances (variables_of problem) c w.1 w.4))

  module _ (kinds : IsProblem g.declarations problem) (decreasing : AreSortDecreasing g.declarations g.equations) (ends : IsTerminating g.declarations g.equations) where
    irreducible_for : (s : Substitution) → IsKeptUnifier g problem s → (c : Substitution) × IsIrreducibleFor g problem s c
    irreducible_for s h = let n = normal.normalised ends decreasing s h.unifier.0 in (
      n.0,
      record {
        irreducible = record {
          kept = record {
            unifier = normal.solutions s n.0 n.1 problem h.unifier;
            stay = λ k e l. normal.stay s n.0 n.1 (get_or g.fixed k e) (h.stay k e l);
          };
          values = λ x m. n.1.irreducible x (variable_sort g.declarations problem kinds x m);
        };
        instance = record {
          after = var;
          well_sorted = variables_sorted g.declarations;
          equal = λ x m. subst (TEqual g.declarations g.equations (s x)) (sym (apply-var (n.0 x))) (rewriting.theory (n.1.steps x) (s x) (n.0 x) (n.1.reached x));
        };
        within = λ most ts w. normal.within s n.0 n.1 most ts w;
      },
    )

    pub theory_unifier_laws : TheoryUnifierLaws g problem
    theory_unifier_laws = record {
      irreducible = irreducible_for;
      complete = λ list all s h. let c = irreducible_for s h in one_of list s c.0 c.1.instance (all c.0 c.1.irreducible);
      within = λ list most ts all s h w. let c = irreducible_for s h in one_of list s c.0 c.1.instance (all c.0 c.1.irreducible (c.1.within most ts w));
    }
