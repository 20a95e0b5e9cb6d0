-- Normal forms of terms and of substitutions.
-- F. Baader and T. Nipkow, Term Rewriting and All That, 1998, chapter 2.
use Rattle.std.specs.Prelude.{ℕ, List}
use Rattle.fvn_terms.specs.declared.plain.Var.{Var}
use Rattle.fvn_terms.specs.declared.declarations.Declarations.{Declarations}
use Rattle.fvn_terms.specs.Term.{Term}
use Rattle.fvn_terms.specs.Substitution.{Substitution}
use Rattle.fvn_terms.specs.Signature.{IsSort}
use Rattle.fvn_terms.specs.Sorts.{IsWellSorted}
use Rattle.fvn_terms.specs.Theory.{Equations}
use Rattle.fvn_terms.specs.Rewriting.{TermSequence, ListSequence, IsIrreducible, IsIrreducibleList}

module _ (d : Declarations) (equations : Equations) where
  -- some number of steps leads from the term to an irreducible one
  pub record HasNormalForm (t : Term) : Type 0 where
    pub form : Term
    pub steps : ℕ
    pub reached : TermSequence d equations steps t form
    pub irreducible : IsIrreducible d equations form

  -- some number of steps leads from the list to an irreducible one
  pub record HaveNormalForms (ts : List Term) : Type 0 where
    pub forms : List Term
    pub steps : ℕ
    pub reached : ListSequence d equations steps ts forms
    pub irreducible : IsIrreducibleList d equations forms

  -- The second substitution is well-sorted, and steps lead to each of its values from that of the first.
  -- Its values for variables of the signature's sorts are irreducible.
  pub record IsNormalisedFrom (s c : Substitution) : Type 0 where
    pub well_sorted : IsWellSorted d c
    pub steps : Var → ℕ
    pub reached : (x : Var) → TermSequence d equations (steps x) (s x) (c x)
    pub irreducible : (x : Var) → IsSort d x.sort → IsIrreducible d equations (c x)
