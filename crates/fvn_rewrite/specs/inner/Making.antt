-- What comes of instances whose normal forms are sought from the inside out.
use Rattle.std.specs.Prelude.{◌≡◌, ◌+◌, ℕ, Contains}
use Rattle.fvn_terms.specs.declared.plain.OpId.{OpId}
use Rattle.fvn_terms.specs.declared.declarations.Axioms.TheVariants.{Free}
use Rattle.fvn_terms.specs.declared.declarations.Declarations.{Declarations}
use Rattle.fvn_terms.specs.Signature.{axioms}
use Rattle.fvn_terms.specs.Sorts.{IsWellSorted}
use Rattle.fvn_terms.specs.Substitution.{Substitution, apply}
use Rattle.fvn_terms.specs.Term.{Term, Terms, app}
use Rattle.fvn_terms.specs.Theory.{Equations}
use Rattle.fvn_terms.specs.Rewriting.{Rewrites, TermSequence}
use Rattle.fvn_terms.specs.Laws.{RewritingLaws}
use Rattle.fvn_forms.specs.Flat.{FlatTerm, plain}
use Rattle.fvn_forms.specs.Good.{IsGood}
use Rattle.fvn_rewrite_laws.specs.Laws.{SequenceLaws, KindedLaws}
use Rattle.fvn_theory.specs.Equations.{equations_of}
use Rattle.fvn_rewrite_rules.specs.declared.rule.Rule.{Rule}
use Rattle.fvn_rewrite_rules.specs.Given.{RuleLists, headed}
use Rattle.fvn_rewrite_laws.specs.Normalised.{IsReached}
use Rattle.fvn_rewrite.specs.declared.making.Made.{Made}
use Rattle.fvn_rewrite.specs.declared.making.MadeAll.{MadeAll}
use Rattle.fvn_rewrite.specs.declared.making.Turned.{Turned}
use Rattle.fvn_rewrite.specs.declared.making.Turned.TheVariants.{Whole, Over}
use Rattle.fvn_rewrite.specs.inner.Trying.{AllSidesFit}
use Rattle.fvn_rewrite.specs.inner.SortedTerms.{spack, term_of, terms_of, IsSorted, AreSorted}

-- what the search needs of the rules: their instances are steps, and sequences are lawful
pub record AreStepRules (d : Declarations) (lists : RuleLists) : Type 0 where
  pub good : IsGood d
  pub fit : (f : OpId) → AllSidesFit d (headed lists f)
  pub steps : (f : OpId) (rule : Rule) → Contains (headed lists f) rule →
      (s : Substitution) → IsWellSorted d s →
      Rewrites d (equations_of lists.equations) (apply s (plain rule.left)) (apply s (plain rule.right))
  pub rewriting : RewritingLaws d (equations_of lists.equations)
  pub sequences : SequenceLaws d (equations_of lists.equations)
  pub kinds : KindedLaws d (equations_of lists.equations)

module _ (d : Declarations) (equations : Equations) where
  -- as many steps as are used up lead from the first term to the second
  pub record LeadsTo (t : Term) (before : ℕ) (u : Term) (after : ℕ) : Type 0 where
    pub count : ℕ
    pub spent : count + after ≡ before
    pub sequence : TermSequence d equations count t u

  -- they lead to the term that is made, which bears its sorts
  pub record IsMade (t : Term) (before : ℕ) (made : Made) : Type 0 where
    pub leads : LeadsTo t before (term_of made.value) made.left
    pub sorted : IsSorted d made.value

  -- they lead from each operator over the terms to it over those that are made
  pub record AreMade (ts : Terms) (before : ℕ) (made : MadeAll) : Type 0 where
    pub leads : (f : OpId) → LeadsTo (app f ts) before (app f (terms_of made.values.items)) made.left
    pub sorted : AreSorted d (spack made.values.items)

  -- they lead to an operator without axioms over the terms that are made
  pub record IsMadeOver (t : Term) (before : ℕ) (f : OpId) (made : MadeAll) : Type 0 where
    pub leads : LeadsTo t before (app f (terms_of made.values.items)) made.left
    pub sorted : AreSorted d (spack made.values.items)
    pub free : axioms d f ≡ Free

  -- what a turn comes to
  abbrev pub TurnsTo : Term → ℕ → Turned → Type 0
  TurnsTo t before (Whole made) = IsMade t before made
  TurnsTo t before (Over f made) = IsMadeOver t before f made

  -- as many steps as are used up lead from the first form to the second, which fits
  pub record IsReachedFrom (t : FlatTerm) (before : ℕ) (u : FlatTerm) (after : ℕ) : Type 0 where
    pub count : ℕ
    pub spent : count + after ≡ before
    pub reached : IsReached d equations count t u
