-- What a term in a module asks: its variants.
-- H. Comon-Lundh and S. Delaune, The finite variant property, 2005.
use Rattle.std.specs.Prelude.{◌≡◌, ℕ, List, [], ◌∷◌, All}
use Rattle.fvn_terms.specs.Term.{Term}
use Rattle.fvn_terms.specs.Plain.{term}
use Rattle.fvn_terms.specs.Substitution.{Substitution}
use Rattle.fvn_terms.specs.Variants.{IsVariant, IsWithin, Covers}
use Rattle.fvn_terms.specs.CompleteSets.{IsCompleteSet}
use Rattle.fvn_forms.specs.Flat.{FlatTerm}
use Rattle.fvn_forms.specs.Canon.{canon}
use Rattle.fvn_syntax.specs.Pieces.{Text}
use Rattle.fvn_problems.specs.declared.query.Query.{Query}
use Rattle.fvn_module.specs.Contents.{Contents}
use Rattle.fvn_theory.specs.Equations.{equations_of}
use Rattle.fvn_closure.specs.Closing.{Reached}
use Rattle.fvn_answer.specs.Denoting.{DenotesVariant}
use Rattle.fvn_cmd.specs.Headline.{Promise}
use Rattle.fvn_cmd_unify.specs.Asked.{on_variables}
use Rattle.fvn_cmd_exploring.specs.Searches.{AreTrusted}

module _ (m : Contents) (t : Query) where
  -- the flat form of the term, which is explored
  abbrev pub flattened : FlatTerm
  flattened = canon m.signature (term t.term)

  -- under the substitution, whose values are irreducible, the term is brought to an irreducible one
  abbrev pub IsVariantOfTerm : Reached → Type 0
  IsVariantOfTerm v = IsVariant m.signature (equations_of m.equations) [] (term t.term ∷ []) v.0 v.1

  -- no sequence from the instance of the term has more steps than this
  abbrev pub IsWithinSteps : ℕ → Reached → Type 0
  IsWithinSteps most v = IsWithin m.signature (equations_of m.equations) most (term t.term ∷ []) v.1

  -- on the term's variables, one substitution makes the first from the second, modulo the axioms
  abbrev pub IsCoveredBy : Reached → Reached → Type 0
  IsCoveredBy w v = Covers m.signature t.vars v.0 v.1 w.0 w.1

  -- finitely many variants, to each of which no more steps than this lead, cover every variant
  pub record HasFewLevels (most : ℕ) : Type 0 where
    pub variants : List Reached
    pub all : IsCompleteSet IsVariantOfTerm IsCoveredBy variants
    pub within : All (IsWithinSteps most) variants

  -- the line denotes the variant; on other variables than the term's its substitution is the identity
  pub record DenotesReached (line : Text) (v : Reached) : Type 0 where
    pub reached : Term
    pub by : Substitution
    pub denotes : DenotesVariant m.signature m.names t.names.texts t.vars line reached by
    pub is : v ≡ (reached ∷ [], on_variables t.vars by)

  -- What is promised of its variants: these are the answers and the solutions, each of which covers others; termination
  -- and confluence are trusted.
  abbrev pub variants_of : Promise Reached
  variants_of = record {
    IsOne = IsVariantOfTerm;
    IsBelow = IsCoveredBy;
    IsSolution = IsVariantOfTerm;
    IsReached = IsCoveredBy;
    Denotes = DenotesReached;
    Trusted = AreTrusted m;
  }
