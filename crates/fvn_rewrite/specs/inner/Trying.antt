-- What comes of trying rules, one after another, at the root of a form.
use Rattle.std.specs.Prelude.{List, [], ◌∷◌, Option, Some, None, All, Contains}
use Rattle.fvn_terms.specs.declared.declarations.Declarations.{Declarations}
use Rattle.fvn_terms.specs.Substitution.{Substitution, apply}
use Rattle.fvn_terms.specs.Equality.{BEqual}
use Rattle.fvn_terms.specs.Sorts.{IsWellSorted}
use Rattle.fvn_forms.specs.Flat.{FlatTerm, plain}
use Rattle.fvn_flat.specs.Fits.{Fits}
use Rattle.fvn_flat.specs.Bindings.{Bindings, BindingsFit}
use Rattle.fvn_match.specs.Matching.{HasNoMatcher, Matches}
use Rattle.fvn_rewrite_rules.specs.declared.rule.Rule.{Rule}

module _ (d : Declarations) where
  -- both sides of the rule fit
  pub record SidesFit (rule : Rule) : Type 0 where
    pub left : Fits d rule.left
    pub right : Fits d rule.right

  -- so do those of each rule
  abbrev pub AllSidesFit : List Rule → Type 0
  AllSidesFit = All SidesFit

  -- the left side of the rule has not the form as an instance
  abbrev pub HasNoMatch : FlatTerm → Rule → Type 0
  HasNoMatch t rule = HasNoMatcher d (rule.left ∷ []) (t ∷ [])

  -- the pairs make the left side of the rule the form, modulo the axioms, and fit
  pub record IsMatch (t : FlatTerm) (rule : Rule) (s : Bindings) : Type 0 where
    pub matches : Matches d (rule.left ∷ []) (t ∷ []) s
    pub fit : BindingsFit d s

  -- what comes of trying one rule
  abbrev pub MatchAs : FlatTerm → Rule → Option Bindings → Type 0
  MatchAs t rule None = HasNoMatch t rule
  MatchAs t rule (Some s) = IsMatch t rule s

  -- that of no rule has
  abbrev pub NoneMatches : FlatTerm → List Rule → Type 0
  NoneMatches t = All (HasNoMatch t)

  -- one well-sorted substitution makes the left side of a rule the first form, modulo the axioms, and its right side the second
  pub record IsGivenBy (rules : List Rule) (t u : FlatTerm) : Type 0 where
    pub rule : Rule
    pub listed : Contains rules rule
    pub by : Substitution
    pub well_sorted : IsWellSorted d by
    pub left : BEqual d (apply by (plain rule.left)) (plain t)
    pub right : BEqual d (apply by (plain rule.right)) (plain u)
    pub fits : Fits d u

  -- what comes of trying the rules
  abbrev pub TriesAs : List Rule → FlatTerm → Option FlatTerm → Type 0
  TriesAs rules t None = NoneMatches t rules
  TriesAs rules t (Some u) = IsGivenBy rules t u
