-- Laws of rewriting modulo the axioms.
use Rattle.std.specs.Prelude.{◌≡◌, ◌↔◌, ℕ, List, map, All, Contains}
use Rattle.std.specs.List.{AllZip}
use Rattle.fvn_terms.specs.declared.plain.Var.{Var}
use Rattle.fvn_terms.specs.declared.plain.OpId.{OpId}
use Rattle.fvn_terms.specs.declared.plain.SortId.{SortId}
use Rattle.fvn_terms.specs.declared.declarations.Declarations.{Declarations}
use Rattle.fvn_terms.specs.Term.{Term}
use Rattle.fvn_terms.specs.Substitution.{Substitution, apply, followed_by, Occurs}
use Rattle.fvn_terms.specs.Signature.{IsTerm, HasKind, KeepsKinds, AtOrBelow}
use Rattle.fvn_terms.specs.Places.{AtOnePlace}
use Rattle.fvn_terms.specs.Equality.{BEqual}
use Rattle.fvn_terms.specs.Sorts.{IsWellSorted}
use Rattle.fvn_terms.specs.Unifiers.{Problem, IsUnifier}
use Rattle.fvn_terms.specs.Theory.{Equations, TEqual}
use Rattle.fvn_terms.specs.Rewriting.{Rewrites, TermSequence, ListSequence, IsReducible, IsIrreducible, IsIrreducibleList, IsConfluent, AreJoinable, IsSortDecreasing, BringsNoVariable}
use Rattle.fvn_terms.specs.Variants.{IsVariant, IsWithin, Covers, OccursInSome}
use Rattle.fvn_forms.specs.FitsKinds.{FitsKinds}
use Rattle.fvn_forms.specs.Canon.{canon}
use Rattle.fvn_forms.specs.Good.{IsGood}
use Rattle.fvn_rewrite_laws.specs.Shapes.{shape_of, shape_in}
use Rattle.fvn_signature.specs.Queries.{IsCompleted}
use Rattle.fvn_rewrite_laws.specs.declared.shapes.Root.TheVariants.{Variable, Constant}
use Rattle.fvn_rewrite_laws.specs.declared.shapes.Shape.{Shape}
use Rattle.fvn_rewrite_laws.specs.Identities.{identities}
use Rattle.fvn_rewrite_laws.specs.Choices.{sort_choices, identity_choices, IsChoice}
use Rattle.fvn_rewrite_laws.specs.Losses.{IsLoss}
use Rattle.fvn_rewrite_laws.specs.Collapses.{CollapsesToVariable, CollapsesToIdentity}
use Rattle.fvn_rewrite_laws.specs.Lists.{EachHasSequence}
use Rattle.fvn_forms.specs.Flat.{FlatTerm, plain}
use Rattle.fvn_flat.specs.Rules.{IsRuleOf}
use Rattle.fvn_rewrite_laws.specs.Agreement.{AgreeOn, AgreeOnAll, AgreeOnVariables, TakesBack}
use Rattle.fvn_rewrite_laws.specs.Kinds.{HasOneKind, HaveOneKind}

-- sequences of terms lead between classes of equal terms, and inside terms
pub record SequenceLaws (d : Declarations) (equations : Equations) : Type 0 where
  -- the first and the last term may be exchanged for equal ones
  pub before : (k : ℕ) (t v u : Term) → BEqual d t v → TermSequence d equations k t u → TermSequence d equations k v u
  pub after : (k : ℕ) (t u v : Term) → TermSequence d equations k t u → BEqual d u v → TermSequence d equations k t v
  -- a step is a sequence of one step
  pub one : (t u : Term) → Rewrites d equations t u → TermSequence d equations 1 t u
  -- a sequence of a subterm is one of the term
  pub inside : (k : ℕ) (t u : Term) → AtOnePlace (TermSequence d equations k) t u → TermSequence d equations k t u
  -- what is equal to a reducible or an irreducible term is so too
  pub reducible : (t u : Term) → BEqual d t u → IsReducible d equations t → IsReducible d equations u
  pub irreducible : (t u : Term) → BEqual d t u → IsIrreducible d equations t → IsIrreducible d equations u
  -- a term with an irreducible well-sorted instance is irreducible
  pub instances : (s : Substitution) → IsWellSorted d s → (t : Term) → IsIrreducible d equations (apply s t) → IsIrreducible d equations t
  -- an instance that a well-sorted substitution takes back is irreducible where the term is
  pub taken_back : (r back : Substitution) → IsWellSorted d back → (t : Term) → TakesBack d back r t →
      IsIrreducible d equations t → IsIrreducible d equations (apply r t)

-- sequences of terms keep to these laws, whatever the signature and the equations
abbrev pub SequencesAreLawful : Type 0
SequencesAreLawful = (d : Declarations) (equations : Equations) → SequenceLaws d equations

-- sequences of lists are sequences of their members
pub record ListLaws (d : Declarations) (equations : Equations) : Type 0 where
  -- a list has a sequence exactly where its members have such whose lengths add up
  pub members : (k : ℕ) (ts us : List Term) → ListSequence d equations k ts us ↔ EachHasSequence d equations k ts us
  -- well-sorted instances of a sequence are sequences
  pub instances : (s : Substitution) → IsWellSorted d s → (k : ℕ) (ts us : List Term) →
      ListSequence d equations k ts us → ListSequence d equations k (map (apply s) ts) (map (apply s) us)
  -- from an irreducible list only the sequence without a step leads on
  pub ended : (k : ℕ) (ts us : List Term) → IsIrreducibleList d equations ts → ListSequence d equations k ts us → (k ≡ 0) × AllZip (BEqual d) ts us

-- sequences of lists keep to these laws, whatever the signature and the equations
abbrev pub ListsAreLawful : Type 0
ListsAreLawful = (d : Declarations) (equations : Equations) → ListLaws d equations

-- variants, bounds and covering speak of the values of the terms' variables alone, modulo the axioms
pub record AgreementLaws (d : Declarations) (equations : Equations) : Type 0 where
  -- a term has equal instances by substitutions that agree on it
  pub terms : (s c : Substitution) (t : Term) → AgreeOn d t s c → BEqual d (apply s t) (apply c t)
  -- a well-sorted substitution that agrees with a unifier on the problem is one
  pub unifiers : (problem : Problem) (s c : Substitution) → IsUnifier d problem s → IsWellSorted d c →
      All (λ p. AgreeOn d p.0 s c × AgreeOn d p.1 s c) problem → IsUnifier d problem c
  -- the same of variants, of bounds on sequences, and of covering
  pub variants : (fixed ts us : List Term) (s c : Substitution) → IsVariant d equations fixed ts us s →
      IsWellSorted d c → AgreeOnAll d ts s c → AgreeOnAll d fixed s c → IsVariant d equations fixed ts us c
  pub within : (most : ℕ) (ts : List Term) (s c : Substitution) → IsWithin d equations most ts s →
      AgreeOnAll d ts s c → IsWithin d equations most ts c
  pub covered : (vars : List Var) (ts : List Term) (s : Substitution) (us : List Term) (c e : Substitution) →
      Covers d vars ts s us c → AgreeOnVariables d vars c e → Covers d vars ts s us e
  -- a variant whose terms and values are renamed is a variant
  pub renamed : (fixed ts us : List Term) (s r back : Substitution) → IsVariant d equations fixed ts us s → IsWellSorted d r → IsWellSorted d back →
      ((x : Var) → OccursInSome x ts → TakesBack d back r (s x)) → All (λ t. TakesBack d back r (apply s t)) fixed → All (TakesBack d back r) us →
      IsVariant d equations fixed ts (map (apply r) us) (followed_by s r)

-- the values of the terms' variables decide, whatever the signature and the equations
abbrev pub AgreementIsLawful : Type 0
AgreementIsLawful = (d : Declarations) (equations : Equations) → AgreementLaws d equations

-- what holds of the theory of equations whose sides have one kind
pub record KindedLaws (d : Declarations) (equations : Equations) : Type 0 where
  -- steps and equality in the theory keep kinds
  pub steps : (t u : Term) → Rewrites d equations t u → (k : SortId) → HasKind d t k → HasKind d u k
  pub sequences : (n : ℕ) (t u : Term) → TermSequence d equations n t u → (k : SortId) → HasKind d t k → HasKind d u k
  pub theory : (t u : Term) → TEqual d equations t u → (k : SortId) → HasKind d t k → HasKind d u k
  -- terms whose sequences meet are equal in the theory, and the other way round where the equations are confluent
  pub joinable_equal : (t u : Term) → AreJoinable d equations t u → TEqual d equations t u
  pub equal_joinable : IsConfluent d equations → (t u : Term) → IsTerm d t → TEqual d equations t u → AreJoinable d equations t u
  -- where the equations are confluent, terms that are equal in the theory have at most one irreducible form modulo the axioms
  pub one_normal_form : IsConfluent d equations → (t u v w : Term) (j k : ℕ) → IsTerm d t → TEqual d equations t u →
      TermSequence d equations j t v → TermSequence d equations k u w → IsIrreducible d equations v → IsIrreducible d equations w → BEqual d v w

-- in a signature that fits, for equations whose sides have one kind each
abbrev pub KindedTheoriesAreLawful : Type 0
KindedTheoriesAreLawful = (d : Declarations) → FitsKinds d → (equations : Equations) → HaveOneKind d equations → KindedLaws d equations

-- in a good signature the shape of an instance is computed from the shapes of the values, whatever these are, where they keep kinds
abbrev pub ShapesAreExact : Type 0
ShapesAreExact = (d : Declarations) → IsGood d → (s : Substitution) → KeepsKinds d s → (t : Term) →
    IsTerm d t → shape_of d (canon d (apply s t)) ≡ shape_in d (λ x. shape_of d (canon d (s x))) t

-- finitely many choices tell whether an equation loses a sort, and whether a term collapses
pub record ChoiceLaws (d : Declarations) : Type 0 where
  -- an equation is sort-decreasing exactly where under each choice of sorts and identities its right side has a sort at or below that of its left side
  pub decreasing : (left right : Term) → HasOneKind d (left, right) → ((x : Var) → Occurs x right → Occurs x left) →
      IsSortDecreasing d left right
      ↔ ((env : Var → Shape) → IsChoice (sort_choices d) left env →
      AtOrBelow d (shape_in d env right).sort (shape_in d env left).sort)
  -- a choice under which it has not makes an instance that loses a sort
  pub losing : (left right : Term) → HasOneKind d (left, right) → ((x : Var) → Occurs x right → Occurs x left) →
      (env : Var → Shape) → IsChoice (sort_choices d) left env →
      (AtOrBelow d (shape_in d env right).sort (shape_in d env left).sort → ⊥) → IsLoss d left right
  -- a term collapses to a variable exactly where some choice of identities gives it the shape of one
  pub to_variable : (t : Term) → IsTerm d t → CollapsesToVariable d t
      ↔ ((env : Var → Shape) × IsChoice (identity_choices d) t env × ((shape_in d env t).root ≡ Variable))
  -- and to an identity exactly where one gives it the shape of an identity
  pub to_identity : (t : Term) → IsTerm d t → CollapsesToIdentity d t
      ↔ ((env : Var → Shape) × IsChoice (identity_choices d) t env
      × ((e : OpId) × Contains (identities d) e × ((shape_in d env t).root ≡ Constant e)))

-- in a good signature with all that its queries need
abbrev pub ChoicesAreEnough : Type 0
ChoicesAreEnough = (d : Declarations) → IsGood d → IsCompleted d → ChoiceLaws d

-- what holds of the rules that are made from equations: their identity instances, and the extensions of these
pub record RuleLaws (d : Declarations) (equations : Equations) : Type 0 where
  -- a well-sorted instance of a rule is a step
  pub steps : (l r : FlatTerm) → IsRuleOf d equations l r → (s : Substitution) → IsWellSorted d s →
      Rewrites d equations (apply s (plain l)) (apply s (plain r))
  -- the right side of a rule brings no variable, where those of the equations bring none
  pub variables : BringsNoVariable equations → (l r : FlatTerm) → IsRuleOf d equations l r → (x : Var) → Occurs x (plain r) → Occurs x (plain l)
  -- both sides of a rule have one kind
  pub kinds : (l r : FlatTerm) → IsRuleOf d equations l r → HasOneKind d (plain l, plain r)

-- in a good signature with all that its queries need, for equations whose sides have one kind each
abbrev pub RulesAreLawful : Type 0
RulesAreLawful = (d : Declarations) → IsGood d → IsCompleted d → (equations : Equations) → HaveOneKind d equations → RuleLaws d equations
