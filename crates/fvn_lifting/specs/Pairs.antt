-- Sums of which two summands are enough: where an instance of a sum meets the left side of some rules, already the
-- instance of one summand, or of two, is reducible.
use Rattle.std.specs.Prelude.{◌≡◌, ◌≢◌, ◌⊎◌, List, [], ◌∷◌, length, Contains, Some, None}
use Rattle.fvn_terms.specs.declared.plain.Var.{Var}
use Rattle.fvn_terms.specs.declared.plain.OpId.{OpId}
use Rattle.fvn_terms.specs.declared.plain.SortId.{SortId}
use Rattle.fvn_terms.specs.declared.declarations.Declarations.{Declarations}
use Rattle.fvn_terms.specs.Signature.{axioms, AtOrBelow}
use Rattle.fvn_terms.specs.Substitution.{Substitution, apply, Occurs}
use Rattle.fvn_terms.specs.Equality.{IsAssociative, identity}
use Rattle.fvn_terms.specs.Theory.{Equations}
use Rattle.fvn_terms.specs.Rewriting.{IsReducible}
use Rattle.fvn_forms.specs.Flat.{FlatTerm, fvar, funpack, plain}
use Rattle.fvn_forms.specs.Canon.{build, inst}
use Rattle.fvn_forms.specs.Ranks.{result}
use Rattle.fvn_forms.specs.Good.{IsOfKind}
use Rattle.fvn_theory.specs.Equations.{equations_of}
use Rattle.fvn_flat.specs.Bindings.{value}
use Rattle.fvn_flat.specs.Fits.{Fits}
use Rattle.fvn_flat.specs.Forms.{head_of, args_of}
use Rattle.fvn_flat.specs.FlatPlaces.{IsDivided, IsPartOfSum}
use Rattle.fvn_cover.specs.declared.variant.Variant.{Variant}
use Rattle.fvn_flat.specs.Successors.{Narrowed}
use Rattle.fvn_rewrite_rules.specs.declared.rule.Rule.{Rule}
use Rattle.fvn_rewrite_rules.specs.Given.{RuleLists, headed}
use Rattle.fvn_exploring.specs.Setting.{Setting}
use Rattle.fvn_lifting.specs.Lifted.{LiftsAt}

-- the pair is f's sum of two of the summands of the whole
pub record IsPairOf (f : OpId) (whole pair : FlatTerm) : Type 0 where
  pub others : List FlatTerm
  pub part : IsPartOfSum f others whole pair
  pub are_two : length (funpack part.taken) ≡ 2

module _ (d : Declarations) where
  -- another operator than f heads the form, one without an identity, so that each instance is one summand under f
  pub record IsOneSummand (f : OpId) (t : FlatTerm) : Type 0 where
    pub operator : OpId
    pub heads : head_of t ≡ Some operator
    pub is_other : operator ≢ f
    pub no_identity : identity (axioms d operator) ≡ None

  -- each sum of f that has the sort, or one below it, has only summands of the sort
  abbrev pub SummandsKeep : OpId → SortId → Type 0
  SummandsKeep f s =
      (a b : SortId) → IsOfKind d f a → IsOfKind d f b → AtOrBelow d (result d f (a ∷ b ∷ [])) s →
      AtOrBelow d a s × AtOrBelow d b s

  -- The form is a variable that does not stand within the other form, and the summands of its sort keep this: each
  -- summand of its value may stand for it.
  pub record MayBeAnySummand (f : OpId) (t other : FlatTerm) : Type 0 where
    pub variable : Var
    pub is : t ≡ fvar variable
    pub keep : SummandsKeep f variable.sort
    pub outside : (head_of other ≡ None) ⊎ (Occurs variable (plain other) → ⊥)

  -- one summand of the form's instance is enough
  abbrev pub MeetsOne : OpId → FlatTerm → FlatTerm → Type 0
  MeetsOne f t other = IsOneSummand f t ⊎ MayBeAnySummand f t other

  -- The form is a sum of two, by f without an identity, and two summands of its instance, one from each, make another
  -- instance.
  pub record IsMetByTwo (f : OpId) (t : FlatTerm) : Type 0 where
    pub first : FlatTerm
    pub second : FlatTerm
    pub heads : head_of t ≡ Some f
    pub are_two : args_of t ≡ first ∷ second ∷ []
    pub associative : IsAssociative (axioms d f)
    pub no_identity : identity (axioms d f) ≡ None
    pub by_first : MeetsOne f first second
    pub by_second : MeetsOne f second first

  -- the sum of the form, with the sum of two variables in place of x, and of the first of them
  abbrev pub parted_sum : OpId → FlatTerm → Var → Var → Var → FlatTerm
  parted_sum f form x one rest =
      build d f (inst d (value ((x, build d f (fvar one ∷ fvar rest ∷ [])) ∷ [])) form ∷ fvar one ∷ [])

  -- With the sum of two new variables in the place of x, the sum of the form and of the first of them is reducible.
  pub record IsParted (equations : Equations) (f : OpId) (form : FlatTerm) (x : Var) : Type 0 where
    pub one : Var
    pub rest : Var
    pub one_sort : one.sort ≡ x.sort
    pub rest_sort : rest.sort ≡ x.sort
    pub differ : one ≢ rest
    pub one_new : Occurs one (plain form) → ⊥
    pub rest_new : Occurs rest (plain form) → ⊥
    pub reducible : IsReducible d equations (plain (parted_sum f form x one rest))

  -- The form is a sum of a variable and of a form that another operator heads, by f without an identity: where the
  -- variable's value is a sum, one summand of it is enough.
  pub record IsMetBySome (equations : Equations) (f : OpId) (t : FlatTerm) : Type 0 where
    pub variable : Var
    pub form : FlatTerm
    pub heads : head_of t ≡ Some f
    pub are_two : args_of t ≡ fvar variable ∷ form ∷ []
    pub associative : IsAssociative (axioms d f)
    pub no_identity : identity (axioms d f) ≡ None
    pub keep : SummandsKeep f variable.sort
    pub alone : IsOneSummand f form
    pub parted : IsParted equations f form variable

  -- two summands of an instance of the form are enough
  abbrev pub IsMet : Equations → OpId → FlatTerm → Type 0
  IsMet equations f t = IsMetByTwo f t ⊎ IsMetBySome equations f t

  -- Among the summands of the rule's left side are those of a needed rule's left side for which two are enough; this may
  -- be its own.
  pub record IsMetInPairs (lists : RuleLists) (rule : Rule) : Type 0 where
    pub operator : OpId
    pub heads : head_of rule.left ≡ Some operator
    pub inner : Rule
    pub needed : Contains (headed lists operator) inner
    pub met : IsMet (equations_of lists.equations) operator inner.left
    pub others : List FlatTerm
    pub among : IsDivided (args_of rule.left) (args_of inner.left) others

  -- the instance of one summand of the form, or of two of them as a sum, is reducible
  pub record IsReducibleInPart (equations : Equations) (f : OpId) (t : FlatTerm) (s : Substitution) : Type 0 where
    pub part : FlatTerm
    pub is_part : Contains (args_of t) part ⊎ IsPairOf f t part
    pub fits : Fits d part
    pub reducible : IsReducible d equations (apply s (plain part))

-- each instance of two summands of the form that meets a needed rule lifts into a child
abbrev pub PairsLiftAt : Setting → RuleLists → List Var → Narrowed → FlatTerm → List Variant → Type 0
PairsLiftAt g lists vars from at children =
    (f : OpId) → head_of at ≡ Some f → (pair : FlatTerm) → IsPairOf f at pair →
    (rule : Rule) → Contains (headed lists f) rule → LiftsAt g vars from pair rule.left children
