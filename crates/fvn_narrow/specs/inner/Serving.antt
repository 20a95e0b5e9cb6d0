-- Rules that serve at a form in place of others.
use Rattle.std.specs.Prelude.{◌≡◌, ◌⊎◌, List, [], ◌∷◌, All, Contains, None, Some}
use Rattle.fvn_terms.specs.declared.plain.Var.{Var}
use Rattle.fvn_terms.specs.declared.plain.OpId.{OpId}
use Rattle.fvn_terms.specs.declared.plain.SortId.{SortId}
use Rattle.fvn_terms.specs.declared.declarations.Declarations.{Declarations}
use Rattle.fvn_terms.specs.Signature.{axioms, AtOrBelow}
use Rattle.fvn_terms.specs.Substitution.{Occurs}
use Rattle.fvn_terms.specs.Equality.{IsAssociative, identity}
use Rattle.fvn_forms.specs.Flat.{FlatTerm, fvar, plain}
use Rattle.fvn_forms.specs.Ranks.{result}
use Rattle.fvn_forms.specs.LeastSort.{least_sort}
use Rattle.fvn_flat.specs.Forms.{head_of, args_of}
use Rattle.fvn_rewrite_rules.specs.declared.rule.Rule.{Rule}
use Rattle.fvn_lifting.specs.Pairs.{SummandsKeep}

-- these stand behind two forms
abbrev pub AreBehindTwo : List FlatTerm → List FlatTerm → Type 0
AreBehindTwo last ts = (one : FlatTerm) × (rest : FlatTerm) × (ts ≡ one ∷ rest ∷ last)

-- the variable stands in none of the forms
abbrev pub StandsInNone : Var → List FlatTerm → Type 0
StandsInNone x = All (λ t. Occurs x (plain t) → ⊥)

-- The first form has the variable and other arguments, in none of which it stands; the second has two arguments in the
-- variable's place.
pub record HasTwoFor (left other : FlatTerm) (x : Var) : Type 0 where
  pub last : FlatTerm
  pub more : List FlatTerm
  pub one : FlatTerm
  pub rest : FlatTerm
  pub has_one : args_of left ≡ fvar x ∷ last ∷ more
  pub has_two : args_of other ≡ one ∷ rest ∷ last ∷ more
  pub outside : StandsInNone x (last ∷ more)

module _ (d : Declarations) where
  -- f has no identity, or one of the sort
  abbrev pub HasLowIdentity : OpId → SortId → Type 0
  HasLowIdentity f s =
      (identity (axioms d f) ≡ None)
      ⊎ ((e : OpId) × (identity (axioms d f) ≡ Some e) × AtOrBelow d (result d e []) s)

  -- the form has the sort, which the summands of f keep, and which the identity of f has; f is associative
  pub record HasKeptSort (f : OpId) (s : SortId) (at : FlatTerm) : Type 0 where
    pub associative : IsAssociative (axioms d f)
    pub neutral : HasLowIdentity f s
    pub keep : SummandsKeep d f s
    pub low : AtOrBelow d (least_sort d at) s

  -- Each instance of the form that meets the second left side meets the first one too: the variable takes what the two
  -- arguments take.
  pub record ServesAt (at left other : FlatTerm) : Type 0 where
    pub operator : OpId
    pub variable : Var
    pub heads : head_of left ≡ Some operator
    pub other_heads : head_of other ≡ Some operator
    pub parts : HasTwoFor left other variable
    pub sort : HasKeptSort operator variable.sort at

  -- one of the rules serves at the form in place of this one
  abbrev pub SomeServes : FlatTerm → List Rule → Rule → Type 0
  SomeServes at rules rule = (other : Rule) × Contains rules other × ServesAt at other.left rule.left
