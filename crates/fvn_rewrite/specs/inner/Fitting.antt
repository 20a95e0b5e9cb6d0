-- Which terms a pattern has as instances by symbols alone, and what its variables are bound to.
use Rattle.std.specs.Prelude.{◌≡◌, false, if◌then◌else◌, List, [], ◌∷◌, Option, Some, None, Contains}
use Rattle.std.specs.List.{AllByRecursion}
use Rattle.fvn_terms.specs.declared.plain.Var.{Var}
use Rattle.fvn_terms.specs.declared.plain.OpId.{OpId}
use Rattle.fvn_terms.specs.declared.declarations.Axioms.TheVariants.{Free}
use Rattle.fvn_terms.specs.declared.declarations.Declarations.{Declarations}
use Rattle.fvn_terms.specs.Signature.{axioms, AtOrBelow}
use Rattle.fvn_terms.specs.Substitution.{Substitution, same_var}
use Rattle.fvn_forms.specs.Flat.{FlatTerm, FlatTerms, fvar, fapp, fnone, fmore, fpack}
use Rattle.fvn_flat.specs.Forms.{head_of}
use Rattle.fvn_rewrite_rules.specs.declared.rule.Rule.{Rule}
use Rattle.fvn_rewrite.specs.declared.fitting.Found.{Found}
use Rattle.fvn_rewrite.specs.inner.SortedTerms.{SortedTerm, svar, sort_of, operator_of, parts_of, term_of, IsValue}

-- variables with the terms that they are bound to
abbrev pub SortedBindings : Type 0
SortedBindings = List (Var × SortedTerm)

-- what the first pair for x gives it
abbrev pub sorted_bound : SortedBindings → Var → Option SortedTerm
sorted_bound [] x = None
sorted_bound (p ∷ b) x = if same_var p.0 x then Some p.1 else sorted_bound b x

-- the term that was found for x, else x itself
abbrev pub sorted_or : Var → Option SortedTerm → SortedTerm
sorted_or x None = svar x
sorted_or x (Some t) = t

-- the substitution that the pairs stand for: a variable without a pair stays
abbrev pub standing_for : SortedBindings → Substitution
standing_for b x = term_of (sorted_or x (sorted_bound b x))

module _ (b : SortedBindings) where
  abbrev mutual
    -- the pattern with its variables bound is the term, but for the sorts
    pub IsInstance : FlatTerm → SortedTerm → Type 0
    IsInstance (fvar x) v = sorted_bound b x ≡ Some v
    IsInstance (fapp f joined ps) v = (joined ≡ false) × ((operator_of v ≡ Some f) × AreInstances ps (parts_of v))

    -- the same of lists
    pub AreInstances : FlatTerms → List SortedTerm → Type 0
    AreInstances fnone [] = Unit {0}
    AreInstances fnone (v ∷ vs) = ⊥
    AreInstances (fmore p ps) [] = ⊥
    AreInstances (fmore p ps) (v ∷ vs) = IsInstance p v × AreInstances ps vs

-- what one list of pairs binds the other binds too
abbrev pub Keeps : SortedBindings → SortedBindings → Type 0
Keeps b c = (x : Var) (v : SortedTerm) → sorted_bound b x ≡ Some v → sorted_bound c x ≡ Some v

module _ (d : Declarations) where
  -- the operator heads the form, and has no axioms
  pub record IsFreeHead (t : FlatTerm) (f : OpId) : Type 0 where
    pub heads : head_of t ≡ Some f
    pub free : axioms d f ≡ Free

  -- the variable is bound to a value of its sort
  pub record IsBinding (p : Var × SortedTerm) : Type 0 where
    pub value : IsValue d p.1
    pub below : AtOrBelow d (sort_of p.1) p.0.sort

  -- so is each
  abbrev pub AreBindings : SortedBindings → Type 0
  AreBindings = AllByRecursion IsBinding

  -- each term is a value
  abbrev pub AreValues : List SortedTerm → Type 0
  AreValues = AllByRecursion (IsValue d)

  -- more is bound, and the pattern has the term as an instance
  pub record IsFitted (p : FlatTerm) (v : SortedTerm) (b c : SortedBindings) : Type 0 where
    pub keeps : Keeps b c
    pub bindings : AreBindings c
    pub fits : IsInstance c p v

  -- the same of lists
  pub record AreFitted (ps : List FlatTerm) (vs : List SortedTerm) (b c : SortedBindings) : Type 0 where
    pub keeps : Keeps b c
    pub bindings : AreBindings c
    pub fit : AreInstances c (fpack ps) vs

  -- the right side of a rule whose left side has the term as an instance
  pub record IsFound (rules : List Rule) (v : SortedTerm) (found : Found) : Type 0 where
    pub rule : Rule
    pub listed : Contains rules rule
    pub right : found.right.now ≡ rule.right
    pub bindings : AreBindings found.bound.items
    pub left : IsInstance found.bound.items rule.left v
