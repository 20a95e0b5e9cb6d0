-- Matchers: substitutions under which patterns are equal to their targets, modulo the axioms.
-- J.-M. Hullot, Associative commutative pattern matching, 1979.
use denote.Ref.{Bor}
use Rattle.std.specs.Prelude.{◌≡◌, ◌↔◌, List, ◌++◌, map, Option, Some, None, IfSome, Result, IfOk}
use Rattle.std.specs.List.{AllZip}
use Rattle.fvn_terms.specs.declared.plain.Var.{Var}
use Rattle.fvn_terms.specs.declared.declarations.Declarations.{Declarations}
use Rattle.fvn_terms.specs.Term.{Term}
use Rattle.fvn_terms.specs.Substitution.{Substitution, apply}
use Rattle.fvn_terms.specs.Equality.{BEqual}
use Rattle.fvn_terms.specs.Sorts.{IsWellSorted}
use Rattle.fvn_terms.specs.Variants.{OccursInSome}
use Rattle.fvn_forms.specs.Flat.{FlatTerm, plain}
use Rattle.fvn_flat.specs.Bindings.{Bindings, bound}
use Rattle.fvn_flat.specs.Solving.{substitution}

-- s is well-sorted, and each pattern under s is equal to its target modulo the axioms;
-- s is not applied to the targets, whose variables stand as constants
abbrev pub IsMatcher : Declarations → List Term → List Term → Substitution → Type 0
IsMatcher d patterns targets s = IsWellSorted d s × AllZip (λ p t. BEqual d (apply s p) t) patterns targets

-- what is said of lists of flat forms
module _ (d : Declarations) (patterns targets : List FlatTerm) where
  -- no substitution at all matches the patterns with the targets
  abbrev pub HasNoMatcher : Type 0
  HasNoMatcher = (s : Substitution) → IsMatcher d (map plain patterns) (map plain targets) s → ⊥

  -- the pairs stand for a matcher
  abbrev pub Matches : Bindings → Type 0
  Matches s = IsMatcher d (map plain patterns) (map plain targets) (substitution s)

-- just the variables of the patterns are bound
abbrev pub BindsJust : List FlatTerm → Bindings → Type 0
BindsJust patterns s = (x : Var) → OccursInSome x (map plain patterns) ↔ ((t : FlatTerm) × (bound s x ≡ Some t))

-- the forms of two slices, one after the other
abbrev pub joined : Bor (List FlatTerm) × Bor (List FlatTerm) → List FlatTerm
joined slices = slices.0.now ++ slices.1.now

-- this holds of what was found, if something was
abbrev pub IfFound : {E : Type 0} → Result (Option Bindings) E → (Bindings → Type 0) → Type 0
IfFound result P = IfOk result (λ found. IfSome found P)

-- this holds if nothing was found
abbrev pub IfNothing : {E : Type 0} → Result (Option Bindings) E → Type 0 → Type 0
IfNothing result P = IfOk result (λ found. found ≡ None → P)
