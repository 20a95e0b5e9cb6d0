-- Matchers of the left side of a rule.
use Rattle.std.proofs.Common.{◌≡◌, Bool, true, false, List, [], ◌∷◌, map, Option, Some, None, refl, sym, ◌∙◌, subst}
use Rattle.std.specs.Prelude.{◌↔◌, is_some, IfSome, IsTrue}
use Rattle.fvn_terms.specs.declared.declarations.Declarations.{Declarations}
use Rattle.fvn_terms.specs.Substitution.{Substitution}
use Rattle.fvn_forms.specs.Flat.{FlatTerm, plain}
use Rattle.fvn_flat.specs.Fits.{Fits, AllFit}
use Rattle.fvn_flat.specs.Bindings.{Bindings}
use Rattle.fvn_flat.specs.Solving.{substitution}
use Rattle.fvn_match.specs.Matching.{IsMatcher, HasNoMatcher, Matches}
use Rattle.fvn_rewrite_rules.specs.declared.rule.Rule.{Rule}
use Rattle.fvn_rewrite_rules.specs.Given.{HasInstance}
use Rattle.fvn_rewrite_rules.specs.inner.Making.{IsKindedRule}

module _ (d : Declarations) where
  -- the left side of a rule, alone
  abbrev left_alone : Rule → List FlatTerm
  left_alone rule = rule.left ∷ []

  pub rule_fits : (rule : Rule) → IsKindedRule d rule → Fits d rule.left
  rule_fits rule h = record { flat = h.left; kinded = (h.kinds.kind, h.kinds.left) }

  pub left_fits : (rule : Rule) → IsKindedRule d rule → (ts : List FlatTerm) → ts ≡ rule.left ∷ [] → AllFit d ts
  left_fits rule h ts e = rw e (rule_fits rule h, tt)

  module _ (rule other : Rule) where
    -- a matcher makes an instance
    from_matcher : (s : Substitution) → IsMatcher d (map plain (left_alone rule)) (map plain (left_alone other)) s → HasInstance d rule other.left
    from_matcher s m = record { by = s; well_sorted = m.0; left = m.1.0 }

    -- without one there is no instance
    no_instance : HasNoMatcher d (left_alone rule) (left_alone other) → HasInstance d rule other.left → ⊥
    no_instance nothing h = nothing h.by (h.well_sorted, (h.left, tt))

    -- nor where heads tell so
    pub refused : HasNoMatcher d (left_alone rule) (left_alone other) → IsTrue false ↔ HasInstance d rule other.left
    refused nothing = (λ t. (let q : true ≡ false = sym t in cc), λ h. absurd (no_instance nothing h))

    -- what is found tells whether there is one
    pub told : (ps ts : List FlatTerm) → ps ≡ rule.left ∷ [] → ts ≡ other.left ∷ [] → (o : Option Bindings) (b : Bool) → b ≡ is_some o →
        IfSome o (Matches d ps ts) → (o ≡ None → HasNoMatcher d ps ts) → IsTrue b ↔ HasInstance d rule other.left
    told ps ts e f None b is some nothing =
        (λ t. (let q : true ≡ false = sym t ∙ is in cc), λ h. absurd (no_instance (subst (λ l. HasNoMatcher d l (left_alone other)) e (subst (HasNoMatcher d ps) f (nothing refl))) h))
    told ps ts e f (Some s) b is some nothing =
        (λ t. from_matcher (substitution s) (subst (λ l. Matches d l (left_alone other) s) e (subst (λ l. Matches d ps l s) f some)), λ h. is)
