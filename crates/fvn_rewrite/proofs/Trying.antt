-- What matching finds, for one rule.
use Rattle.std.proofs.Common.{◌≡◌, List, [], ◌∷◌, Option, Some, None, refl, subst}
use Rattle.std.specs.Prelude.{IfSome}
use Rattle.fvn_terms.specs.declared.declarations.Declarations.{Declarations}
use Rattle.fvn_forms.specs.Flat.{FlatTerm}
use Rattle.fvn_flat.specs.Bindings.{Bindings, BindingsFit}
use Rattle.fvn_match.specs.Matching.{HasNoMatcher, Matches}
use Rattle.fvn_rewrite_rules.specs.declared.rule.Rule.{Rule}
use Rattle.fvn_rewrite.specs.inner.Trying.{MatchAs}

-- the lists have the left side and the form alone
pub match_as : (d : Declarations) (rule : Rule) (t : FlatTerm) (ps ts : List FlatTerm) → ps ≡ rule.left ∷ [] → ts ≡ t ∷ [] → (found : Option Bindings) →
    IfSome found (Matches d ps ts) → IfSome found (BindingsFit d) → (found ≡ None → HasNoMatcher d ps ts) → MatchAs d t rule found
match_as d rule t ps ts p q None some fit nothing = subst (λ l. HasNoMatcher d l (t ∷ [])) p (subst (HasNoMatcher d ps) q (nothing refl))
match_as d rule t ps ts p q (Some s) some fit nothing = record { matches = subst (λ l. Matches d l (t ∷ []) s) p (subst (λ l. Matches d ps l s) q some); fit = fit }
