-- Without equations no step leads on.
use Rattle.std.proofs.Common.{◌≡◌, ℕ, ◌≤◌, ◌<◌, zero-le, List, [], ◌∷◌, sym, subst, inl, inr}
use Rattle.fvn_base.proofs.Membership.{contains_none}
use Rattle.fvn_terms.specs.declared.declarations.Declarations.{Declarations}
use Rattle.fvn_terms.specs.Term.{Term, var}
use Rattle.fvn_terms.specs.Places.{stop}
use Rattle.fvn_terms.specs.Theory.{Equations, IsRule}
use Rattle.fvn_terms.specs.Rewriting.{Rewrites, ListRewrites}
use Rattle.fvn_terms.proofs.Steps.{nowhere}
use Rattle.fvn_forms.specs.Flat.{FlatTerm, plain}
use Rattle.fvn_theory.specs.declared.bounds.Bounds.{Bounds}
use Rattle.fvn_flat.specs.Fits.{Fits}
use Rattle.fvn_rewrite_laws.specs.Lawful.{AreLawful}
use Rattle.fvn_rewrite_laws.specs.Normalised.{counted, IsReachedWithin, IsForm, IsTooLarge}

-- no equations
abbrev nothing : Equations
nothing = []

module _ (d : Declarations) where
  no_rule : (t u : Term) → IsRule d nothing t u → ⊥
  no_rule t u r = contains_none (r.left, r.right) r.listed

  pub no_step : (t u : Term) → Rewrites d nothing t u → ⊥
  no_step t u s = nowhere no_rule s.replaced

  pub no_list_step : (ts us : List Term) → ListRewrites d nothing ts us → ⊥
  no_list_step [] us l = l
  no_list_step (t ∷ ts) [] l = l
  no_list_step (t ∷ ts) (u ∷ us) (inl l) = no_step t u l.0
  no_list_step (t ∷ ts) (u ∷ us) (inr l) = no_list_step ts us l.1

  pub lawful : AreLawful d nothing
  lawful = record {
    one_kind = λ e c. absurd (contains_none e c);
    brings_none = λ left right c x o. absurd (contains_none (left, right) c);
    variables = λ x i u. no_step (var x) u;
    decided = λ t i. inr (no_step t);
  }

  -- a form is reached from itself alone
  module _ (bounds : Bounds) (t u : FlatTerm) (fits : Fits d t) (is : u ≡ t) (n : ℕ) (counts : n ≡ counted u) where
    reached_itself : IsReachedWithin d nothing t bounds u
    reached_itself = subst (IsReachedWithin d nothing t bounds) (sym is) record { count = 0; within = zero-le; reached = record { sequence = stop; fits = fits } }

    -- it is its own normal form where it is not too large
    pub is_form : n ≤ bounds.size → IsForm d nothing t bounds u
    is_form h = record { reached = reached_itself; irreducible = no_step (plain u); small = subst (λ m. m ≤ bounds.size) counts h }

    pub is_too_large : bounds.size < n → IsTooLarge d nothing t bounds u
    is_too_large h = record { reached = reached_itself; large = subst (λ m. bounds.size < m) counts h }
