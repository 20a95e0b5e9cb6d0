-- What is found is a unifier in the theory, with irreducible values.
use Rattle.std.proofs.Common.{◌≡◌, Bool, true, false, List, map, refl, sym, ap, ◌∙◌, subst}
use Rattle.std.specs.List.{Contains}
use Rattle.std.proofs.lemmas.List.Elements.{All-weaker, All-contains_itself}
use Rattle.fvn_terms.specs.declared.plain.Var.{Var}
use Rattle.fvn_terms.specs.Term.{Term}
use Rattle.fvn_terms.specs.Substitution.{Substitution, apply}
use Rattle.fvn_terms.specs.Equality.{BEqual}
use Rattle.fvn_terms.specs.Sorts.{HasSort, IsWellSorted}
use Rattle.fvn_terms.specs.Rewriting.{IsIrreducible}
use Rattle.fvn_terms.proofs.Equal.{BEqual-trans}
use Rattle.fvn_terms.proofs.WellSorted.{HasSort-apply}
use Rattle.fvn_forms.specs.Flat.{plain}
use Rattle.fvn_flat.specs.Bindings.{BindingsFit}
use Rattle.fvn_flat.specs.Problems.{variables_of, plain_pairs}
use Rattle.fvn_flat.specs.Solving.{FlatPairs, substitution}
use Rattle.fvn_flat.specs.Variables.{listed}
use Rattle.fvn_rewrite_laws.proofs.Listing.{var_listed, listed_var}
use Rattle.fvn_cover.specs.declared.variant.Variant.{Variant}
use Rattle.fvn_exploring.specs.Setting.{Setting}
use Rattle.fvn_exploring.specs.Explorations.{IsFound}
use Rattle.std.proofs.lemmas.Bool.{true≢false}
use Rattle.fvn_vunify.specs.Sides.{sides_in_turn}
use Rattle.fvn_vunify.specs.Solutions.{IsIrreducibleUnifier}
use Rattle.fvn_vunify.specs.Solved.{HasSmallValues}
use Rattle.fvn_vunify.specs.inner.Attempts.{IsCandidate}
use Rattle.fvn_vunify.proofs.Known.{AreKnown}
use Rattle.fvn_vunify.proofs.IrreducibleValues.{variables_sorted}
use Rattle.fvn_vunify.proofs.TwoByTwo.{plain_sides, side_has_variable, unifies_in_theory}

module _ (g : Setting) (known : AreKnown g.declarations g.equations) (pairs : FlatPairs) (vars : List Var)
    (from_problem : (x : Var) → Contains (variables_of (plain_pairs pairs)) x → Contains vars x)
    (v u : Variant) (found : IsFound g (sides_in_turn pairs) v) (c : IsCandidate g vars v u) where
  abbrev before : Substitution
  before = substitution v.subst

  equal_sort : (t t' : Term) (x : Var) → BEqual g.declarations t t' → HasSort g.declarations t' x.sort → HasSort g.declarations t x.sort
  equal_sort t t' x e h = record { form = h.form; equal = BEqual-trans g.declarations e h.equal; gets = h.gets }

  -- each value has the sort of its variable
  value_sort : (x : Var) (b : Bool) → listed vars x ≡ b → HasSort g.declarations (substitution c.by x) x.sort
  value_sort x true e =
      equal_sort (substitution c.by x) (apply c.unifier (before x)) x (c.same x (var_listed vars x e))
      (HasSort-apply g.declarations c.unifier c.unifies.0 (before x) x.sort (found.variant.well_sorted.1 x))
  value_sort x false e =
      subst (λ t. HasSort g.declarations t x.sort) (sym (c.others x (λ m. true≢false (sym (listed_var vars x m) ∙ e)))) ((variables_sorted g.declarations).1 x)

  candidate_sorted : IsWellSorted g.declarations (substitution c.by)
  candidate_sorted = (c.fits.keeps_kinds, λ x. value_sort x (listed vars x) refl)

  abbrev Stays : Term → Type 0
  Stays t = IsIrreducible g.declarations g.equations (apply (substitution c.by) t)

  irreducible_unifier : IsIrreducibleUnifier g (plain_pairs pairs) (substitution c.by)
  irreducible_unifier = record {
    kept = record {
      unifier = (
        candidate_sorted,
        unifies_in_theory g.declarations g.equations known.theory before c.unifier (substitution c.by) c.unifies.0 pairs v.terms
            (known.rewriting.variants g.fixed (plain_sides pairs) (map plain v.terms) before found.variant) c.unifies.1
            (λ x o. c.same x (from_problem x (side_has_variable pairs x o))),
      );
      stay = All-weaker (Contains g.fixed) Stays c.stay g.fixed (All-contains_itself g.fixed);
    };
    values = λ x m. (c.passed x (from_problem x m)).irreducible;
  }

  is_by : c.by ≡ u.subst
  is_by = ap (λ (w : Variant). w.subst) (sym c.is)

  pub candidate_unifies : IsIrreducibleUnifier g (plain_pairs pairs) (substitution u.subst)
  candidate_unifies = subst (λ s. IsIrreducibleUnifier g (plain_pairs pairs) (substitution s)) is_by irreducible_unifier

  pub candidate_fits : BindingsFit g.declarations u.subst
  candidate_fits = subst (BindingsFit g.declarations) is_by c.fits

  pub candidate_small : HasSmallValues g (plain_pairs pairs) u.subst
  candidate_small = subst (HasSmallValues g (plain_pairs pairs)) is_by (λ x m. (c.passed x (from_problem x m)).small)
