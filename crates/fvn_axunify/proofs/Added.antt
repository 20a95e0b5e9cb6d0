-- A list of unifiers with one more.
use Rattle.std.proofs.Common.{◌≡◌, ℕ, List, [], length, sym, ap, ◌∙◌, subst}
use Rattle.std.specs.Prelude.{All, Contains}
use Rattle.std.proofs.lemmas.List.Elements.{All-weaker, All-contains_itself}
use Rattle.fvn_terms.specs.declared.plain.Var.{Var}
use Rattle.fvn_terms.specs.declared.declarations.Declarations.{Declarations}
use Rattle.fvn_terms.specs.Signature.{IsSort}
use Rattle.fvn_terms.specs.Substitution.{Substitution}
use Rattle.fvn_terms.specs.Unifiers.{IsInstance}
use Rattle.fvn_terms.proofs.Instances.{IsInstance-trans}
use Rattle.fvn_forms.specs.Flat.{FlatTerm}
use Rattle.fvn_flat.specs.Bindings.{Bindings, BindsOnce}
use Rattle.fvn_flat.specs.Fits.{AllFit}
use Rattle.fvn_flat.specs.Solving.{substitution, problem_of}
use Rattle.fvn_flat.specs.declared.solver.Pairs.{Pairs}
use Rattle.fvn_cover.specs.Covering.{CoversVariant, AreAlike, IsFlatVariant}
use Rattle.fvn_cover.specs.Pruning.{IsCoveredBySome}
use Rattle.fvn_cover.specs.Adding.{IsAdded}
use Rattle.fvn_cover.specs.Laws.{CoveringIsAPreorder, CoveringOfUnifiersIsInstance}
use Rattle.fvn_cover.specs.declared.variant.Variant.{Variant}
use Rattle.fvn_cover.proofs.Leftovers.{any_contains, any_of}
use Rattle.fvn_cover.proofs.Additions.{added_all, added_length, added_apart, added_new, added_still}
use Rattle.fvn_axunify.specs.inner.Asked.{IsAsked}
use Rattle.fvn_axunify.specs.inner.Members.{IsMember, IsKept, AreKept, IsReached, IsWith}
use Rattle.fvn_axunify.proofs.Sorted.{variable_sorts}

module _ (d : Declarations) (given : Pairs) (vars : List Var) (first : ℕ) (asked : IsAsked d given vars first) where
  vars_sorted : All (λ x. IsSort d x.sort) vars
  vars_sorted = All-weaker (Contains vars) (λ x. IsSort d x.sort) (λ x c. variable_sorts d (problem_of given) asked.is_given.kinds x ((asked.variables x).0 c)) vars (All-contains_itself vars)

  -- a unifier as a variant
  pub unifier_kept : (ts : List FlatTerm) (us : List Var) (s : Bindings) → ts ≡ [] → us ≡ vars → BindsOnce s → IsMember d given first s → IsKept d given vars first (record { terms = ts; subst = s; vars = us })
  unifier_kept ts us s none same once member = record { vars_are = same; no_terms = none; once = once; member = member }

  -- it is flat
  pub flat_variant : (v : Variant) → IsKept d given vars first v → IsFlatVariant d v
  flat_variant v k = record {
    terms = subst (AllFit d) (sym k.no_terms) tt;
    values = k.member.fit;
    vars = subst (All (λ x. IsSort d x.sort)) (sym k.vars_are) vars_sorted;
  }

  pub all_flat : (list : List Variant) → AreKept d given vars first list → All (IsFlatVariant d) list
  all_flat list h = All-weaker (IsKept d given vars first) (IsFlatVariant d) flat_variant list h.members

  kept_alike : (v k : Variant) → IsKept d given vars first v → IsKept d given vars first k → AreAlike k v
  kept_alike v k i j = record { vars = j.vars_are ∙ sym i.vars_are; terms = ap length j.no_terms ∙ ap length (sym i.no_terms) }

  -- all are alike
  pub all_alike : (v : Variant) → IsKept d given vars first v → (list : List Variant) → AreKept d given vars first list → All (λ k. AreAlike k v) list
  all_alike v i list h = All-weaker (IsKept d given vars first) (λ k. AreAlike k v) (λ k j. kept_alike v k i j) list h.members

  module _ (order : CoveringIsAPreorder d) (law : CoveringOfUnifiersIsInstance) (kept : List Variant) (are : AreKept d given vars first kept) (v : Variant) (is : IsKept d given vars first v) (after : List Variant) (added : IsAdded d kept v after) where
    after_members : All (IsKept d given vars first) after
    after_members = added_all d (IsKept d given vars first) kept v after added are.members is

    -- what is covered is an instance
    reached_by : (g : Variant) → IsKept d given vars first g → IsCoveredBySome d after g → (u : Substitution) → IsInstance d vars u (substitution g.subst) → IsReached d given vars after u
    reached_by g i some u h =
        let k = any_contains (λ k. CoversVariant d k g) after some in
        let j : IsKept d given vars first k.0 = kept_of k.0 k.1.0 in
        let near : IsInstance d k.0.vars (substitution g.subst) (substitution k.0.subst) = (law d k.0 g j.no_terms i.no_terms).0 k.1.1 in
        any_of (λ v. IsInstance d vars u (substitution v.subst)) after k.0 k.1.0
        (IsInstance-trans d vars u (substitution g.subst) (substitution k.0.subst) h (subst (λ l. IsInstance d l (substitution g.subst) (substitution k.0.subst)) j.vars_are near))
      where
        kept_of : (k : Variant) → Contains after k → IsKept d given vars first k
        kept_of k c = subst (IsKept d given vars first) c.2 (after_members c.0 k c.1)

    pub with_one : IsWith d given vars first kept v.subst after
    with_one = record {
      are = record { members = after_members; apart = added_apart d kept v after added are.apart };
      grows = λ u r.
          let k = any_contains (λ v. IsInstance d vars u (substitution v.subst)) kept r in
          reached_by k.0 (kept_in k.0 k.1.0) (added_still d order kept v alike after added k.0 (any_of (λ z. CoversVariant d z k.0) kept k.0 k.1.0 (order.reflexive k.0))) u k.1.1;
      reached = λ u h. reached_by v is (added_new d order kept v after added) u h;
      more = added_length d kept v after added;
    }
      where
        kept_in : (k : Variant) → Contains kept k → IsKept d given vars first k
        kept_in k c = subst (IsKept d given vars first) c.2 (are.members c.0 k c.1)

        alike : All (AreAlike v) kept
        alike = All-weaker (IsKept d given vars first) (AreAlike v) (λ k j. kept_alike k v j is) kept are.members
