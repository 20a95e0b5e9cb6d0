-- The members of a level run are variants of the start.
use Rattle.std.proofs.Common.{◌≡◌, ◌⊎◌, ℕ, ◌+◌, Bool, true, false, List, [], ◌∷◌, ◌++◌, map, refl, sym, ◌∙◌, subst, inl, inr}
use Rattle.std.specs.List.{All, Contains}
use Rattle.std.proofs.lemmas.List.{append_assoc}
use Rattle.std.proofs.lemmas.List.Elements.{All-nil, All-push, All-contains, All-append}
use Rattle.fvn_terms.specs.declared.plain.Var.{Var}
use Rattle.fvn_terms.specs.Substitution.{Substitution, apply, followed_by}
use Rattle.fvn_terms.specs.Equality.{BEqual}
use Rattle.fvn_terms.specs.Sorts.{HasSort, IsWellSorted}
use Rattle.fvn_terms.specs.Unifiers.{Problem}
use Rattle.fvn_terms.specs.Rewriting.{ListSequence}
use Rattle.fvn_terms.proofs.Equal.{BEqual-trans}
use Rattle.fvn_terms.proofs.WellSorted.{HasSort-apply}
use Rattle.fvn_forms.specs.Flat.{FlatTerm, plain}
use Rattle.fvn_flat.specs.Solving.{substitution}
use Rattle.fvn_flat.specs.Variables.{listed}
use Rattle.fvn_rewrite_laws.proofs.Lists.{list_before}
use Rattle.fvn_rewrite_laws.proofs.Listing.{var_listed, listed_var}
use Rattle.fvn_rewrite_laws.proofs.Agreement.{each_equal_by_agreement}
use Rattle.fvn_cover.specs.declared.variant.Variant.{Variant}
use Rattle.fvn_exploring.specs.declared.ends.Deep.{Deep}
use Rattle.fvn_exploring.specs.Setting.{Setting}
use Rattle.fvn_exploring.specs.Children.{narrowed, IsMember, IsChild}
use Rattle.fvn_exploring.specs.LevelRuns.{AreVariablesOf, IsStart, HasParent, IsLevelRun}
use Rattle.fvn_exploring.specs.Explorations.{IsFound}
use Rattle.fvn_closure.specs.Closing.{IsExplorable}
use Rattle.fvn_closure.proofs.Known.{IsKnown}
use Rattle.fvn_closure.proofs.Renamings.{variable_of_sort}
use Rattle.fvn_closure.proofs.Following.{Follows, successor_follows, instances_followed}

-- listed or not
listed_or_not : (vars : List Var) (x : Var) → Contains vars x ⊎ (Contains vars x → ⊥)
listed_or_not vars x = go (listed vars x) refl where
  go : (b : Bool) → listed vars x ≡ b → Contains vars x ⊎ (Contains vars x → ⊥)
  go true e = inl (var_listed vars x e)
  go false e = inr (λ m. absurd (let f : true ≡ false = sym (listed_var vars x m) ∙ e in cc))

module _ (g : Setting) (start : List FlatTerm) where
  -- a member of which the variables have values of their sorts is well-sorted
  member_sorted : (v : Variant) → IsMember g v → ((x : Var) → Contains v.vars x → HasSort g.declarations (substitution v.subst x) x.sort) → IsWellSorted g.declarations (substitution v.subst)
  member_sorted v h sorts = (h.flat.values.keeps_kinds, λ x. go x (listed_or_not v.vars x)) where
    go : (x : Var) → Contains v.vars x ⊎ (Contains v.vars x → ⊥) → HasSort g.declarations (substitution v.subst x) x.sort
    go x (inl m) = sorts x m
    go x (inr n) = subst (λ t. HasSort g.declarations t x.sort) (sym (h.others x n)) (variable_of_sort g.declarations x x refl)

  -- a variant that the start is brought to
  pub found_from : (v : Variant) → AreVariablesOf start v.vars → IsMember g v → ((x : Var) → Contains v.vars x → HasSort g.declarations (substitution v.subst x) x.sort) →
      (steps : ℕ) → ListSequence g.declarations g.equations steps (map (apply (substitution v.subst)) (map plain start)) (map plain v.terms) → IsFound g start v
  found_from v vars member sorts steps sequence = record {
    vars = vars;
    variant = record {
      well_sorted = member_sorted v member sorts;
      values = λ x o. member.values x ((vars.all x).1 o);
      stay = member.stay;
      irreducible = member.terms;
      steps = steps;
      sequence = sequence;
    };
    member = member;
  }

  pub start_found : (v : Variant) → IsStart g start v → IsFound g start v
  start_found v h = found_from v h.vars h.member (λ x m. subst (λ t. HasSort g.declarations t x.sort) (sym (h.renamed x m)) (variable_of_sort g.declarations x (h.by x) (h.renames.sorts x m))) h.steps h.reached

  module _ (explorable : IsExplorable g start) (known : IsKnown g.declarations g.equations) (drawn : Problem → Substitution → Type 0) where
    -- a child follows its parent
    pub child_follows : (v c : Variant) → IsMember g v → IsChild g drawn v c → Follows g.declarations explorable.good g.equations known v.vars (narrowed v) (narrowed c)
    child_follows v c member h =
        let f = successor_follows g.declarations explorable.good g.equations known v.vars drawn (narrowed v) h.successor member.flat.terms h.drawn_from in
        record {
          by = f.by;
          well_sorted = f.well_sorted;
          steps = f.steps + h.steps;
          sequence = known.rewriting.list_joined f.steps h.steps (map (apply f.by) (map plain v.terms)) (map plain h.successor.terms) (map plain c.terms) f.sequence h.reached;
          same = λ x m. BEqual-trans g.declarations (h.same x m) (f.same x m);
        }

    pub child_found : (v c : Variant) → IsFound g start v → IsChild g drawn v c → IsFound g start c
    child_found v c found h = found_from c (subst (AreVariablesOf start) h.alike.vars found.vars) h.member sorts (found.variant.steps + f.steps) whole where
      f : Follows g.declarations explorable.good g.equations known v.vars (narrowed v) (narrowed c)
      f = child_follows v c found.member h

      same : (x : Var) → Contains v.vars x → BEqual g.declarations ((substitution c.subst) x) (apply f.by ((substitution v.subst) x))
      same = f.same

      sorts : (x : Var) → Contains c.vars x → HasSort g.declarations ((substitution c.subst) x) x.sort
      sorts x m =
          let here = subst (λ vars. Contains vars x) (sym h.alike.vars) m in
          let s = HasSort-apply g.declarations f.by f.well_sorted ((substitution v.subst) x) x.sort (found.variant.well_sorted.1 x) in
          record { form = s.form; equal = BEqual-trans g.declarations (same x here) s.equal; gets = s.gets }

      moved : ListSequence g.declarations g.equations found.variant.steps (map (apply (followed_by (substitution v.subst) f.by)) (map plain start)) (map (apply f.by) (map plain v.terms))
      moved = subst (λ ts. ListSequence g.declarations g.equations found.variant.steps ts (map (apply f.by) (map plain v.terms))) (instances_followed (substitution v.subst) f.by (map plain start))
          (known.lists.instances f.by f.well_sorted found.variant.steps (map (apply (substitution v.subst)) (map plain start)) (map plain v.terms) found.variant.sequence)

      whole : ListSequence g.declarations g.equations (found.variant.steps + f.steps) (map (apply (substitution c.subst)) (map plain start)) (map plain c.terms)
      whole =
          known.rewriting.list_joined found.variant.steps f.steps (map (apply (substitution c.subst)) (map plain start)) (map (apply f.by) (map plain v.terms)) (map plain c.terms)
          (list_before g.declarations g.equations known.rewriting found.variant.steps (map (apply (followed_by (substitution v.subst) f.by)) (map plain start)) (map (apply (substitution c.subst)) (map plain start)) (map (apply f.by) (map plain v.terms))
          (each_equal_by_agreement g.declarations (map plain start) (substitution c.subst) (followed_by (substitution v.subst) f.by) (λ x o. same x ((found.vars.all x).1 o)))
          moved)
          f.sequence

    -- each member of a level run
    module _ (kept : List Deep) (run : IsLevelRun g drawn start kept) where
      abbrev FoundDeep : Deep → Type 0
      FoundDeep m = IsFound g start m.variant

      next_found : (before : List Deep) (m : Deep) (after : List Deep) → kept ≡ before ++ m ∷ after → All FoundDeep before → FoundDeep m
      next_found before m after e h = go (run.parents before m after e) where
        go : (before ≡ []) ⊎ HasParent g drawn before m → FoundDeep m
        go (inl none) = start_found m.variant (run.first m after (subst (λ l. kept ≡ l ++ m ∷ after) none e)).1
        go (inr p) = child_found p.parent.variant m.variant (All-contains FoundDeep before p.parent h p.listed) p.child

      found_so_far : (before after : List Deep) → kept ≡ before ++ after → All FoundDeep before → All FoundDeep (before ++ after)
      found_so_far before [] e h = All-append FoundDeep before [] h (All-nil FoundDeep)
      found_so_far before (m ∷ after) e h =
          subst (All FoundDeep) (append_assoc before (m ∷ []) after)
          (found_so_far (before ++ m ∷ []) after (e ∙ sym (append_assoc before (m ∷ []) after)) (All-push FoundDeep before m h (next_found before m after e h)))

      pub all_found : All FoundDeep kept
      all_found = found_so_far [] kept refl (All-nil FoundDeep)
