-- What is promised of the answer, from what was found for each variant.
use Rattle.std.proofs.Common.{◌≡◌, ◌≢◌, ◌≤◌, ◌⊎◌, ℕ, List, [], ◌∷◌, map, refl, sym, ap, ◌∙◌, subst, inl, inr}
use Rattle.std.specs.Prelude.{All, Any, Contains}
use Rattle.std.proofs.lemmas.List.Elements.{All-map, All-head, All-contains}
use Rattle.fvn_base.proofs.Membership.{contains_none}
use Rattle.fvn_terms.specs.declared.plain.Var.{Var}
use Rattle.fvn_terms.specs.Term.{Term}
use Rattle.fvn_terms.specs.Substitution.{Substitution, apply, Occurs}
use Rattle.fvn_terms.specs.Unifiers.{Problem}
use Rattle.fvn_terms.specs.Rewriting.{ListSequence, IsTerminating, IsConfluent}
use Rattle.fvn_terms.specs.Variants.{OccursInSome, Covers}
use Rattle.fvn_terms.specs.Laws.{InstancesAreTransitive}
use Rattle.fvn_forms.specs.Flat.{plain}
use Rattle.fvn_forms.specs.FitsKinds.{FitsKinds}
use Rattle.fvn_flat.specs.Bindings.{Bindings, BindingsFit}
use Rattle.fvn_flat.specs.Problems.{variables_of, plain_pairs}
use Rattle.fvn_flat.specs.Solving.{FlatPairs, substitution}
use Rattle.fvn_cover.specs.declared.variant.Variant.{Variant}
use Rattle.fvn_cover.specs.Pruning.{IsPruned}
use Rattle.fvn_cover.specs.Laws.{CoveringOfUnifiersIsInstance}
use Rattle.fvn_cover.proofs.Leftovers.{any_contains}
use Rattle.fvn_exploring.specs.declared.limits.Limits.{Limits}
use Rattle.fvn_exploring.specs.declared.ends.Explored.{Explored}
use Rattle.fvn_exploring.specs.declared.ends.ExpandEnd.{ExpandEnd}
use Rattle.fvn_exploring.specs.declared.ends.ExpandEnd.TheVariants.{Whole, Steps, Size, Basis, Unifiers}
use Rattle.fvn_exploring.specs.declared.ends.ExploreEnd.{ExploreEnd}
use Rattle.fvn_exploring.specs.declared.ends.ExploreEnd.TheVariants.{Complete, Levels, Variants}
use Rattle.fvn_exploring.specs.declared.ends.ExploreEnd.TheVariants.{Steps as StepsThere, Size as SizeThere, Basis as BasisThere, Unifiers as UnifiersThere}
use Rattle.fvn_exploring.specs.Setting.{Setting}
use Rattle.fvn_exploring.specs.Ends.{explore_end}
use Rattle.fvn_exploring.specs.LevelRuns.{AreVariablesOf}
use Rattle.fvn_exploring.specs.Explorations.{IsFound, IsCovered}
use Rattle.fvn_vunify.specs.Sides.{sides_in_turn}
use Rattle.fvn_vunify.specs.Solutions.{IsIrreducibleUnifier, IsInstanceOfSome}
use Rattle.fvn_vunify.specs.Causes.{MeetsBound}
use Rattle.fvn_vunify.specs.Solved.{IsExploredFor, HasSmallValues, StopsAtPairs, IsWithinExplored, IsSolvedModulo}
use Rattle.fvn_vunify.specs.inner.Ends.{end_after}
use Rattle.fvn_vunify.specs.inner.Attempts.{first_variables, IsCandidate, AreWholeFor, AreAttempts}
use Rattle.fvn_vunify.proofs.Known.{AreKnown}
use Rattle.fvn_vunify.proofs.TwoByTwo.{plain_sides, variable_of_sides, side_has_variable, sides_kinded}
use Rattle.fvn_vunify.proofs.Above.{sides_normal, normal_variant, found_above}
use Rattle.fvn_vunify.proofs.Pruned.{substitutions, IsBare, kept_above, kept_apart, kept_all}
use Rattle.fvn_vunify.proofs.Sound.{candidate_unifies, candidate_fits, candidate_small}

-- which end is told
pub end_first : (end : ExploreEnd) (stop : ExpandEnd) → end ≢ Complete → end_after end stop ≡ end
end_first Complete stop n = absurd (n refl)
end_first (Levels v) stop n = refl
end_first (Variants v) stop n = refl
end_first (StepsThere start end) stop n = refl
end_first (SizeThere cause) stop n = refl
end_first (BasisThere f system) stop n = refl
end_first (UnifiersThere given list) stop n = refl

pub end_complete : (end : ExploreEnd) (stop : ExpandEnd) → end_after end stop ≡ Complete → (end ≡ Complete) × (stop ≡ Whole)
end_complete Complete Whole e = (refl, refl)
end_complete Complete (Steps start end) e = cc
end_complete Complete (Size cause) e = cc
end_complete Complete (Basis f system) e = cc
end_complete Complete (Unifiers given list) e = cc
end_complete (Levels v) stop e = cc
end_complete (Variants v) stop e = cc
end_complete (StepsThere start end) stop e = cc
end_complete (SizeThere cause) stop e = cc
end_complete (BasisThere f system) stop e = cc
end_complete (UnifiersThere given list) stop e = cc

-- what holds of the variables of each variant holds of those of the first
pub first_of : (P : List Var → Type 0) (variants : List Variant) → All (λ v. P v.vars) variants → (v : Variant) → Contains variants v → P (first_variables variants)
first_of P [] h v m = absurd (contains_none v m)
first_of P (w ∷ variants) h v m = All-head (λ v. P v.vars) w variants h

module _ (g : Setting) (drawn : Problem → Substitution → Type 0) (fits : FitsKinds g.declarations) (known : AreKnown g.declarations g.equations)
    (law : CoveringOfUnifiersIsInstance) (chain : InstancesAreTransitive) (x : Explored)
    (found kept : List Variant) (stop : ExpandEnd) (attempts : AreAttempts g drawn (first_variables x.variants) x.variants found stop)
    (pruned : IsPruned g.declarations found kept) (pairs : FlatPairs) (limits : Limits) (explored : IsExploredFor g drawn pairs limits x) where
  abbrev vars : List Var
  vars = first_variables x.variants

  abbrev problem_vars : List Var
  problem_vars = variables_of (plain_pairs pairs)

  found_one : (v : Variant) → Contains x.variants v → IsFound g (sides_in_turn pairs) v
  found_one v m = All-contains (IsFound g (sides_in_turn pairs)) x.variants v explored.exploration.found m

  -- the variables are those of the problem, where there is some variant
  vars_known : (v : Variant) → Contains x.variants v → AreVariablesOf (sides_in_turn pairs) vars
  vars_known v m = first_of (AreVariablesOf (sides_in_turn pairs)) x.variants (λ k e l. (explored.exploration.found k e l).vars) v m

  to_problem : (v : Variant) → Contains x.variants v → (y : Var) → Contains vars y → Contains problem_vars y
  to_problem v m y n = side_has_variable pairs y (((vars_known v m).all y).0 n)

  from_problem : (v : Variant) → Contains x.variants v → (y : Var) → Contains problem_vars y → Contains vars y
  from_problem v m y n = ((vars_known v m).all y).1 (variable_of_sides pairs y n)

  -- the fixed terms are over these variables
  over : (v : Variant) → Contains x.variants v → (t : Term) → Contains g.fixed t → (y : Var) → Occurs y t → Contains vars y
  over v m t n y o =
      ((vars_known v m).all y).1
      (All-contains (λ u. (y : Var) → Occurs y u → OccursInSome y (plain_sides pairs)) g.fixed t explored.exploration.fixed n y o)

  to_variant : (v : Variant) → Contains x.variants v → (y : Var) → Contains vars y → Contains v.vars y
  to_variant v m y n = ((found_one v m).vars.all y).1 (((vars_known v m).all y).0 n)

  -- what each found one is made of
  record HasOrigin (u : Variant) : Type 0 where
    pub origin : Variant
    pub listed : Contains x.variants origin
    pub candidate : IsCandidate g vars origin u

  origin_of : (u : Variant) → Contains found u → HasOrigin u
  origin_of u m =
      let w = any_contains (λ v. IsCandidate g vars v u) x.variants (All-contains (λ u. Any (λ v. IsCandidate g vars v u) x.variants) found u attempts.candidates m) in
      record { origin = w.0; listed = w.1.0; candidate = w.1.1 }

  bare : (u : Variant) → Contains found u → IsBare problem_vars u
  bare u m =
      let o = origin_of u m in
      let at : u.vars ≡ vars = ap (λ (w : Variant). w.vars) o.candidate.is in
      record {
        no_terms = ap (λ (w : Variant). w.terms) o.candidate.is;
        from = λ y n. subst (λ l. Contains l y) (sym at) (from_problem o.origin o.listed y n);
        to = λ y n. to_problem o.origin o.listed y (subst (λ l. Contains l y) at n);
      }

  each : (P : Bindings → Type 0) → ((u : Variant) → Contains found u → P u.subst) → All P (substitutions kept)
  each P f = kept_all g.declarations law problem_vars found kept pruned bare P f

  sound : All (λ s. IsIrreducibleUnifier g (plain_pairs pairs) (substitution s)) (substitutions kept)
  sound = each (λ s. IsIrreducibleUnifier g (plain_pairs pairs) (substitution s))
      (λ u m. let o = origin_of u m in candidate_unifies g known pairs vars (from_problem o.origin o.listed) o.origin u (found_one o.origin o.listed) o.candidate)

  fit : All (BindingsFit g.declarations) (substitutions kept)
  fit = each (BindingsFit g.declarations)
      (λ u m. let o = origin_of u m in candidate_fits g known pairs vars (from_problem o.origin o.listed) o.origin u (found_one o.origin o.listed) o.candidate)

  small : All (HasSmallValues g (plain_pairs pairs)) (substitutions kept)
  small = each (HasSmallValues g (plain_pairs pairs))
      (λ u m. let o = origin_of u m in candidate_small g known pairs vars (from_problem o.origin o.listed) o.origin u (found_one o.origin o.listed) o.candidate)

  -- a unifier whose sides have bounded sequences is an instance of a given one, where what covers its normal forms is solved wholly
  module _ (confluent : IsConfluent g.declarations g.equations) (s : Substitution) (h : IsIrreducibleUnifier g (plain_pairs pairs) s) (most : ℕ)
      (bound : (k : ℕ) (us : List Term) → ListSequence g.declarations g.equations k (map (apply s) (plain_sides pairs)) us → k ≤ most) where
    abbrev forms : List Term
    forms = (sides_normal g fits known explored.exploration.lawful pairs explored.kinds s h most bound).forms

    instance_of_some : IsCovered g x.variants forms s → ((v : Variant) → Contains x.variants v → AreWholeFor g vars v found) →
        IsInstanceOfSome g (plain_pairs pairs) (map substitution (substitutions kept)) s
    instance_of_some covered whole =
        let v = any_contains (λ v. Covers g.declarations v.vars (map plain v.terms) (substitution v.subst) forms s) x.variants covered in
        kept_above g.declarations law problem_vars found kept pruned bare (chain g.declarations g.equations problem_vars).modulo s
        (
        found_above g fits known explored.exploration.lawful pairs explored.kinds s h (sides_normal g fits known explored.exploration.lawful pairs explored.kinds s h most bound)
        confluent vars v.0 (to_variant v.0 v.1.0) (to_problem v.0 v.1.0) (from_problem v.0 v.1.0) (over v.0 v.1.0) v.1.1 found (whole v.0 v.1.0)
        )

  complete_one : end_after x.end stop ≡ Complete → IsTerminating g.declarations g.equations → IsConfluent g.declarations g.equations →
      (s : Substitution) → IsIrreducibleUnifier g (plain_pairs pairs) s → IsInstanceOfSome g (plain_pairs pairs) (map substitution (substitutions kept)) s
  complete_one e ends confluent s h =
      let both = end_complete x.end stop e in
      let b = known.rewriting.bounded ends (map (apply s) (plain_sides pairs)) (sides_kinded g.declarations g.equations known.kinded s h.kept.unifier.0.0 pairs explored.kinds) in
      let normal = sides_normal g fits known explored.exploration.lawful pairs explored.kinds s h b.0 b.1 in
      instance_of_some confluent s h b.0 b.1
      (explored.exploration.complete both.0 ends confluent normal.forms s (normal_variant g fits known explored.exploration.lawful pairs explored.kinds s h normal))
      (λ v m. All-contains (λ v. AreWholeFor g vars v found) x.variants v (attempts.whole both.1) m)

  within_one : IsConfluent g.declarations g.equations → All (λ v. MeetsBound g drawn v → ⊥) x.variants →
      (s : Substitution) → IsIrreducibleUnifier g (plain_pairs pairs) s → IsWithinExplored g drawn pairs limits x s →
      IsInstanceOfSome g (plain_pairs pairs) (map substitution (substitutions kept)) s
  within_one confluent unbounded s h w =
      let normal = sides_normal g fits known explored.exploration.lawful pairs explored.kinds s h w.most w.within in
      instance_of_some confluent s h w.most w.within
      (explored.exploration.within confluent w.most w.reaches normal.forms s (normal_variant g fits known explored.exploration.lawful pairs explored.kinds s h normal) w.within)
      (λ v m. solved v m (All-contains (λ v. AreWholeFor g vars v found ⊎ MeetsBound g drawn v) x.variants v attempts.each m))
    where
      solved : (v : Variant) → Contains x.variants v → AreWholeFor g vars v found ⊎ MeetsBound g drawn v → AreWholeFor g vars v found
      solved v m (inl whole) = whole
      solved v m (inr meets) = absurd (All-contains (λ v. MeetsBound g drawn v → ⊥) x.variants v unbounded m meets)

  cause_of : x.end ≡ Complete → end_after x.end stop ≢ Complete → StopsAtPairs g drawn x (end_after x.end stop)
  cause_of e n =
      let is : end_after x.end stop ≡ explore_end stop = ap (λ z. end_after z stop) e in
      record { stop = stop; is = is; cause = attempts.cause (λ w. n (is ∙ ap explore_end w)) }

  pub answered : IsSolvedModulo g drawn pairs limits x (record { unifiers = substitutions kept; end = end_after x.end stop })
  answered = record {
    sound = sound;
    fits = fit;
    small = small;
    apart = kept_apart g.declarations law problem_vars found kept pruned bare;
    complete = λ e ends confluent. record {
      sound = All-map (IsIrreducibleUnifier g (plain_pairs pairs)) substitution (substitutions kept) sound;
      complete = complete_one e ends confluent;
    };
    within = within_one;
    first = end_first x.end stop;
    cause = cause_of;
  }
