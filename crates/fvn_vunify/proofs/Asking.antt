-- What is asked of the variants of an exploration, and of the candidates that are pruned.
use Rattle.std.proofs.Common.{◌≡◌, List, map, length, sym, ap, ◌∙◌, subst}
use Rattle.std.specs.Prelude.{All, Any, Contains}
use Rattle.std.proofs.lemmas.List.Elements.{All-weaker, All-contains, All-contains_itself}
use Rattle.fvn_terms.specs.declared.plain.Var.{Var}
use Rattle.fvn_terms.specs.Substitution.{Substitution, apply, Occurs}
use Rattle.fvn_terms.specs.Signature.{IsSort}
use Rattle.fvn_terms.specs.Unifiers.{Problem}
use Rattle.fvn_terms.specs.Variants.{OccursInSome}
use Rattle.fvn_forms.specs.Flat.{plain}
use Rattle.fvn_flat.specs.Bindings.{Bindings, BindingsFit}
use Rattle.fvn_flat.specs.Solving.{substitution}
use Rattle.fvn_cover.specs.declared.variant.Variant.{Variant}
use Rattle.fvn_cover.specs.Covering.{AreAlike, IsFlatVariant}
use Rattle.fvn_cover.proofs.Leftovers.{any_contains}
use Rattle.fvn_exploring.specs.declared.ends.Explored.{Explored}
use Rattle.fvn_exploring.specs.declared.ends.ExpandEnd.{ExpandEnd}
use Rattle.fvn_exploring.specs.Setting.{Setting}
use Rattle.fvn_exploring.specs.LevelRuns.{AreVariablesOf}
use Rattle.fvn_exploring.specs.Explorations.{IsFound}
use Rattle.fvn_vunify.specs.Sides.{sides_in_turn}
use Rattle.fvn_vunify.specs.Solved.{IsOfSomePairs}
use Rattle.fvn_vunify.specs.inner.Attempts.{candidate_of, first_variables, IsSolvable, IsCandidate, AreAttempts}
use Rattle.fvn_vunify.proofs.Known.{AreKnown}
use Rattle.fvn_vunify.proofs.TwoByTwo.{plain_sides, kinds_reached}
use Rattle.fvn_vunify.proofs.Answered.{first_of}

module _ (g : Setting) (drawn : Problem → Substitution → Type 0) (x : Explored) (some : IsOfSomePairs g drawn x) where
  abbrev vars : List Var
  vars = first_variables x.variants

  found_at : (v : Variant) → Contains x.variants v → IsFound g (sides_in_turn some.pairs) v
  found_at v m = All-contains (IsFound g (sides_in_turn some.pairs)) x.variants v some.explored.exploration.found m

  vars_are : (v : Variant) → Contains x.variants v → AreVariablesOf (sides_in_turn some.pairs) vars
  vars_are v m = first_of (AreVariablesOf (sides_in_turn some.pairs)) x.variants (λ k e l. (some.explored.exploration.found k e l).vars) v m

  sorts_are : (v : Variant) → Contains x.variants v → All (λ y. IsSort g.declarations y.sort) vars
  sorts_are v m = first_of (All (λ (y : Var). IsSort g.declarations y.sort)) x.variants (λ k e l. (some.explored.exploration.found k e l).member.flat.vars) v m

  -- the pairs of each variant can be solved
  pub all_solvable : AreKnown g.declarations g.equations → All (IsSolvable g vars) x.variants
  all_solvable known = All-weaker (Contains x.variants) (IsSolvable g vars) one x.variants (All-contains_itself x.variants) where
    one : (v : Variant) → Contains x.variants v → IsSolvable g vars v
    one v m =
        let f = found_at v m in
        let k = vars_are v m in
        record {
          flat = f.member.flat;
          holds = f.member.holds;
          kinds = kinds_reached g.declarations g.equations known.kinded (substitution v.subst) f.variant.well_sorted.0 some.pairs v.terms f.variant.steps some.explored.kinds
              ((known.lists.members f.variant.steps (map (apply (substitution v.subst)) (plain_sides some.pairs)) (map plain v.terms)).0 f.variant.sequence);
          fixed = λ t n y o. (k.all y).1 (All-contains (λ w. (z : Var) → Occurs z w → OccursInSome z (plain_sides some.pairs)) g.fixed t some.explored.exploration.fixed n y o);
          same_vars = λ y. (λ n. (f.vars.all y).1 ((k.all y).0 n), λ n. (k.all y).1 ((f.vars.all y).0 n));
        }

  pub solvable_at : AreKnown g.declarations g.equations → (variants : List Variant) (vs : List Var) → variants ≡ x.variants → vs ≡ first_variables variants → All (IsSolvable g vs) variants
  solvable_at known variants vs is vs_are =
      let at : vs ≡ vars = vs_are ∙ ap first_variables is in
      subst (λ l. All (IsSolvable g l) variants) (sym at) (subst (All (IsSolvable g vars)) (sym is) (all_solvable known))

  module _ (found : List Variant) (end : ExpandEnd) (attempts : AreAttempts g drawn vars x.variants found end) where
    record HasMaking (u : Variant) : Type 0 where
      pub by : Bindings
      pub is : u ≡ candidate_of vars by
      pub fits : BindingsFit g.declarations by
      pub sorts : All (λ y. IsSort g.declarations y.sort) vars

    making_of : (u : Variant) → Contains found u → HasMaking u
    making_of u m =
        let w = any_contains (λ v. IsCandidate g vars v u) x.variants (All-contains (λ u. Any (λ v. IsCandidate g vars v u) x.variants) found u attempts.candidates m) in
        let c = w.1.1 in
        record { by = c.by; is = c.is; fits = c.fits; sorts = sorts_are w.0 w.1.0 }

    flat_one : (u : Variant) → Contains found u → IsFlatVariant g.declarations u
    flat_one u m =
        let k = making_of u m in
        subst (IsFlatVariant g.declarations) (sym k.is) (record { terms = tt; values = k.fits; vars = k.sorts })

    pub all_flat : All (IsFlatVariant g.declarations) found
    all_flat = All-weaker (Contains found) (IsFlatVariant g.declarations) flat_one found (All-contains_itself found)

    alike_two : (a b : Variant) → Contains found a → Contains found b → AreAlike a b
    alike_two a b m n =
        let j = making_of a m in
        let k = making_of b n in
        record {
          vars = ap (λ (u : Variant). u.vars) j.is ∙ ap (λ (u : Variant). u.vars) (sym k.is);
          terms = ap (λ (u : Variant). length u.terms) j.is ∙ ap (λ (u : Variant). length u.terms) (sym k.is);
        }

    pub all_alike : All (λ a. All (AreAlike a) found) found
    all_alike = All-weaker (Contains found) (λ a. All (AreAlike a) found)
        (λ a m. All-weaker (Contains found) (AreAlike a) (λ b n. alike_two a b m n) found (All-contains_itself found)) found (All-contains_itself found)
