-- Where what meets a rule lifts, each reducible instance with irreducible values lifts.
use Rattle.std.proofs.Common.{◌≡◌, ◌⊎◌, ◌<◌, ℕ, zero, suc, List, [], ◌∷◌, length, get_or, refl, sym, subst, inl, inr, arith}
use Rattle.std.specs.List.{Any, Contains}
use Rattle.fvn_terms.specs.declared.plain.Var.{Var}
use Rattle.fvn_terms.specs.Term.{Term, var}
use Rattle.fvn_terms.specs.Substitution.{Substitution, apply, followed_by, Occurs}
use Rattle.fvn_terms.specs.Signature.{kind, IsSort, IsTerm}
use Rattle.fvn_terms.specs.Places.{stop}
use Rattle.fvn_terms.specs.Equality.{BEqual}
use Rattle.fvn_terms.specs.Rewriting.{IsIrreducible, ListRewrites, ListSequence}
use Rattle.fvn_terms.specs.Laws.{RewritingLaws}
use Rattle.fvn_terms.proofs.Substitutions.{apply-apply}
use Rattle.fvn_terms.proofs.Equal.{BEqual-sym, BEqual-trans}
use Rattle.fvn_forms.specs.Flat.{FlatTerm, plain}
use Rattle.fvn_flat.specs.Fits.{AllFit}
use Rattle.fvn_flat.specs.Solving.{substitution}
use Rattle.fvn_flat.specs.Successors.{Narrowed, OccursIn}
use Rattle.fvn_cover.specs.declared.variant.Variant.{Variant}
use Rattle.fvn_rewrite_laws.proofs.Agreement.{equal_by_agreement}
use Rattle.fvn_rewrite_laws.proofs.Choosing.{occurring_sort}
use Rattle.fvn_rewrite_laws.proofs.Lists.{each_equal_itself, each_equal_back, list_before}
use Rattle.fvn_rewrite_coherence.specs.Laws.{CoherenceLaws}
use Rattle.fvn_rewrite_rules.specs.Given.{RuleLists}
use Rattle.fvn_exploring.specs.Setting.{Setting}
use Rattle.fvn_exploring.specs.Children.{narrowed}
use Rattle.fvn_exploring.specs.Expansions.{IsExpandable}
use Rattle.fvn_exploring.specs.Liftings.{instance_of, value_under, IsLifted, KeepsIrreducible}
use Rattle.fvn_lifting.specs.Turns.{MeetsRule}
use Rattle.fvn_lifting.specs.Lifted.{instances, HaveOneInstance, KeepsIrreducibleFrom, IsLiftedFrom}

module _ (g : Setting) (rewriting : RewritingLaws g.declarations g.equations) (coherent : CoherenceLaws g.declarations g.equations) where
  -- what is equal to an irreducible term is so
  still_irreducible : (t u : Term) → BEqual g.declarations t u → IsIrreducible g.declarations g.equations t → IsIrreducible g.declarations g.equations u
  still_irreducible t u e h z r = h z (rewriting.modulo u t z z (BEqual-sym g.declarations e) r stop)

  module _ (first : ℕ) (v : Variant) (expandable : IsExpandable g first v) (from : Narrowed) (fits : AllFit g.declarations from.terms)
      (s : Substitution) (keeps : KeepsIrreducible g v s) (c : Substitution) (one : HaveOneInstance g.declarations v.vars (narrowed v) from s c) where
    -- the values of the variables that occur in v are irreducible
    irreducible_at : (x : Var) → OccursIn g.declarations v.vars (narrowed v) x → IsIrreducible g.declarations g.equations (s x)
    irreducible_at x (inl a) = let h = expandable.holds x a in rewriting.values s (substitution v.subst h.0) x h.2 (keeps.values h.0 h.1)
    irreducible_at x (inr h) = rewriting.values s (substitution v.subst h.0) x h.2 (keeps.values h.0 h.1)

    known_sort : (l : List FlatTerm) → AllFit g.declarations l → (y : Var) → Any (λ t. Occurs y (plain t)) l → IsTerm g.declarations (var y)
    known_sort l h y (k, t, i, e, o) = (kind g.declarations y.sort, (at l h k i e, refl)) where
      at : (l : List FlatTerm) → AllFit g.declarations l → (k : ℕ) → k < length l → get_or l k t ≡ t → IsSort g.declarations y.sort
      at [] h k i e = absurd (omega (arith, i))
      at (u ∷ l) h zero i e = occurring_sort g.declarations y (plain u) h.0.kinded.0 h.0.kinded.1 (subst (λ a. Occurs y (plain a)) (sym e) o)
      at (u ∷ l) h (suc k) i e = at l h.1 k (omega (arith, i)) e

    pub irreducible_there : (y : Var) → Any (λ t. Occurs y (plain t)) from.terms → IsIrreducible g.declarations g.equations (c y)
    irreducible_there y a = go (one.origin y) where
      go : ((x : Var) × (OccursIn g.declarations v.vars (narrowed v) x × (c y ≡ s x))) ⊎ (c y ≡ var y) → IsIrreducible g.declarations g.equations (c y)
      go (inl w) = subst (IsIrreducible g.declarations g.equations) (sym w.1.1) (irreducible_at w.0 w.1.0)
      go (inr e) = subst (IsIrreducible g.declarations g.equations) (sym e) (coherent.variables y (known_sort from.terms fits y a))

    -- the renamed instance keeps irreducible what that of v does
    fixed_equal : (t : Term) → ((y : Var) → Occurs y t → Contains v.vars y) → BEqual g.declarations (apply s (apply (substitution v.subst) t)) (apply c (apply from.values t))
    fixed_equal t within =
        subst (λ a. BEqual g.declarations a (apply c (apply from.values t))) (sym (apply-apply (substitution v.subst) s t))
        (subst (BEqual g.declarations (apply (followed_by (substitution v.subst) s) t)) (sym (apply-apply from.values c t))
        (equal_by_agreement g.declarations (followed_by (substitution v.subst) s) (followed_by from.values c) t (λ y o. one.values y (within y o))))

    pub keeps_there : KeepsIrreducibleFrom g v.vars from c
    keeps_there = record {
      well_sorted = one.well_sorted;
      values = λ x h. still_irreducible (value_under s v x) (apply c (from.values x)) (one.values x h) (keeps.values x h);
      stay = λ k t l.
          still_irreducible (apply s (apply (substitution v.subst) (get_or g.fixed k t))) (apply c (apply from.values (get_or g.fixed k t)))
          (fixed_equal (get_or g.fixed k t) (expandable.fixed k t l)) (keeps.stay k t l);
    }

    step_there : (us : List Term) → ListRewrites g.declarations g.equations (instance_of s v) us → ListSequence g.declarations g.equations 1 (instances c from) us
    step_there us l =
        list_before g.declarations g.equations rewriting 1 (instance_of s v) (instances c from) us (each_equal_back g.declarations (instance_of s v) (instances c from) one.terms)
        (us, (l, each_equal_itself g.declarations us))

    -- what lifts from the renamed instance lifts from that of v
    lifts_back : (k : Variant) → IsLiftedFrom g v.vars from c k → IsLifted g v s k
    lifts_back k h = record {
      by = h.by;
      well_sorted = h.well_sorted;
      steps = h.steps;
      sequence = list_before g.declarations g.equations rewriting (suc h.steps) (instances c from) (instance_of s v) (instance_of h.by k) one.terms h.sequence;
      same = λ x i. BEqual-trans g.declarations (one.values x i) (h.same x i);
    }

    -- what meets a rule lifts from the renamed instance, so that v's steps lift
    module _ (lists : RuleLists) (children : List Variant) (meets : (us : List Term) → ListRewrites g.declarations g.equations (instances c from) us → MeetsRule g.declarations lists from.terms c)
        (lifts : MeetsRule g.declarations lists from.terms c → Any (IsLiftedFrom g v.vars from c) children) where
      pub lifts_into_some : (us : List Term) → ListRewrites g.declarations g.equations (instance_of s v) us → (k : Variant) × Contains children k × IsLifted g v s k
      lifts_into_some us l = go (lifts (let q = step_there us l in meets q.0 q.1.0)) where
        go : Any (IsLiftedFrom g v.vars from c) children → (k : Variant) × Contains children k × IsLifted g v s k
        go (i, k, low, e, h) = (k, (i, low, e), lifts_back k h)
