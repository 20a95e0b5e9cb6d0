-- What refinements of a unifier on kinds reach.
use Rattle.std.proofs.Common.{◌<◌, ℕ, List, length, subst}
use Rattle.std.specs.Prelude.{All, Any}
use Rattle.fvn_terms.specs.declared.plain.Var.{Var}
use Rattle.fvn_terms.specs.declared.declarations.Declarations.{Declarations}
use Rattle.fvn_terms.specs.Substitution.{Substitution}
use Rattle.fvn_terms.specs.Unifiers.{IsInstance}
use Rattle.fvn_flat.specs.Bindings.{Bindings, value, BindingsFit}
use Rattle.fvn_flat.specs.Problems.{variables_of}
use Rattle.fvn_flat.specs.Solving.{substitution, problem_of}
use Rattle.fvn_flat.specs.declared.solver.Pairs.{Pairs}
use Rattle.fvn_combine.specs.CombineChoicesCovering.{CoversOnKinds}
use Rattle.fvn_combine.specs.CombineDrawingOnKinds.{IsGivenOnKinds}
use Rattle.fvn_cover.specs.declared.variant.Variant.{Variant}
use Rattle.fvn_refine.specs.Refinements.{IsAtSorts, IsLargest, HaveTheirSorts, AreRefinements, IsCoveredOnKinds}
use Rattle.fvn_refine.specs.Laws.{RefinementsCover}
use Rattle.fvn_refine.proofs.Refined.{zip_all}
use Rattle.std.proofs.lemmas.List.Elements.{All-contains}
use Rattle.fvn_axunify.specs.inner.Asked.{IsAsked}
use Rattle.fvn_axunify.specs.inner.Members.{IsMember, IsReached, HasInstancesOf, IsWithEach, IsWithAll}
use Rattle.fvn_axunify.proofs.Sorted.{are_bound, have_kinds, member}

module _ (d : Declarations) (given : Pairs) (vars : List Var) (first size : ℕ) (asked : IsAsked d given vars first) (g : Bindings) (h : IsGivenOnKinds d given first size g)
    (rs : List Bindings) (refined : AreRefinements d vars g rs) where
  -- each refinement is a unifier and is drawn
  pub all_members : All (BindingsFit d) rs → All (HaveTheirSorts d vars) rs → All (IsMember d given first) rs
  all_members fit sorts =
      let each = zip_all (IsAtSorts d g) (λ r. BindingsFit d r → HaveTheirSorts d vars r → IsMember d given first r) refined.ways rs refined.given
      (λ way r c at f s. member d given vars first size asked g h way (All-contains (IsLargest d vars g) refined.ways way refined.largest c) r at f s) in
      λ k e l. each k e l (fit k e l) (sorts k e l)

  covered_on_kinds : (u : Substitution) → CoversOnKinds d (variables_of (problem_of given)) (value g) u → IsCoveredOnKinds d vars g u
  covered_on_kinds u c = record { later = c.later; keeps = c.keeps; equal = λ x i. c.equal x ((asked.variables x).0 i); sorts = λ x i. c.sorts x ((asked.variables x).0 i) }

  pub with_refined : RefinementsCover → (most : ℕ) (kept after : List Variant) → IsWithEach d given vars first most kept rs after → IsWithAll d given vars first most kept g after
  with_refined law most kept after w = record {
    are = w.are;
    grows = w.grows;
    few = w.few;
    covered = λ less u unifies c.
        let some = law d asked.good vars g h.fit (are_bound d given vars first size asked g h) (have_kinds d given vars first size asked g h) rs refined u unifies.0 (covered_on_kinds u c) in
        reach less u some;
  }
    where
      reach : length after < most → (u : Substitution) → Any (λ r. IsInstance d vars u (substitution r)) rs → IsReached d given vars after u
      reach less u (k, r, l, e, i) = subst (λ s. HasInstancesOf d given vars s after) e (w.each less k r l) u i
