-- One more variable, and the products of all.
use Rattle.std.proofs.Common.{◌≡◌, ◌≤◌, ◌+◌, ℕ, List, map, length, take, refl, ap, ◌∙◌, subst, arith}
use Rattle.std.proofs.lemmas.List.{take_all}
use Rattle.fvn_base.specs.declared.limits.TheConstants.{IDENTITY_INSTANCES, SORT_INSTANCES}
use Rattle.fvn_terms.specs.declared.plain.Var.{Var}
use Rattle.fvn_rewrite_laws.specs.Choices.{product, identities_below, sorts_below}
use Rattle.fvn_cohere.specs.inner.Capped.{capped}
use Rattle.fvn_cohere.proofs.Products.{sum-step, within_capped}
use Rattle.fvn_cohere.proofs.fitting.fits.Goals as goal

pub counts-requires : goal.counts-requires
counts-requires c = c.as_slice.ensures.value ∙ c.in_ok-es.ensures

pub loop-x-preserved : goal.loop-x-preserved
loop-x-preserved c =
    let d = c.args.sig.now in
    let items : List Var = c.as_slice-x-items.result.now in
    record {
      identity_instances =
          c.times-few.ensures
          ∙ sum-step (λ (x : Var). 1) (λ (x : Var). length (identities_below d x.sort)) items c.loop-x.x-index _ c.loop-x.by_identities 1 c.in_ok-n.n.0 c.loop-x-test.true refl c.in_ok-n.ensures.0 c.loop-x.invariant.identity_instances;
      sort_instances =
          c.times-many.ensures
          ∙ sum-step (λ (x : Var). length (sorts_below d x.sort)) (λ (x : Var). length (identities_below d x.sort)) items c.loop-x.x-index _ c.loop-x.by_sorts c.in_ok-n.n.1 c.in_ok-n.n.0 c.loop-x-test.true c.in_ok-n.ensures.1 c.in_ok-n.ensures.0 c.loop-x.invariant.sort_instances;
    }

-- a product over all variables that is within a limit
within : (n : Var → ℕ) (items vars : List Var) (i so_far limit : ℕ) → length items ≤ i → items ≡ vars → so_far ≡ capped (product (map n (take i items))) → so_far ≡ capped (product (map n vars))
within n items vars i so_far limit all is e = e ∙ ap (λ l. capped (product (map n l))) (take_all i items all ∙ is)

pub returns : goal.returns
returns c =
    let d = c.args.sig.now in
    let items : List Var = c.as_slice-x-items.result.now in
    let is = c.as_slice-x-items.ensures.value ∙ c.in_ok-vars.ensures in
    let by_identities = within (λ (x : Var). 1 + length (identities_below d x.sort)) items _ c.loop-x.x-index c.loop-x.by_identities 0 c.loop-x-test.false is c.loop-x.invariant.identity_instances in
    let by_sorts = within (λ (x : Var). length (sorts_below d x.sort) + length (identities_below d x.sort)) items _ c.loop-x.x-index c.loop-x.by_sorts 0 c.loop-x-test.false is c.loop-x.invariant.sort_instances in (
      λ t. let both = c.are_within.ensures.0 t in record {
        identity_instances = (within_capped _ IDENTITY_INSTANCES (omega arith)).0 (subst (λ p. p ≤ IDENTITY_INSTANCES) by_identities both.0);
        sort_instances = (within_capped _ SORT_INSTANCES (omega arith)).0 (subst (λ p. p ≤ SORT_INSTANCES) by_sorts both.1);
      },
      λ h. c.are_within.ensures.1 (
        rw by_identities ((within_capped _ IDENTITY_INSTANCES (omega arith)).1 h.identity_instances),
        rw by_sorts ((within_capped _ SORT_INSTANCES (omega arith)).1 h.sort_instances),
      ),
    )
