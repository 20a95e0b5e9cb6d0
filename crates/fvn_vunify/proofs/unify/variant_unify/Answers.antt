-- What is asked of the variants and of the candidates, and what is promised of the answer.
use Rattle.std.proofs.Common.{◌≡◌, map, sym, ap, ◌∙◌, subst}
use Rattle.std.specs.Prelude.{List, All}
use Rattle.fvn_flat.specs.Bindings.{Bindings}
use Rattle.fvn_forms.specs.Good.{IsGood}
use Rattle.fvn_cover.specs.declared.variant.Variant.{Variant}
use Rattle.fvn_cover.specs.Covering.{IsFlatVariant}
use Rattle.fvn_cover.specs.Pruning.{IsPruned}
use Rattle.fvn_exploring.specs.declared.ends.ExploreEnd.{ExploreEnd}
use Rattle.fvn_vunify.specs.Solved.{IsSolvedModulo}
use Rattle.fvn_vunify.specs.inner.Ends.{end_after}
use Rattle.fvn_vunify.specs.inner.Attempts.{first_variables, AreAttempts}
use Rattle.fvn_vunify.proofs.Known.{known_of}
use Rattle.fvn_vunify.proofs.Asking.{solvable_at, all_flat, all_alike}
use Rattle.fvn_vunify.proofs.Answered.{answered}
use Rattle.fvn_vunify.proofs.unify.variant_unify.Goals as goal

pub attempts-requires-clause-solvable : goal.attempts-requires-clause-solvable
attempts-requires-clause-solvable g c = λ κs w.
    let s = g.E.Expander.setting c.args.expander.now in
    let good : IsGood s.declarations = subst IsGood c.requires.sig c.recall_good.ensures in
    let known = known_of c.rewriting_is_lawful.ensures c.theory_equality_is_lawful.ensures c.sequences_are_lawful.ensures c.lists_are_lawful.ensures c.kinded_theories_are_lawful.ensures
    s.declarations good.fits s.equations c.requires.explored.explored.exploration.lawful.one_kind in
    solvable_at s (g.E.Expander.drawn c.args.expander.now) c.args.explored c.requires.explored known c.as_slice-variants.result.now c.first_variables-vars.result.now c.as_slice-variants.ensures c.first_variables-vars.ensures

pub prune-requires-clause-flat : goal.prune-requires-clause-flat
prune-requires-clause-flat g c =
    let s = g.E.Expander.setting c.args.expander.now in
    let may = g.E.Expander.drawn c.args.expander.now in
    let x = c.args.explored in
    let found = c.in_ok-attempt.attempt.found.items in
    let vs_are = c.first_variables-vars.ensures ∙ ap first_variables c.as_slice-variants.ensures in
    let attempts : AreAttempts s may (first_variables x.variants) x.variants found c.in_ok-attempt.attempt.end =
    subst (λ l. AreAttempts s may l x.variants found c.in_ok-attempt.attempt.end) vs_are
    (subst (λ l. AreAttempts s may c.first_variables-vars.result.now l found c.in_ok-attempt.attempt.end) c.as_slice-variants.ensures c.in_ok-attempt.ensures) in
    subst (λ d. All (IsFlatVariant d) found) (sym c.requires.sig) (all_flat s may x c.requires.explored found c.in_ok-attempt.attempt.end attempts)

pub prune-requires-clause-alike : goal.prune-requires-clause-alike
prune-requires-clause-alike g c =
    let s = g.E.Expander.setting c.args.expander.now in
    let may = g.E.Expander.drawn c.args.expander.now in
    let x = c.args.explored in
    let found = c.in_ok-attempt.attempt.found.items in
    let vs_are = c.first_variables-vars.ensures ∙ ap first_variables c.as_slice-variants.ensures in
    let attempts : AreAttempts s may (first_variables x.variants) x.variants found c.in_ok-attempt.attempt.end =
    subst (λ l. AreAttempts s may l x.variants found c.in_ok-attempt.attempt.end) vs_are
    (subst (λ l. AreAttempts s may c.first_variables-vars.result.now l found c.in_ok-attempt.attempt.end) c.as_slice-variants.ensures c.in_ok-attempt.ensures) in
    all_alike s may x c.requires.explored found c.in_ok-attempt.attempt.end attempts

pub returns : goal.returns
returns g c =
    let s = g.E.Expander.setting c.args.expander.now in
    let may = g.E.Expander.drawn c.args.expander.now in
    let x = c.args.explored in
    let found = c.in_ok-attempt.attempt.found.items in
    let kept = c.in_ok-kept.kept.items in
    let good : IsGood s.declarations = subst IsGood c.requires.sig c.recall_good.ensures in
    let known = known_of c.rewriting_is_lawful.ensures c.theory_equality_is_lawful.ensures c.sequences_are_lawful.ensures c.lists_are_lawful.ensures c.kinded_theories_are_lawful.ensures
    s.declarations good.fits s.equations c.requires.explored.explored.exploration.lawful.one_kind in
    let vs_are = c.first_variables-vars.ensures ∙ ap first_variables c.as_slice-variants.ensures in
    let attempts : AreAttempts s may (first_variables x.variants) x.variants found c.in_ok-attempt.attempt.end =
    subst (λ l. AreAttempts s may l x.variants found c.in_ok-attempt.attempt.end) vs_are
    (subst (λ l. AreAttempts s may c.first_variables-vars.result.now l found c.in_ok-attempt.attempt.end) c.as_slice-variants.ensures c.in_ok-attempt.ensures) in
    let pruned : IsPruned s.declarations found kept = subst (λ d. IsPruned d found kept) c.requires.sig c.in_ok-kept.ensures.pruned in
    let unifiers_are : c.from_vec.result ≡ map (λ (u : Variant). u.subst) kept = c.from_vec.ensures ∙ c.in_ok-unifiers.ensures in
    let end_is : c.end_after-end.result ≡ end_after x.end c.in_ok-attempt.attempt.end = c.end_after-end.ensures ∙ ap (λ e. end_after e c.in_ok-attempt.attempt.end) c.into_end.ensures in
    record {
      solved = λ pairs limits ex.
          subst (λ (us : List Bindings). IsSolvedModulo s may pairs limits x (record { unifiers = us; end = c.end_after-end.result })) (sym unifiers_are)
          (subst (λ (e : ExploreEnd). IsSolvedModulo s may pairs limits x (record { unifiers = map (λ (u : Variant). u.subst) kept; end = e })) (sym end_is)
          (answered s may good.fits known c.covering_of_unifiers_is_instance.ensures c.instances_are_transitive.ensures x found kept c.in_ok-attempt.attempt.end attempts pruned pairs limits ex));
    }
