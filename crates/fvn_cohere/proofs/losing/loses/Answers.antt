-- What the search finds.
use Rattle.std.proofs.Common.{◌≡◌, [], sym, subst, ◌∙◌}
use Rattle.std.specs.Prelude.{MatchOption}
use Rattle.std.specs.List.{Contains}
use Rattle.fvn_terms.specs.Plain.{term}
use Rattle.fvn_flat.specs.Problems.{variables}
use Rattle.fvn_flat.proofs.ListedVariables.{Distinct}
use Rattle.fvn_rewrite_laws.specs.Choices.{distinct_variables_of}
use Rattle.fvn_cohere.specs.declared.shapes.Chosen.{Nothing}
use Rattle.fvn_cohere.specs.declared.searching.Search.{Search}
use Rattle.fvn_cohere.specs.declared.searching.Sought.TheVariants.{Loss}
use Rattle.fvn_cohere.specs.inner.Searching.{shapes_by}
use Rattle.fvn_cohere.specs.inner.Narrowing.{LosesIn}
use Rattle.fvn_cohere.proofs.Hopeless.{stays_allowed, offers_of, fold_distinct}
use Rattle.fvn_cohere.proofs.Found.{searched_loss_by, answered, variables_of_both, both_listed, both_occur}
use Rattle.fvn_cohere.proofs.Narrowed.{told}
use Rattle.fvn_cohere.proofs.losing.loses.Goals as goal

pub unchosen-requires : goal.unchosen-requires
unchosen-requires c = c.as_slice-ids.ensures.value ∙ c.in_ok-es.ensures

pub find-found-requires-clause-posed : goal.find-found-requires-clause-posed
find-found-requires-clause-posed c = record {
  identities_are = c.as_slice-ids.ensures.value ∙ c.in_ok-es.ensures;
  left_term = (c.requires.kinds.kind, c.requires.kinds.left);
  right_term = (c.requires.kinds.kind, c.requires.kinds.right);
  offers = offers_of c.args.sig.now c.recall_good.ensures c.recall_completed.ensures Loss c.as_slice-list.result.now c.as_slice-left_over.result.now
      (subst Distinct (sym (c.as_slice-list.ensures.value ∙ c.in_ok-vars.ensures)) (fold_distinct (variables (term c.args.left.now)) (distinct_variables_of (term c.args.right.now)) (fold_distinct (variables (term c.args.right.now)) [] tt)))
      (c.as_slice-left_over.ensures.value ∙ c.in_ok-all.ensures);
}

pub loss_by_sorts-requires : goal.loss_by_sorts-requires
loss_by_sorts-requires c = record {
  posed = record {
    identities_are = c.as_slice-ids.ensures.value ∙ c.in_ok-es.ensures;
    left_term = (c.requires.kinds.kind, c.requires.kinds.left);
    right_term = (c.requires.kinds.kind, c.requires.kinds.right);
    offers = offers_of c.args.sig.now c.recall_good.ensures c.recall_completed.ensures Loss c.as_slice-list.result.now c.as_slice-left_over.result.now
        (subst Distinct (sym (c.as_slice-list.ensures.value ∙ c.in_ok-vars.ensures)) (fold_distinct (variables (term c.args.left.now)) (distinct_variables_of (term c.args.right.now)) (fold_distinct (variables (term c.args.right.now)) [] tt)))
        (c.as_slice-left_over.ensures.value ∙ c.in_ok-all.ensures);
  };
  kinded = c.requires;
}

pub find-found-requires-clause-allowed : goal.find-found-requires-clause-allowed
find-found-requires-clause-allowed c = stays_allowed c.args.sig.now

pub returns-in-Some : goal.returns-in-Some
returns-in-Some c =
    let s : Search = record { sig = c.args.sig; identities = c.as_slice-ids.result; sought = Loss; left = c.args.left; right = c.args.right; unchosen = c.as_slice-left_over.result } in
    let listed : c.as_slice-list.result.now ≡ variables_of_both (term c.args.right.now) (term c.args.left.now) = c.as_slice-list.ensures.value ∙ c.in_ok-vars.ensures in
    told s c.recall_good.ensures c.recall_completed.ensures c.requires c.as_slice-list.result.now (c.as_slice-left_over.ensures.value ∙ c.in_ok-all.ensures)
    (λ x o. subst (λ l. Contains l x) (sym listed) (both_listed (term c.args.right.now) (term c.args.left.now) x o))
    (λ x i. both_occur (term c.args.right.now) (term c.args.left.now) c.requires.brings_none x (subst (λ l. Contains l x) listed i))
    c.in-Some.told (subst (λ o. MatchOption o (Unit {0}) (LosesIn s)) c.in-Some.is c.in_ok-told.ensures)

pub returns : goal.returns
returns c =
    let d = c.args.sig.now in
    let left = term c.args.left.now in
    let right = term c.args.right.now in
    answered d c.recall_good.ensures c.recall_completed.ensures (shapes_by Nothing) left right c.requires c.find-found.result
    (searched_loss_by d c.recall_good.ensures c.recall_completed.ensures (shapes_by Nothing) left right c.requires c.as_slice-ids.result.now c.as_slice-list.result.now c.as_slice-left_over.result.now c.find-found.result
    (c.as_slice-ids.ensures.value ∙ c.in_ok-es.ensures) (c.as_slice-list.ensures.value ∙ c.in_ok-vars.ensures) (c.as_slice-left_over.ensures.value ∙ c.in_ok-all.ensures) c.find-found.ensures)
