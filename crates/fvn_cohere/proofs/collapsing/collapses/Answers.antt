-- What the searches find.
use Rattle.std.proofs.Common.{[], refl, sym, subst, ◌∙◌}
use Rattle.fvn_terms.specs.Plain.{term}
use Rattle.fvn_flat.specs.Problems.{variables}
use Rattle.fvn_flat.proofs.ListedVariables.{Distinct}
use Rattle.fvn_cohere.specs.declared.shapes.Chosen.{Nothing}
use Rattle.fvn_cohere.specs.declared.searching.Sought.TheVariants.{ToVariable, ToIdentity}
use Rattle.fvn_cohere.specs.inner.Searching.{shapes_by}
use Rattle.fvn_cohere.proofs.Hopeless.{stays_allowed, offers_of, fold_distinct}
use Rattle.fvn_cohere.proofs.Found.{variable_found, no_variable, identity_found, no_identity, searched_by}
use Rattle.fvn_cohere.proofs.collapsing.collapses.Goals as goal

pub unchosen-requires : goal.unchosen-requires
unchosen-requires c = c.as_slice-ids.ensures.value ∙ c.in_ok-es.ensures

pub find-requires-clause-posed : goal.find-requires-clause-posed
find-requires-clause-posed c = record {
  identities_are = c.as_slice-ids.ensures.value ∙ c.in_ok-es.ensures;
  left_term = c.requires;
  right_term = c.requires;
  offers = offers_of c.args.sig.now c.recall_good.ensures c.recall_completed.ensures ToVariable c.as_slice-list.result.now c.as_slice-left_over.result.now
      (subst Distinct (sym (c.as_slice-list.ensures.value ∙ c.in_ok-vars.ensures)) (fold_distinct (variables (term c.args.left.now)) [] tt))
      (c.as_slice-left_over.ensures.value ∙ c.in_ok-all.ensures);
}

pub find-requires-clause-allowed : goal.find-requires-clause-allowed
find-requires-clause-allowed c = stays_allowed c.args.sig.now

pub find-requires-2-clause-posed : goal.find-requires-2-clause-posed
find-requires-2-clause-posed c = record {
  identities_are = c.as_slice-ids.ensures.value ∙ c.in_ok-es.ensures;
  left_term = c.requires;
  right_term = c.requires;
  offers = offers_of c.args.sig.now c.recall_good.ensures c.recall_completed.ensures ToVariable c.as_slice-list.result.now c.as_slice-left_over.result.now
      (subst Distinct (sym (c.as_slice-list.ensures.value ∙ c.in_ok-vars.ensures)) (fold_distinct (variables (term c.args.left.now)) [] tt))
      (c.as_slice-left_over.ensures.value ∙ c.in_ok-all.ensures);
}

pub find-requires-2-clause-allowed : goal.find-requires-2-clause-allowed
find-requires-2-clause-allowed c = stays_allowed c.args.sig.now

pub returns-then-find : goal.returns-then-find
returns-then-find c =
    variable_found c.args.sig.now c.recall_good.ensures c.recall_completed.ensures (shapes_by Nothing) (term c.args.left.now) c.requires
    (sym (searched_by c.args.sig.now c.recall_good.ensures c.recall_completed.ensures (shapes_by Nothing) (term c.args.left.now) c.requires ToVariable ToVariable c.as_slice-ids.result.now c.as_slice-list.result.now c.as_slice-left_over.result.now c.find.result
    (c.as_slice-ids.ensures.value ∙ c.in_ok-es.ensures) (c.as_slice-list.ensures.value ∙ c.in_ok-vars.ensures) (c.as_slice-left_over.ensures.value ∙ c.in_ok-all.ensures) refl c.find.ensures)
    ∙ c.if-find.true)

pub returns-then-find-2 : goal.returns-then-find-2
returns-then-find-2 c = (
  no_variable c.args.sig.now c.recall_good.ensures c.recall_completed.ensures (shapes_by Nothing) (term c.args.left.now) c.requires
      (sym (searched_by c.args.sig.now c.recall_good.ensures c.recall_completed.ensures (shapes_by Nothing) (term c.args.left.now) c.requires ToVariable ToVariable c.as_slice-ids.result.now c.as_slice-list.result.now c.as_slice-left_over.result.now c.find.result
      (c.as_slice-ids.ensures.value ∙ c.in_ok-es.ensures) (c.as_slice-list.ensures.value ∙ c.in_ok-vars.ensures) (c.as_slice-left_over.ensures.value ∙ c.in_ok-all.ensures) refl c.find.ensures)
      ∙ c.if-find.false),
  identity_found c.args.sig.now c.recall_good.ensures c.recall_completed.ensures (shapes_by Nothing) (term c.args.left.now) c.requires
      (sym (searched_by c.args.sig.now c.recall_good.ensures c.recall_completed.ensures (shapes_by Nothing) (term c.args.left.now) c.requires ToVariable ToIdentity c.as_slice-ids.result.now c.as_slice-list.result.now c.as_slice-left_over.result.now c.find-2.result
      (c.as_slice-ids.ensures.value ∙ c.in_ok-es.ensures) (c.as_slice-list.ensures.value ∙ c.in_ok-vars.ensures) (c.as_slice-left_over.ensures.value ∙ c.in_ok-all.ensures) refl c.find-2.ensures)
      ∙ c.if-find-2.true),
)

pub returns : goal.returns
returns c = (
  no_variable c.args.sig.now c.recall_good.ensures c.recall_completed.ensures (shapes_by Nothing) (term c.args.left.now) c.requires
      (sym (searched_by c.args.sig.now c.recall_good.ensures c.recall_completed.ensures (shapes_by Nothing) (term c.args.left.now) c.requires ToVariable ToVariable c.as_slice-ids.result.now c.as_slice-list.result.now c.as_slice-left_over.result.now c.find.result
      (c.as_slice-ids.ensures.value ∙ c.in_ok-es.ensures) (c.as_slice-list.ensures.value ∙ c.in_ok-vars.ensures) (c.as_slice-left_over.ensures.value ∙ c.in_ok-all.ensures) refl c.find.ensures)
      ∙ c.if-find.false),
  no_identity c.args.sig.now c.recall_good.ensures c.recall_completed.ensures (shapes_by Nothing) (term c.args.left.now) c.requires
      (sym (searched_by c.args.sig.now c.recall_good.ensures c.recall_completed.ensures (shapes_by Nothing) (term c.args.left.now) c.requires ToVariable ToIdentity c.as_slice-ids.result.now c.as_slice-list.result.now c.as_slice-left_over.result.now c.find-2.result
      (c.as_slice-ids.ensures.value ∙ c.in_ok-es.ensures) (c.as_slice-list.ensures.value ∙ c.in_ok-vars.ensures) (c.as_slice-left_over.ensures.value ∙ c.in_ok-all.ensures) refl c.find-2.ensures)
      ∙ c.if-find-2.false),
)
