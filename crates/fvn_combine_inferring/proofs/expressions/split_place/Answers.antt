-- One class is pushed, and the other one is written in its place.
use Rattle.std.proofs.Common.{◌∙◌, get_or, set, sym, ap, None}
use Rattle.std.proofs.lemmas.List.{get_or_default}
use Rattle.fvn_combine_inferring.proofs.expressions.split_place.Goals as goal

pub returns-in_ok-push-in-Some : goal.returns-in_ok-push-in-Some
returns-in_ok-push-in-Some c = (
  c.in-Some.p,
  ap (λ k. get_or c.args.splits.now k None) (get_or_default c.args.list.now.items c.args.place 0 c.index.result.now c.requires.place ∙ sym c.index.ensures) ∙ c.in-Some.is,
  ap (λ l. set l c.args.place c.in-Some.p.0) c.in_ok-push-in-Some.ensures.items,
)
