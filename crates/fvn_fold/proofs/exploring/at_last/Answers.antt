-- a next variant is left, or none
use Rattle.std.proofs.Common.{get_or, refl, sym, ap, ◌∙◌, inl, inr, arith}
use Rattle.fvn_fold.proofs.Rounds.{none_left, some_left}
use Rattle.fvn_fold.proofs.exploring.at_last.Goals as goal

pub returns-then-is_empty : goal.returns-then-is_empty
returns-then-is_empty c = inr record {
  last = refl;
  none = none_left c.args.level.next c.is_empty.result c.is_empty.ensures c.if-is_empty.true;
  kept = c.in_ok-x.ensures.kept;
  pruned = c.in_ok-x.ensures.pruned;
  is_end = c.in_ok-x.ensures.end ∙ c.into_explore_end.ensures;
}

pub remove-requires : goal.remove-requires
remove-requires c =
    let some = some_left c.args.level.next c.is_empty.result c.is_empty.ensures c.if-is_empty.false in
    omega (arith, some, c.args.level.next.ok.0)

pub returns : goal.returns
returns c = inl record {
  last = refl;
  variant = c.into_variant-v.result;
  listed = (0, some_left c.args.level.next c.is_empty.result c.is_empty.ensures c.if-is_empty.false, sym (c.into_variant-v.ensures ∙ c.remove.ensures.value ∙ ap (λ v. get_or c.args.level.next.items 0 v) (sym c.into_variant-v.ensures)));
  kept = c.in_ok-x-2.ensures.kept;
  pruned = c.in_ok-x-2.ensures.pruned;
  is_end = c.in_ok-x-2.ensures.end;
}
