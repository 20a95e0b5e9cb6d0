-- One more class of one number.
use Rattle.std.proofs.Common.{◌≡◌, [], ◌∷◌, ◌∙◌, arith}
use Rattle.std.specs.List.{range_with_len}
use Rattle.std.proofs.lemmas.List.{map-id}
use Rattle.std.proofs.lemmas.List.FromFn.{map-range_with_len_more}
use Rattle.fvn_module_names.proofs.ClassLemmas.{classed-new}
use Rattle.fvn_module_names.proofs.classes.Classes.new.Goals as goal

pub loop-i-preserved : goal.loop-i-preserved
loop-i-preserved c = record {
  labels = rw (c.in_ok-push-3.ensures.items, c.loop-i.invariant.labels, map-range_with_len_more (λ i. i) 0 c.loop-i.i c.loop-i.i (omega arith));
  members = rw (c.in_ok-push-2.ensures.items, c.loop-i.invariant.members, map-range_with_len_more (λ i. i ∷ []) 0 c.loop-i.i c.loop-i.i (omega arith), c.from_vec.ensures, c.in_ok-push.ensures.items, c.new-member.ensures.items);
}

pub invariant_of-result : goal.invariant_of-result
invariant_of-result c =
    let labels : c.loop-i.labels.items ≡ range_with_len 0 c.loop-i.i = c.loop-i.invariant.labels ∙ map-id (range_with_len 0 c.loop-i.i) in
    rw (labels, c.loop-i.invariant.members) (classed-new c.loop-i.i)
