-- The kinds that were found are places in their list.
use Rattle.std.proofs.Common.{◌<◌, map, length, sym, subst, arith}
use Rattle.std.specs.List.{All}
use Rattle.std.proofs.lemmas.List.{length-map}
use Rattle.std.proofs.lemmas.List.Elements.{All-map}
use Rattle.fvn_terms.specs.declared.plain.SortId.{SortId}
use Rattle.fvn_forms.specs.SortOrder.{sort_number}
use Rattle.fvn_module_names.proofs.vocabulary.Vocabulary.collect.Goals as goal

pub returns-clause-in_range : goal.returns-clause-in_range
returns-clause-in_range c =
    let long = length-map c.in_ok-kinds.kinds.items sort_number in
    let f = c.in_ok-kinds.ensures.in_range in
    let s = c.in_ok-kinds.ensures.sorts in
    let m = c.in_ok-kinds.ensures.few in
    record {
      kinds = subst (λ n. All (λ (k : SortId). k.0 < n) (map sort_number c.in_ok-kinds.kinds.items)) (sym long)
          (All-map (λ (k : SortId). k.0 < length c.in_ok-kinds.kinds.items) sort_number c.in_ok-kinds.kinds.items f);
      sorts = omega arith;
      few = omega arith;
    }
