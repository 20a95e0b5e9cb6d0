-- Sorts without a result are looked for among those of the first declared rank's argument kinds.
use Rattle.std.proofs.Common.{◌≡◌, List, map, get_or, ap, subst, ◌∙◌}
use Rattle.std.specs.List.{Contains}
use Rattle.fvn_terms.specs.declared.declarations.Rank.{Rank}
use Rattle.fvn_terms.specs.Signature.{kind, declared}
use Rattle.fvn_forms.specs.Ranks.{ranks_of}
use Rattle.fvn_signature.specs.FoundAlike.{FindAlike}
use Rattle.fvn_sorts.specs.Faults.{HasNoResult}
use Rattle.fvn_sorts.specs.inner.Searches.{the_list, HasNoLowest}
use Rattle.fvn_sorts.proofs.FaultOrder.{IsFirstList-same}
use Rattle.fvn_sorts.proofs.ResultLemmas.{first_listed, arg_kinds_listed, no_result_by}
use Rattle.fvn_sorts.proofs.conditions.stages.without_result.Goals as goal
use Rattle.fvn_sorts.proofs.conditions.stages.without_result.Goals.{After-as_slice-2}

abbrev first : After-as_slice-2 → Rank
first c = get_or c.declared_ranks-ranks.result.now 0 c.index-ranks-0.result

listed : (c : After-as_slice-2) → Contains (declared c.args.draft.now.declarations c.args.op).ranks (first c)
listed c = first_listed c.declared_ranks-ranks.result.now _ c.index-ranks-0.result c.if-is_empty.ensures c.declared_ranks-ranks.ensures

kinds : (c : After-as_slice-2) → c.as_slice-2.result.now ≡ map (kind c.args.draft.now.declarations) (first c).args
kinds c = c.as_slice-2.ensures.value ∙ c.in_ok-kinds.ensures ∙ ap (map (kind c.args.draft.now.declarations)) c.as_slice.ensures

pub first_without-requires : goal.first_without-requires
first_without-requires c =
    let at = (goal.at.first_without-requires c).After-as_slice-2 in
    record { listed = rw (kinds at) (arg_kinds_listed c.args.draft.now c.args.op (first at) (listed at)) }

pub returns : goal.returns
returns c =
    let at = (goal.at.returns c).After-as_slice-2 in
    let d = c.args.draft.now.declarations in
    let f = c.args.op in
    let alike : FindAlike c.in_ok-fewer.fewer.items (ranks_of d f) = subst (λ (l : List Rank). FindAlike c.in_ok-fewer.fewer.items l) c.ranks_of.ensures c.in_ok-fewer.ensures in
    IsFirstList-same the_list (HasNoLowest d (map (kind d) (first at).args) c.in_ok-fewer.fewer.items) (HasNoResult c.args.collected.now f)
    (no_result_by c.args.collected.now c.requires.agree f (first at) d c.requires.draft.is (listed at) c.in_ok-fewer.fewer.items alike)
    c.in_ok-found.found (rw (kinds at, c.as_slice-3.ensures.value) at c.in_ok-found.ensures)
