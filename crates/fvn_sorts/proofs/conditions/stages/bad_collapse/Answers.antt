-- A bad collapse is looked for among the sorts of the first declared rank's kind.
use Rattle.std.proofs.Common.{get_or, sym, ap, ◌∙◌}
use Rattle.fvn_terms.specs.declared.declarations.Rank.{Rank}
use Rattle.fvn_terms.specs.Signature.{kind, declared}
use Rattle.fvn_terms.specs.Equality.{identity}
use Rattle.fvn_sorts.specs.Faults.{HasBadCollapse}
use Rattle.fvn_sorts.specs.inner.Searches.{one_sort, DoesNotCollapse}
use Rattle.fvn_sorts.proofs.FaultOrder.{IsFirstList-same}
use Rattle.fvn_sorts.proofs.ResultLemmas.{first_listed, first_kind_listed, bad_collapse}
use Rattle.fvn_sorts.proofs.conditions.stages.bad_collapse.Goals as goal

pub first_not_collapsing-requires : goal.first_not_collapsing-requires
first_not_collapsing-requires c = record { listed = first_kind_listed c.args.draft.now c.args.op c.declared_ranks-ranks.result.now c.index-ranks-0.result c.if-is_empty.ensures c.declared_ranks-ranks.ensures c.kind.result c.kind.ensures }

pub returns-in-Some : goal.returns-in-Some
returns-in-Some c =
    let d = c.args.draft.now.declarations in
    let f = c.args.op in
    let e = c.in-Some.identity in
    let ranks = c.declared_ranks-ranks.result.now in
    let first : Rank = get_or ranks 0 c.index-ranks-0.result in
    let listed = first_listed ranks (declared d f).ranks c.index-ranks-0.result c.if-is_empty.ensures c.declared_ranks-ranks.ensures in
    let k = kind d first.result in
    IsFirstList-same one_sort (DoesNotCollapse d f e k) (HasBadCollapse c.args.collected.now f)
    (bad_collapse c.args.collected.now c.requires.agree f first d c.requires.draft.is listed e (ap identity (sym c.axioms.ensures) ∙ sym c.in-Some.ensures))
    c.first_not_collapsing.result (rw c.kind.ensures at c.first_not_collapsing.ensures)
