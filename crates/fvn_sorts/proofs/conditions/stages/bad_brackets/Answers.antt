-- Bad brackets are looked for among the sorts of the first declared rank's kind.
use Rattle.std.proofs.Common.{get_or, refl, subst}
use Rattle.fvn_terms.specs.declared.declarations.Rank.{Rank}
use Rattle.fvn_terms.specs.Signature.{kind, declared, axioms}
use Rattle.fvn_terms.specs.Equality.{IsAssociative}
use Rattle.fvn_sorts.specs.declared.conditions.brackets.Triple.{Triple}
use Rattle.fvn_sorts.specs.Faults.{HasBadBrackets}
use Rattle.fvn_sorts.specs.inner.Searches.{three_sorts, AreBad}
use Rattle.fvn_sorts.proofs.FaultOrder.{IsFirstList-same}
use Rattle.fvn_sorts.proofs.ResultLemmas.{first_listed, first_kind_listed, bad_brackets}
use Rattle.fvn_sorts.proofs.conditions.stages.bad_brackets.Goals as goal

pub bad_triple-requires : goal.bad_triple-requires
bad_triple-requires c = record { listed = first_kind_listed c.args.draft.now c.args.op c.declared_ranks-ranks.result.now c.index-ranks-0.result c.if-is_empty.ensures c.declared_ranks-ranks.ensures c.kind.result c.kind.ensures }

pub returns : goal.returns
returns c =
    let d = c.args.draft.now.declarations in
    let f = c.args.op in
    let ranks = c.declared_ranks-ranks.result.now in
    let first : Rank = get_or ranks 0 c.index-ranks-0.result in
    let listed = first_listed ranks (declared d f).ranks c.index-ranks-0.result c.if-is_empty.ensures c.declared_ranks-ranks.ensures in
    let k = kind d first.result in
    let assoc : IsAssociative (axioms d f) = subst IsAssociative c.axioms.ensures (c.if-not-is_sum.ensures.holds.0 refl) in
    IsFirstList-same three_sorts (AreBad d f k) (λ (t : Triple). HasBadBrackets c.args.collected.now f t.first t.second t.third)
    (bad_brackets c.args.collected.now c.requires.agree f first d c.requires.draft.is listed assoc)
    c.bad_triple.result (rw c.kind.ensures at c.bad_triple.ensures)
