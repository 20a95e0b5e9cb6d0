-- The first, by those behind it.
use Rattle.std.proofs.Common.{◌+◌, subst}
use Rattle.std.proofs.lemmas.Option.{slice_get_within}
use Rattle.fvn_forms.specs.Ranks.{ranks_of}
use Rattle.fvn_refine.specs.inner.Greatest.{AreServed}
use Rattle.fvn_refine.proofs.Greatest.{top_first}
use Rattle.fvn_refine.proofs.direct.top_low.Goals as goal

pub rank-rank-requires : goal.rank-rank-requires
rank-rank-requires c = slice_get_within (ranks_of c.args.sig.now c.args.f) c.in-Some.i c.in-Some.ensures.at c.in-Some.ensures.is

pub returns : goal.returns
returns c =
    let d = c.args.sig.now in
    let ranks = ranks_of c.args.sig.now c.args.f in
    top_first d c.args.s ranks c.in-Some.i c.in-Some.ensures c.rank-rank.result.now c.rank-rank.ensures
    (subst (AreServed d c.args.s ranks (c.in-Some.i + 1)) c.as_slice.ensures (c.are_served.ensures c.if-not-are_served.false))
