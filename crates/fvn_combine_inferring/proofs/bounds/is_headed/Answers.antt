-- Another operator heads the value.
use Rattle.std.proofs.Common.{List, length, ap, subst, arith, Option}
use Rattle.fvn_terms.specs.declared.plain.OpId.{OpId}
use Rattle.fvn_combine_nodes.specs.States.{class_of}
use Rattle.fvn_combine_inferring.specs.inner.Bounds.{IsHeadedApart}
use Rattle.fvn_combine_inferring.proofs.Values.{name_within, headed_summand}
use Rattle.fvn_combine_inferring.proofs.bounds.is_headed.Goals as goal

pub is_headed_apart-requires : goal.is_headed_apart-requires
is_headed_apart-requires c =
    let w = c.requires.closed.whole in
    let k = c.requires.within in
    let n = c.requires.heads.as_many in
    let e = ap length c.as_slice.ensures.value in
    let m = name_within c.args.sig.now c.args.table.now c.args.state.now c.requires.closed c.args.k c.requires.within in
    record { within = omega (arith, w, k); heads = omega (arith, n, m, e) }

pub returns : goal.returns
returns c t values go =
    let apart = subst (λ (l : List (Option OpId)). IsHeadedApart c.args.sig.now c.args.f l (class_of c.args.state.now c.args.k)) c.as_slice.ensures.value (c.is_headed_apart.ensures t) in
    headed_summand c.args.sig.now c.args.table.now c.args.state.now c.requires.closed c.args.known.now.sorted c.args.known.now.heads.items c.requires.heads values go c.args.f c.args.k c.requires.within apart
