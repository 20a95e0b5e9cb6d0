-- What is noted heads the value.
use Rattle.std.proofs.Common.{List, length, get_or, sym, ap, ◌∙◌, arith, Option, None}
use Rattle.fvn_terms.specs.declared.plain.OpId.{OpId}
use Rattle.fvn_combine_nodes.specs.States.{class_of}
use Rattle.fvn_combine_inferring.proofs.Values.{name_within}
use Rattle.fvn_combine_inferring.proofs.EitherHead.{noted_head}
use Rattle.fvn_combine_inferring.proofs.possible.possible_heads.Goals as goal

pub head_at-requires : goal.head_at-requires
head_at-requires c =
    let w = c.requires.closed.whole in
    let k = c.requires.within in
    let n = c.requires.heads.as_many in
    let e = ap length c.as_slice.ensures.value in
    let m = name_within c.args.sig.now c.args.table.now c.args.state.now c.requires.closed c.args.k c.requires.within in
    record { within = omega (arith, w, k); heads = omega (arith, n, m, e) }

pub returns-in-Some : goal.returns-in-Some
returns-in-Some c =
    let s = c.args.state.now in
    let told = sym (ap (λ (l : List (Option OpId)). get_or l (class_of s c.args.k) None) c.as_slice.ensures.value) ∙ sym c.head_at.ensures ∙ c.in-Some.is in
    noted_head c.args.sig.now c.args.table.now s c.args.known.now.sorted c.requires.closed c.args.known.now.heads.items c.requires.heads c.args.k c.in-Some.f c.requires.within told
