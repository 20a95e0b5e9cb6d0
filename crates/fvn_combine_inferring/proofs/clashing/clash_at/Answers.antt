-- What is noted heads the class of the sum.
use Rattle.std.proofs.Common.{List, length, get_or, sym, ap, ◌∙◌, arith, Option, None}
use Rattle.fvn_terms.specs.declared.plain.OpId.{OpId}
use Rattle.fvn_combine_nodes.specs.States.{class_of}
use Rattle.fvn_combine_inferring.proofs.Values.{name_within}
use Rattle.fvn_combine_inferring.proofs.clashing.clash_at.Goals as goal

pub head_at-requires : goal.head_at-requires
head_at-requires c =
    let w = c.requires.closed.whole in
    let k = c.in-Some.ensures.is.node in
    let n = c.requires.heads.as_many in
    let e = ap length c.as_slice.ensures.value in
    let m = name_within c.args.sig.now c.args.table.now c.args.state.now c.requires.closed c.in-Some.e.node c.in-Some.ensures.is.node in
    record { within = omega (arith, w, k); heads = omega (arith, n, m, e) }

pub clash_with_head-requires-clause-head : goal.clash_with_head-requires-clause-head
clash_with_head-requires-clause-head c =
    sym (ap (λ (l : List (Option OpId)). get_or l (class_of c.args.state.now c.in-Some.e.node) None) c.as_slice.ensures.value) ∙ sym c.head_at.ensures ∙ c.in-Some-head_at.is
