-- One more operator.
use Rattle.std.proofs.Common.{◌+◌, sym, ◌∙◌, subst}
use Rattle.std.proofs.lemmas.Bool.{false≢true}
use Rattle.fvn_combine_nodes.specs.States.{class_of}
use Rattle.fvn_combine_candidates.specs.inner.Walking.{AreUsersBelow}
use Rattle.fvn_combine_candidates.proofs.Entries.{within_other, read_of_other}
use Rattle.fvn_combine_candidates.proofs.Walked.{not_user, one_user}
use Rattle.fvn_combine_candidates.proofs.sharing.users_of.Goals as goal

pub loop-i-preserved-then-not-may_be_sum : goal.loop-i-preserved-then-not-may_be_sum
loop-i-preserved-then-not-may_be_sum c =
    let sums = c.args.reading.now.sums in
    let i = c.loop-i.i in
    let e = c.index-sums-i.result in
    not_user c.args.sig.now c.args.table.now (class_of c.args.state.now) c.args.sorted sums c.requires.reading.operators.distinct c.args.k i c.loop-i.users.items e
    (within_other c.as_slice-sums.result.now sums i c.as_slice-sums.ensures c.loop-i-test.true) (read_of_other c.as_slice-sums.result.now sums i e c.as_slice-sums.ensures c.index-sums-i.is)
    (λ u. false≢true (sym c.if-not-may_be_sum.true ∙ c.may_be_sum.ensures.1 u)) c.loop-i.invariant

pub loop-i-preserved : goal.loop-i-preserved
loop-i-preserved c =
    let d = c.args.sig.now in
    let t = c.args.table.now in
    let class = class_of c.args.state.now in
    let sums = c.args.reading.now.sums in
    let i = c.loop-i.i in
    let e = c.index-sums-i.result in
    subst (AreUsersBelow d t class c.args.sorted sums c.args.k (i + 1)) (sym c.in_ok-push.ensures.items)
    (one_user d t class c.args.sorted sums c.requires.reading.operators.distinct c.args.k i c.loop-i.users.items e
    (within_other c.as_slice-sums.result.now sums i c.as_slice-sums.ensures c.loop-i-test.true) (read_of_other c.as_slice-sums.result.now sums i e c.as_slice-sums.ensures c.index-sums-i.is)
    (c.may_be_sum.ensures.0 c.if-not-may_be_sum.false) c.loop-i.invariant)
