-- One more node has its candidate.
use Rattle.std.proofs.Common.{length, sym, ap, subst, arith}
use Rattle.std.specs.Prelude.{IfSome}
use Rattle.std.proofs.lemmas.List.{length_push}
use Rattle.fvn_combine.specs.inner.Labels.{IsHeadOrCandidate, AreCandidates}
use Rattle.fvn_combine.proofs.Labelled.{candidates_pushed}
use Rattle.fvn_combine.proofs.labels.candidates_of.Goals as goal

pub loop-k-preserved : goal.loop-k-preserved
loop-k-preserved c =
    let k = c.args.task.now in
    let s = c.args.state.now in
    let heads = c.args.known.now.heads.items in
    let old = c.loop-k.candidates.items in
    let o = c.candidate_at.result in
    let many = c.loop-k.invariant.as_many in
    let here = subst (λ n. IfSome o (IsHeadOrCandidate k s heads n)) (sym many) c.candidate_at.ensures in
    let e = ap length c.in_ok-push.ensures.items in
    let m = length_push old o in
    record {
      candidates = subst (AreCandidates k s heads) (sym c.in_ok-push.ensures.items) (candidates_pushed k s heads old o c.loop-k.invariant.candidates here);
      as_many = omega (arith, e, m, many);
    }
