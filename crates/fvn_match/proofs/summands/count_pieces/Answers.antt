-- one run more
use Rattle.std.proofs.Common.{◌≡◌, ◌++◌, ◌∷◌, [], drop, ap, ◌∙◌, get_or}
use Rattle.std.proofs.lemmas.List.{take_rest}
use Rattle.fvn_match.specs.inner.Summands.{references}
use Rattle.fvn_match.proofs.Runs.{Counting, references-append, counting_more}
use Rattle.fvn_match.proofs.summands.count_pieces.Goals as goal

pub loop-rest-preserved : goal.loop-rest-preserved
loop-rest-preserved c =
    let rest = c.loop-rest.rest.now in
    let k = c.run-k.result in
    let t = c.index-rest-0.result in
    let head : t ≡ get_or rest 0 t = c.index-rest-0.is in
    let more : Counting c.args.ts.now (references c.loop-rest.pieces.items ++ t ∷ []) (c.loop-rest.left.items ++ k ∷ []) (drop k rest) = counting_more c.args.ts.now (references c.loop-rest.pieces.items) c.loop-rest.left.items rest k t c.loop-rest.invariant c.run-k.ensures head in
    let pieces : references c.push.new.self.items ≡ references c.loop-rest.pieces.items ++ t ∷ [] = ap references c.in_ok-push.ensures.items ∙ references-append c.loop-rest.pieces.items _ in
    rw (pieces, c.in_ok-push-2.ensures.items, take_rest rest k) more
