-- one piece more
use Rattle.std.proofs.Common.{◌++◌, ◌+◌, replicate, drop, get_or, sym, ap, ◌∙◌, arith}
use Rattle.std.proofs.lemmas.List.{append_assoc}
use Rattle.fvn_match.specs.inner.Tallies.{repeated}
use Rattle.fvn_match.specs.inner.Summands.{references}
use Rattle.fvn_match.proofs.Runs.{references-get, length_references}
use Rattle.fvn_match.proofs.Tallies.{repeated-drop}
use Rattle.fvn_match.proofs.wholes.copies.Goals as goal

pub loop-i-preserved : goal.loop-i-preserved
loop-i-preserved c =
    let xs = c.args.pieces.now in
    let ns = c.args.chosen.now in
    let i = c.loop-i.i in
    let t = c.index-pieces-i.result.now in
    let long = length_references xs in
    let rest = repeated (drop (i + 1) (references xs)) (drop (i + 1) ns) in
    let at = references-get xs i c.index-pieces-i.result (omega (arith, c.requires)) c.index-pieces-i.is in
    ap (λ l. l ++ rest) c.in_ok-all.ensures
    ∙ append_assoc c.loop-i.all.items (replicate (get_or ns i 0) t) rest
    ∙ ap (λ u. c.loop-i.all.items ++ (replicate (get_or ns i 0) u ++ rest)) at
    ∙ ap (λ l. c.loop-i.all.items ++ l) (sym (repeated-drop (references xs) ns i t (omega (arith, c.requires)) (omega arith)))
    ∙ c.loop-i.invariant
