-- one number more
use Rattle.std.proofs.Common.{◌++◌, sym, ap, ◌∙◌, arith}
use Rattle.std.proofs.lemmas.List.{append_assoc}
use Rattle.std.proofs.lemmas.Slice.Zip.{AllZip-long}
use Rattle.fvn_match.proofs.Placing.{reduced-drop}
use Rattle.fvn_match.proofs.choices.reduced.Goals as goal

pub loop-i-preserved : goal.loop-i-preserved
loop-i-preserved c =
    let long = AllZip-long _ c.args.chosen.now c.args.ns.now c.requires in
    rw c.in_ok-push.ensures.items (append_assoc c.loop-i.all.items _ _ ∙ ap (λ l. c.loop-i.all.items ++ l) (sym (reduced-drop c.args.k c.args.ns.now c.args.chosen.now c.loop-i.i (omega arith) (omega arith))) ∙ c.loop-i.invariant)
