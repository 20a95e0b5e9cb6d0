-- One more name.
use Rattle.std.proofs.Common.{sym, ap, ◌∙◌, get_or, set}
use Rattle.fvn_combine_tree.proofs.Joining.{renamed-same, renamed-other, renamed-step}
use Rattle.fvn_combine_tree.proofs.closing.rename.Goals as goal
use Rattle.fvn_combine_tree.proofs.closing.rename.Goals.{then-name-from, else-name-from}

pub loop-name-preserved : goal.loop-name-preserved
loop-name-preserved c =
    let xs = c.loop-name.names in
    let i = c.loop-name.name-index in
    let from = c.args.from in
    let to = c.args.to in
    let step = renamed-step from to c.args.names.now xs c.if-name-from.names i c.loop-name-test.true c.loop-name.auto.names c.loop-name.invariant in
    elim c.if-name-from.branch [
      | then-name-from w ↦ step (w.names-is ∙ ap (set xs i) (sym (renamed-same from to (get_or xs i 0) w.if-name-from.true)))
      | else-name-from w ↦ step (w.names-is ∙ ap (set xs i) (sym (renamed-other from to (get_or xs i 0) w.if-name-from.false)))
    ]
