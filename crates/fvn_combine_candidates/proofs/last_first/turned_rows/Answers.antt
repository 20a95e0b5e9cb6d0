-- One more row from the end.
use Rattle.std.proofs.Common.{◌∷◌, [], ◌++◌, length, take, reverse, sym, ap, ◌∙◌, arith}
use Rattle.std.proofs.lemmas.List.{append-nil, length-reverse, take_all}
use Rattle.fvn_combine_candidates.proofs.Turned.{more_turned}
use Rattle.fvn_combine_candidates.proofs.last_first.turned_rows.Goals as goal

pub loop-i-init : goal.loop-i-init
loop-i-init c = sym (append-nil c.args.first.items)

pub loop-i-preserved : goal.loop-i-preserved
loop-i-preserved c =
    rw (c.in_ok-push.ensures.items, c.loop-i.invariant, c.in_ok-row.ensures)
    (ap (λ x. (c.args.first.items ++ take c.loop-i.i (reverse c.args.rows.now)) ++ x ∷ []) c.index-rows-rows.is
    ∙ more_turned c.args.first.items c.args.rows.now c.loop-i.i c.index-rows-rows.result c.loop-i-test.true)

pub returns : goal.returns
returns c =
    let all = length-reverse c.args.rows.now in
    c.loop-i.invariant ∙ ap (λ xs. c.args.first.items ++ xs) (take_all c.loop-i.i (reverse c.args.rows.now) (omega (arith, all, c.loop-i-test.false)))
