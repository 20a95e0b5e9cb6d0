-- One more of the rows.
use Rattle.std.proofs.Common.{◌-◌, length, sym, ◌∙◌, subst, arith, All, Contains}
use Rattle.std.proofs.lemmas.List.Elements.{All-nil, All-push, Contains-get_or}
use Rattle.fvn_combine_candidates.proofs.defining.copied_left.Goals as goal

pub loop-i-init : goal.loop-i-init
loop-i-init c =
    let P = Contains c.args.rows.now in
    subst (All P) (sym c.new-list.ensures.items) (All-nil P)

pub loop-i-preserved : goal.loop-i-preserved
loop-i-preserved c =
    let rows = c.args.rows.now in
    let row = c.in_ok-row.row in
    let l = c.loop-i-test.true in
    let at : Contains rows row =
    subst (Contains rows) (sym (c.in_ok-row.ensures ∙ c.index-rows-place.is))
    (Contains-get_or rows (length rows - 1 - c.loop-i.i) c.index-rows-place.result (omega (arith, l))) in
    subst (All (Contains rows)) (sym c.in_ok-push.ensures.items) (All-push (Contains rows) c.loop-i.list.items row c.loop-i.invariant at)
