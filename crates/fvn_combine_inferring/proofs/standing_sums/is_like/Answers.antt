-- The classes that the node adds are those of the list.
use Rattle.std.proofs.Common.{◌∷◌, [], sym, subst}
use Rattle.fvn_combine_inferring.specs.Rows.{AreSides}
use Rattle.fvn_combine_inferring.proofs.Standing.{same_sides}
use Rattle.fvn_combine_inferring.proofs.standing_sums.is_like.Goals as goal

pub returns-in_ok-same-in-Some : goal.returns-in_ok-same-in-Some
returns-in_ok-same-in-Some c t =
    let d = c.args.sig.now in
    let f = c.args.addition.now.operator in
    let js = c.args.j ∷ [] in
    let classes = c.as_slice.result.now in
    same_sides d c.args.table.now c.args.state.now f js classes c.args.list.now
    (subst (AreSides d c.args.table.now c.args.state.now f js) (sym c.as_slice.ensures.value) (rw c.in-Some.is at c.in_ok-added.ensures.sides))
    (c.in_ok-same-in-Some.ensures t)
