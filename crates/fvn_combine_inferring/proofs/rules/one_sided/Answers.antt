-- A side without classes is empty.
use Rattle.std.proofs.Common.{subst}
use Rattle.std.proofs.lemmas.List.{nil_from_length}
use Rattle.fvn_combine_inferring.specs.Rows.{AreSides}
use Rattle.fvn_combine_inferring.proofs.Told.{other_side}
use Rattle.fvn_combine_inferring.proofs.rules.one_sided.Goals as goal

pub emptied-requires-clause-sides : goal.emptied-requires-clause-sides
emptied-requires-clause-sides c =
    subst (AreSides c.args.sig.now c.args.table.now c.args.state.now c.args.f c.args.left.now) (nil_from_length c.args.right.now (c.has_none.ensures.0 c.if-has_none.true)) c.requires.sides

pub emptied-requires-then-has_none-2-clause-sides : goal.emptied-requires-then-has_none-2-clause-sides
emptied-requires-then-has_none-2-clause-sides c =
    subst (AreSides c.args.sig.now c.args.table.now c.args.state.now c.args.f c.args.right.now) (nil_from_length c.args.left.now (c.has_none-2.ensures.0 c.if-has_none-2.true))
    (other_side c.args.sig.now c.args.table.now c.args.state.now c.args.sorted c.args.f c.args.left.now c.args.right.now c.requires.sides)
