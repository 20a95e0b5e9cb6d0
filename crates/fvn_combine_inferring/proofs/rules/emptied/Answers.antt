-- There is no identity, or all classes have its value.
use Rattle.std.proofs.Common.{length, subst}
use Rattle.fvn_flat.specs.Partitions.{HasNoIdentity}
use Rattle.fvn_combine_inferring.proofs.Told.{some_told, emptied_bare, emptied_met}
use Rattle.fvn_combine_inferring.proofs.rules.emptied.Goals as goal

pub returns-then-has_no_identity : goal.returns-then-has_no_identity
returns-then-has_no_identity c =
    let list = c.args.list.now in
    emptied_bare c.args.sig.now c.args.table.now c.args.state.now c.args.sorted c.args.f c.requires.sums c.requires.closed (subst HasNoIdentity c.axioms.ensures (c.has_no_identity.ensures.0 c.if-has_no_identity.true)) list
    (some_told (length list) c.has_none.result c.has_none.ensures.1 c.if-has_none.false) c.requires.sides

pub all_met-requires-clause-equal : goal.all_met-requires-clause-equal
all_met-requires-clause-equal c = emptied_met c.args.sig.now c.args.table.now c.args.state.now c.args.sorted c.args.f c.requires.sums c.requires.closed c.in-Some.n c.in-Some.ensures.unit c.args.list.now c.requires.sides
