-- One class alone may have the summand; nothing is said of sizes.
use Rattle.std.proofs.lemmas.List.Elements.{All-nil}
use Rattle.fvn_combine_inferring.specs.inner.Sizes.{IsSaid, size}
use Rattle.fvn_combine_inferring.proofs.Pairing.{held}
use Rattle.fvn_combine_inferring.proofs.Wholes.{single_holds}
use Rattle.fvn_combine_inferring.proofs.held.only_holder.Goals as goal

pub candidate-requires-clause-insides : goal.candidate-requires-clause-insides
candidate-requires-clause-insides c values go = All-nil (IsSaid (size c.args.state.now values))

pub is_only-requires-clause-insides : goal.is_only-requires-clause-insides
is_only-requires-clause-insides c values go = All-nil (IsSaid (size c.args.state.now values))

pub returns-else-not-is_only-clause-holds : goal.returns-else-not-is_only-clause-holds
returns-else-not-is_only-clause-holds c =
    let d = c.args.sig.now in
    let t = c.args.table.now in
    let s = c.args.state.now in
    let sorted = c.args.known.now.sorted in
    let f = c.args.addition.now.operator in
    let one = c.is_summand.ensures c.if-not-is_summand.false in
    single_holds d t s sorted f c.args.k c.in-Some.l one
    (held d t s c.requires.closed sorted f c.args.k c.in-Some.l c.args.list.now one c.requires.among (c.is_only.ensures c.if-not-is_only.false))
