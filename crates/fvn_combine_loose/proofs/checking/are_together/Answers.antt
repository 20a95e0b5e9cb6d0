-- All nodes are in one class.
use Rattle.std.proofs.Common.{arith}
use Rattle.fvn_combine_nodes.specs.States.{class_of}
use Rattle.fvn_combine_loose.proofs.Checked.{together_from}
use Rattle.fvn_combine_loose.proofs.checking.are_together.Goals as goal

pub returns : goal.returns
returns c t =
    let end = c.loop-i-test.false in
    together_from (class_of c.args.state.now) c.args.ks.now c.args.ls.now c.if-ks-ls.false (λ k l. c.loop-i.invariant k (omega (arith, l, end)))
