-- All nodes are in other classes.
use Rattle.std.proofs.Common.{arith}
use Rattle.fvn_combine_nodes.specs.States.{class_of}
use Rattle.fvn_combine_loose.proofs.Checked.{absent_from}
use Rattle.fvn_combine_loose.proofs.checking.is_absent.Goals as goal

pub returns : goal.returns
returns c _ =
    let end = c.loop-p-test.false in
    absent_from (class_of c.args.state.now) c.args.ks.now c.args.class (λ k l. c.loop-p.invariant k (omega (arith, l, end)))
