-- The class is the whole list, or the only one that may hold the summands.
use Rattle.std.proofs.Common.{length}
use Rattle.fvn_combine_inferring.proofs.Wholes.{alone_holds, alone_within}
use Rattle.fvn_combine_inferring.proofs.held.whole_of.Goals as goal

pub returns-in-Some : goal.returns-in-Some
returns-in-Some c =
    let t = c.args.table.now in
    record {
      within = alone_within (length t.nodes) c.in-Some.l c.args.list.now c.in-Some.ensures c.requires.list;
      holds = alone_holds c.args.sig.now t c.args.state.now c.args.known.now.sorted c.args.addition.now.operator c.args.k c.in-Some.l c.args.list.now c.in-Some.ensures c.requires.among;
    }
