-- The operator with its system.
use Rattle.std.proofs.Common.{sym, subst}
use Rattle.fvn_combine_nodes.specs.States.{class_of}
use Rattle.fvn_combine_leaves.specs.Readings.{AreSums}
use Rattle.fvn_combine_reading.proofs.Gathered.{sums_are}
use Rattle.fvn_combine_reading.proofs.reading.sums_of.Goals as goal

pub returns-clause-sums : goal.returns-clause-sums
returns-clause-sums c =
    let d = c.args.sig.now in
    let t = c.args.table.now in
    let class = class_of c.args.state.now in
    let f = c.args.f in
    let columns = c.in_ok-sums.sums.columns in
    let system = c.in_ok-sums.sums.system in
    subst (λ u. AreSums d t class (record { operator = f; columns = columns; system = system; used = u })) (sym c.from_vec.ensures)
    (sums_are d t class f c.requires.associative columns system c.in_ok-sums.ensures.exact c.in_ok-used.used.items c.in_ok-sums.ensures.system c.in_ok-used.ensures)
