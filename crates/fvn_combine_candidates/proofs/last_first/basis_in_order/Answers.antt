-- The minimal solutions are those of the system as it stands.
use Rattle.std.proofs.Common.{arith}
use Rattle.fvn_combine_candidates.proofs.Turned.{turned_fits, turned_minimal}
use Rattle.fvn_combine_candidates.proofs.last_first.basis_in_order.Goals as goal

pub basis-requires : goal.basis-requires
basis-requires c = turned_fits c.args.sums.now.system c.in_ok-turned.turned c.in_ok-turned.ensures c.requires.system

pub returns-in-Ok : goal.returns-in-Ok
returns-in-Ok c =
    let same = turned_minimal c.args.sums.now.system c.in_ok-turned.turned c.in_ok-turned.ensures in
    record {
      is_basis = record {
        minimal = λ v m. (same v).0 ((c.in-Ok.ensures.exact v).0 m);
        ordered = c.in-Ok.ensures.ordered;
        few = omega (arith, c.in-Ok.ensures.few, c.requires.most);
        narrow = c.in-Ok.ensures.narrow;
      };
      all = λ v h. (c.in-Ok.ensures.exact v).1 ((same v).1 h);
    }
