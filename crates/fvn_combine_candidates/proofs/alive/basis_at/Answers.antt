-- The minimal solutions of the system with the row are those that are zero at it.
use Rattle.fvn_combine_candidates.proofs.Zeroed.{marked_fits, marked_minimal}
use Rattle.fvn_combine_candidates.proofs.alive.basis_at.Goals as goal

pub basis-requires : goal.basis-requires
basis-requires c = marked_fits c.args.system.now c.in_ok-marked.marked c.args.row.now c.in_ok-marked.ensures c.requires.row c.requires.system

pub returns-in-Ok : goal.returns-in-Ok
returns-in-Ok c =
    let same = marked_minimal c.args.system.now c.in_ok-marked.marked c.args.row.now c.in_ok-marked.ensures c.requires.row in
    record {
      exact = λ v. (λ m. (same v).0 ((c.in-Ok.ensures.exact v).0 m), λ h. (c.in-Ok.ensures.exact v).1 ((same v).1 h));
      narrow = c.in-Ok.ensures.narrow;
    }
