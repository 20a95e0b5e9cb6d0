-- Some of the rows of the system.
use Rattle.std.proofs.Common.{sym, subst, All, Contains}
use Rattle.fvn_combine_candidates.proofs.last_first.system_left.Goals as goal

pub returns-clause-rows : goal.returns-clause-rows
returns-clause-rows c =
    subst (All (Contains c.args.system.now.rows)) (sym c.from_vec.ensures)
    (subst (λ rows. All (Contains rows) c.in_ok-rows.rows.items) c.as_slice.ensures c.in_ok-rows.ensures)
