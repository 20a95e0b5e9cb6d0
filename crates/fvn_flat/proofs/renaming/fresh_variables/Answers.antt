-- Each variable is renamed once, and apart from the others.
use Rattle.std.proofs.Common.{sym, subst}
use Rattle.std.specs.Prelude.{Contains}
use Rattle.fvn_flat.specs.Bindings.{BindsOnce}
use Rattle.fvn_flat.proofs.ListedVariables.{pairs_distinct}
use Rattle.fvn_flat.proofs.Listed.{listed_if}
use Rattle.fvn_flat.proofs.Renamings.{renaming_binds_once, renaming_fits, listed_apart}
use Rattle.fvn_flat.proofs.renaming.fresh_variables.Goals as goal

pub invariant_of-s : goal.invariant_of-s
invariant_of-s c =
    subst BindsOnce (sym c.in_ok-pairs.ensures.named) (renaming_binds_once c.args.first c.args.vars.now (pairs_distinct c.args.vars.now c.requires.once))

pub returns-clause-apart : goal.returns-clause-apart
returns-clause-apart c =
    rw (c.in_ok-pairs.ensures.named, c.in_ok-pairs.ensures.next)
    (listed_apart (Contains c.args.vars.now) c.args.first c.args.vars.now (listed_if c.args.vars.now))

pub returns-clause-fits : goal.returns-clause-fits
returns-clause-fits c d = rw c.in_ok-pairs.ensures.named (renaming_fits d c.args.first c.args.vars.now)
