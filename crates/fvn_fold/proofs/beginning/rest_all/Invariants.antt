-- the normal forms so far, and what the equations keep once one is there
use Rattle.std.proofs.Common.{◌≤◌, take}
use Rattle.std.specs.List.{AllZip}
use Rattle.fvn_exploring.specs.Setting.{AreLawfulIn}
use Rattle.fvn_fold.specs.inner.Beginning.{IsRenamedForm}
use Rattle.fvn_fold.proofs.beginning.rest_all.Given as goal

abbrev pub invariant-loop-t : goal.invariant-loop-t
invariant-loop-t g l =
    AllZip (IsRenamedForm (g.E.Expander.setting l.expander) l.names) (take l.t-index l.start) l.terms.items
    × (1 ≤ l.t-index → AreLawfulIn (g.E.Expander.setting l.expander))
