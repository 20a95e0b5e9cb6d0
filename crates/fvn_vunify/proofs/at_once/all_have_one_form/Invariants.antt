-- Where those that are left are alike, all are.
use Rattle.std.proofs.Common.{◌≤◌, ◌-◌, length}
use Rattle.fvn_vunify.proofs.AtOnce.{IsLeftAlike}
use Rattle.fvn_vunify.proofs.at_once.all_have_one_form.Given as goal

abbrev pub invariant-loop-i : goal.invariant-loop-i
invariant-loop-i g l = record {
  within : l.i ≤ length l.terms;
  left : IsLeftAlike (g.E.Expander.setting l.expander) l.terms l.i;
}

abbrev pub decreases-loop-i : goal.decreases-loop-i
decreases-loop-i g l = length l.terms - l.i
