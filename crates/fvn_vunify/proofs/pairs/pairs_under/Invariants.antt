-- The pairs so far, and those of what is left.
use Rattle.std.proofs.Common.{◌≡◌, ◌≤◌, ◌-◌, ◌++◌, map, length, drop}
use Rattle.fvn_forms.specs.Canon.{inst}
use Rattle.fvn_flat.specs.Bindings.{value}
use Rattle.fvn_vunify.specs.Sides.{two_by_two}
use Rattle.fvn_vunify.proofs.pairs.pairs_under.Given as goal

abbrev pub invariant-loop-i : goal.invariant-loop-i
invariant-loop-i l = record {
  within : l.i ≤ length l.terms;
  whole : l.pairs.items ++ two_by_two (map (inst l.sig (value l.names)) (drop l.i l.terms)) ≡ two_by_two (map (inst l.sig (value l.names)) l.terms);
}

abbrev pub decreases-loop-i : goal.decreases-loop-i
decreases-loop-i l = length l.terms - l.i
