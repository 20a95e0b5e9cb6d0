-- zeros up to here, and then the choice as it was
use Rattle.std.proofs.Common.{◌≡◌, ◌++◌, replicate, drop}
use Rattle.std.specs.Prelude.{sum}
use Rattle.fvn_match.specs.inner.Choices.{advanced}
use Rattle.fvn_match.proofs.Placing.{zeros_before}
use Rattle.fvn_match.proofs.choices.advanced.Given as goal

abbrev pub invariant-loop-i : goal.invariant-loop-i
invariant-loop-i l = record {
  placed : l.all.items ≡ replicate l.i 0 ++ drop l.i l.initial.all.items;
  left : l.together ≡ sum (drop l.i l.initial.all.items);
  same : advanced l.room l.limits l.initial.all.items ≡ zeros_before l.i (advanced l.room (drop l.i l.limits) (drop l.i l.initial.all.items));
}
