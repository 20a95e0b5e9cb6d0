-- the pairs that are left decide
use Rattle.std.proofs.Common.{drop}
use Rattle.std.specs.Prelude.{◌↔◌}
use Rattle.std.specs.List.{AllZip}
use Rattle.fvn_match.specs.inner.Pairing.{HaveOneKind}
use Rattle.fvn_match.proofs.pairing.all_have_one_kind.Given as goal

abbrev pub invariant-loop-i : goal.invariant-loop-i
invariant-loop-i l = AllZip (HaveOneKind l.sig) l.patterns l.targets ↔ AllZip (HaveOneKind l.sig) (drop l.i l.patterns) (drop l.i l.targets)
